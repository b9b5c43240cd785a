-- How large the least that walks give is.
use Rattle.std.proofs.Common.{◌≡◌, ℕ, suc, ◌+◌, ◌*◌, ◌<◌, ◌≤◌, List, [], ◌∷◌, length, map, All, Option, Some, None, arith}
use Rattle.std.specs.List.{range_with_len}
use Rattle.std.specs.Option.{ForSome}
use Rattle.std.proofs.lemmas.List.Elements.{All-map, All-weaker, All-contains, All-same}
use Rattle.graph_model.specs.Arcs.{Arc}
use Rattle.graph_model.specs.Walks.{IsWalk, cost_of}
use Rattle.graph_model.specs.Least.{Fares, IsLeast}
use Rattle.graph_model.proofs.WalkLaws.{cost_of-cons}
use Rattle.cluster_laws.proofs.Counting.{range_below}

-- one more product
one_more : (n k : ℕ) → suc n * k ≡ k + n * k
one_more n k = grind arith

-- a greater product
product_grows : (n m k : ℕ) → n ≤ m → n * k ≤ m * k
product_grows n m k h = grind arith

-- a path costs no more than its arcs may, each
path_within : (cost : ℕ → ℕ) (most : ℕ) (arcs : List Arc) → All (λ arc. cost arc.weight ≤ most) arcs → (path : List Arc) (u v : ℕ) → IsWalk arcs u path v → cost_of cost path ≤ length path * most
path_within cost most arcs light [] u v walk = omega arith
path_within cost most arcs light (arc ∷ rest) u v walk =
    let here : cost arc.weight ≤ most = All-contains (λ arc. cost arc.weight ≤ most) arcs arc light walk.0 in
    omega (arith, here, path_within cost most arcs light rest arc.head v walk.2, cost_of-cons cost arc rest, one_more (length rest) most)

-- so neither does the least of walks that start with 0, of no more than so many arcs
pub least_within : (fares : Fares) (arcs : List Arc) (most rounds v : ℕ) (least : Option ℕ)
    → ((u begin : ℕ) → fares.start u ≡ Some begin → begin ≡ 0) → All (λ arc. fares.cost arc.weight ≤ most) arcs
    → IsLeast fares arcs (Some rounds) v least → ForSome least (λ x. x ≤ rounds * most)
least_within fares arcs most rounds v None zero light is x same = absurd (cc)
least_within fares arcs most rounds v (Some least) zero light is x same =
    let gives = is.0 in
    let none : gives.begin ≡ 0 = zero gives.from gives.begin gives.starts in
    let path = path_within fares.cost most arcs light gives.path gives.from v gives.walk in
    let more : length gives.path * most ≤ rounds * most = product_grows (length gives.path) rounds most gives.short in
    let found : least ≡ x = grind arith in
    omega (arith, none, path, more, found, gives.adds_up)

-- what holds of the answer of each vertex holds of each answer
pub all_answers : (P : Option ℕ → Type 0) (f : ℕ → Option ℕ) (nodes : ℕ) (answers : List (Option ℕ)) → answers ≡ map f (range_with_len 0 nodes) → ((v : ℕ) → v < nodes → P (f v)) → All P answers
all_answers P f nodes answers is each =
    All-same P answers (map f (range_with_len 0 nodes)) is
    (All-map P f (range_with_len 0 nodes) (All-weaker (λ v. v < nodes) (λ v. P (f v)) each (range_with_len 0 nodes) (range_below 0 nodes nodes (omega arith))))
