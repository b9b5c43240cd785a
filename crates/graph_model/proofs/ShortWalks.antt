-- A walk that comes back to a node may be cut short, so walks of fewer arcs than nodes give the least.
use Rattle.std.proofs.Common.{◌≡◌, ℕ, ◌+◌, ◌<◌, ◌≤◌, ◌⊎◌, inl, inr, List, [], ◌∷◌, length, map, true, false, eqb, Option, Some, None, All, Contains, refl, sym, subst, arith}
use Rattle.std.specs.List.{IsDistinct, AllByRecursion, list_any}
use Rattle.std.proofs.lemmas.Bool.{false≢true}
use Rattle.std.proofs.lemmas.Bool.Decides.{eqb_tells}
use Rattle.std.proofs.lemmas.List.{length-map}
use Rattle.std.proofs.lemmas.List.Elements.{All-map, All-append, All-contains, All-weaker}
use Rattle.std.proofs.lemmas.Map.Steps.{length-le_from_distinct_below}
use Rattle.graph_model.specs.Graph.{Graph, IsGraph, IsWithin}
use Rattle.graph_model.specs.Arcs.{Arc, out_arc, in_arc, arcs_of}
use Rattle.graph_model.specs.Walks.{IsWalk, cost_of}
use Rattle.graph_model.specs.Least.{Fares, Gives, IsLeast}
use Rattle.graph_model.specs.Laws.{WalksShorten, LeastIsWithinNodes}
use Rattle.graph_model.specs.declared.edge.Way.{Way}
use Rattle.graph_model.specs.declared.edge.Way.TheVariants.{Outward, Inward, Both}
use Rattle.graph_model.proofs.WalkLaws.{IsWalk_from, cost_of-cons}
use Rattle.graph_model.proofs.LeastLaws.{Gives_all}

-- this number is not among these
abbrev IsApart : ℕ → List ℕ → Type 0
IsApart v xs = AllByRecursion (λ x. eqb v x ≡ false) xs

-- where the arcs of a path start
abbrev tails : List Arc → List ℕ
tails path = map (λ arc. arc.tail) path

-- a walk that costs no more than this, and comes to no node twice
record IsSimple (arcs : List Arc) (cost : ℕ → ℕ) (u v most : ℕ) : Type 0 where
  path : List Arc
  walk : IsWalk arcs u path v
  cheap : cost_of cost path ≤ most
  apart : IsApart v (tails path)
  distinct : IsDistinct eqb (tails path)

-- a node stands nowhere in a path, or the path may start there
start_at : (arcs : List Arc) (cost : ℕ → ℕ) (u w v : ℕ) (path : List Arc) → IsWalk arcs w path v → IsApart v (tails path) → IsDistinct eqb (tails path) → IsApart u (tails path) ⊎ IsSimple arcs cost u v (cost_of cost path)
unfolding IsDistinct
start_at arcs cost u w v [] walk apart distinct = inl tt
start_at arcs cost u w v (arc ∷ rest) walk apart distinct =
    elim (eqb_tells u arc.tail) [
      | inl same ↦ inr (record {
        path = arc ∷ rest;
        walk = (walk.0, sym same.1, walk.2);
        cheap = omega arith;
        apart = apart;
        distinct = distinct;
      })
      | inr other ↦ (elim (start_at arcs cost u arc.head v rest walk.2 apart.1 distinct.1) [
        | inl nowhere ↦ inl (other.0, nowhere)
        | inr later ↦ inr (record {
          path = later.path;
          walk = later.walk;
          cheap = omega (arith, later.cheap, cost_of-cons cost arc rest);
          apart = later.apart;
          distinct = later.distinct;
        })
      ])
    ]

-- an arc before a walk that comes to no node twice
lengthen : (arcs : List Arc) (cost : ℕ → ℕ) (v most : ℕ) (arc : Arc) → Contains arcs arc → IsSimple arcs cost arc.head v most → IsSimple arcs cost arc.tail v (cost arc.weight + most)
unfolding IsDistinct
lengthen arcs cost v most arc member rest =
    elim (eqb_tells v arc.tail) [
      | inl same ↦ record { path = []; walk = sym same.1; cheap = omega arith; apart = tt; distinct = tt }
      | inr other ↦ (elim (start_at arcs cost arc.tail arc.head v rest.path rest.walk rest.apart rest.distinct) [
        | inl nowhere ↦ record {
          path = arc ∷ rest.path;
          walk = (member, refl, rest.walk);
          cheap = omega (arith, rest.cheap, cost_of-cons cost arc rest.path);
          apart = (other.0, rest.apart);
          distinct = (nowhere, rest.distinct);
        }
        | inr later ↦ record {
          path = later.path;
          walk = later.walk;
          cheap = omega (arith, later.cheap, rest.cheap);
          apart = later.apart;
          distinct = later.distinct;
        }
      ])
    ]

-- each walk has one that comes to no node twice
simplify : (arcs : List Arc) (cost : ℕ → ℕ) (u : ℕ) (path : List Arc) (v : ℕ) → IsWalk arcs u path v → IsSimple arcs cost u v (cost_of cost path)
unfolding IsDistinct
simplify arcs cost u [] v walk = record { path = []; walk = walk; cheap = omega arith; apart = tt; distinct = tt }
simplify arcs cost u (arc ∷ rest) v walk =
    let longer = lengthen arcs cost v (cost_of cost rest) arc walk.0 (simplify arcs cost arc.head rest v walk.2) in
    record {
      path = longer.path;
      walk = IsWalk_from arcs u arc.tail v longer.path (sym walk.1) longer.walk;
      cheap = omega (arith, longer.cheap, cost_of-cons cost arc rest);
      apart = longer.apart;
      distinct = longer.distinct;
    }

-- both ends of an arc are nodes
abbrev pub IsArcWithin : ℕ → Arc → Type 0
IsArcWithin nodes arc = (arc.tail < nodes) × (arc.head < nodes)

-- the arcs out of nodes stay in the graph
out_arcs_within : (graph : Graph) → All (IsWithin graph.nodes) graph.edges → All (IsArcWithin graph.nodes) (map out_arc graph.edges)
out_arcs_within graph within = All-map (IsArcWithin graph.nodes) out_arc graph.edges within

-- so do those back
in_arcs_within : (graph : Graph) → All (IsWithin graph.nodes) graph.edges → All (IsArcWithin graph.nodes) (map in_arc graph.edges)
in_arcs_within graph within =
    All-map (IsArcWithin graph.nodes) in_arc graph.edges (All-weaker (IsWithin graph.nodes) (λ edge. IsArcWithin graph.nodes (in_arc edge)) (λ edge ends. (ends.1, ends.0)) graph.edges within)

-- the arcs of a graph stay in it
pub arcs_within : (graph : Graph) (way : Way) → IsGraph graph → All (IsArcWithin graph.nodes) (arcs_of way graph.edges)
arcs_within graph Outward is_graph = out_arcs_within graph is_graph.within
arcs_within graph Inward is_graph = in_arcs_within graph is_graph.within
arcs_within graph Both is_graph =
    All-append (IsArcWithin graph.nodes) (map out_arc graph.edges) (map in_arc graph.edges) (out_arcs_within graph is_graph.within) (in_arcs_within graph is_graph.within)

-- the nodes of a walk are nodes
tails_within : (nodes : ℕ) (arcs : List Arc) → All (IsArcWithin nodes) arcs → (u : ℕ) (path : List Arc) (v : ℕ) → IsWalk arcs u path v → AllByRecursion (λ x. x < nodes) (tails path)
tails_within nodes arcs within u [] v walk = tt
tails_within nodes arcs within u (arc ∷ rest) v walk =
    ((All-contains (IsArcWithin nodes) arcs arc within walk.0).0, tails_within nodes arcs within arc.head rest v walk.2)

-- the end of a walk from a node is a node
end_within : (nodes : ℕ) (arcs : List Arc) → All (IsArcWithin nodes) arcs → (u : ℕ) (path : List Arc) (v : ℕ) → u < nodes → IsWalk arcs u path v → v < nodes
end_within nodes arcs within u [] v below walk = omega (arith, walk)
end_within nodes arcs within u (arc ∷ rest) v below walk =
    end_within nodes arcs within arc.head rest v (All-contains (IsArcWithin nodes) arcs arc within walk.0).1 walk.2

-- what is among numbers below a bound is below it
below_from_any : (n : ℕ) (xs : List ℕ) → AllByRecursion (λ x. x < n) xs → (q : ℕ) → list_any (eqb q) xs ≡ true → q < n
below_from_any n [] below q any = absurd (false≢true any)
below_from_any n (x ∷ xs) below q any =
    elim (eqb_tells q x) [
      | inl same ↦ omega (arith, same.1, below.0)
      | inr other ↦ below_from_any n xs below.1 q (rw other.0 at any)
    ]

-- a walk that comes to no node twice has fewer arcs than there are nodes
simple_is_short : (nodes : ℕ) (arcs : List Arc) → All (IsArcWithin nodes) arcs → (u : ℕ) (path : List Arc) (v limit : ℕ) → nodes ≤ limit + 1 → IsWalk arcs u path v → IsApart v (tails path) → IsDistinct eqb (tails path) → length path ≤ limit
unfolding IsDistinct
simple_is_short nodes arcs within u [] v limit enough walk apart distinct = omega arith
simple_is_short nodes arcs within u (arc ∷ rest) v limit enough walk apart distinct =
    let start = (All-contains (IsArcWithin nodes) arcs arc within walk.0).0 in
    let end = end_within nodes arcs within u (arc ∷ rest) v (omega (arith, start, walk.1)) walk in
    let below = tails_within nodes arcs within u (arc ∷ rest) v walk in
    omega (
      arith,
      length-le_from_distinct_below (v ∷ tails (arc ∷ rest)) nodes (apart, distinct) (below_from_any nodes (v ∷ tails (arc ∷ rest)) (end, below)),
      length-map (arc ∷ rest) (λ (a : Arc). a.tail),
    )

-- walks of fewer arcs than nodes give as little, whatever the arcs of the nodes
pub Gives_shorten_arcs : (fares : Fares) (nodes : ℕ) (arcs : List Arc) (limit v total : ℕ) → All (IsArcWithin nodes) arcs → nodes ≤ limit + 1 → Gives fares arcs None v total → (less : ℕ) × (less ≤ total) × Gives fares arcs (Some limit) v less
Gives_shorten_arcs fares nodes arcs limit v total within enough given =
    let simple = simplify arcs fares.cost given.from given.path v given.walk in (
      given.begin + cost_of fares.cost simple.path,
      omega (arith, given.adds_up, simple.cheap),
      record {
        from = given.from;
        begin = given.begin;
        path = simple.path;
        starts = given.starts;
        walk = simple.walk;
        short = simple_is_short nodes arcs within given.from simple.path v limit enough simple.walk simple.apart simple.distinct;
        adds_up = refl;
      },
    )

-- so it is for a graph's arcs
pub Gives_shorten : WalksShorten
Gives_shorten fares graph way limit v total is_graph enough given =
    Gives_shorten_arcs fares graph.nodes (arcs_of way graph.edges) limit v total (arcs_within graph way is_graph) enough given

-- the least of all walks is the least of those of fewer arcs than nodes
least_within : (fares : Fares) (graph : Graph) (way : Way) (limit v : ℕ) (least : Option ℕ) → IsGraph graph → graph.nodes ≤ limit + 1 → IsLeast fares (arcs_of way graph.edges) None v least → IsLeast fares (arcs_of way graph.edges) (Some limit) v least
least_within fares graph way limit v None is_graph enough all = λ total given.
    all total (Gives_all fares (arcs_of way graph.edges) limit v total given)
least_within fares graph way limit v (Some least) is_graph enough all =
    let arcs = arcs_of way graph.edges in
    let shorter = Gives_shorten fares graph way limit v least is_graph enough all.0 in
    let back = all.1 shorter.0 (Gives_all fares arcs limit v shorter.0 shorter.2) in
    let same : shorter.0 ≡ least = omega (arith, shorter.1, back) in (
      subst (λ n. Gives fares arcs (Some limit) v n) same shorter.2,
      λ total given. all.1 total (Gives_all fares arcs limit v total given),
    )

-- and the other way round
least_of_all : (fares : Fares) (graph : Graph) (way : Way) (limit v : ℕ) (least : Option ℕ) → IsGraph graph → graph.nodes ≤ limit + 1 → IsLeast fares (arcs_of way graph.edges) (Some limit) v least → IsLeast fares (arcs_of way graph.edges) None v least
least_of_all fares graph way limit v None is_graph enough short = λ total given.
    let shorter = Gives_shorten fares graph way limit v total is_graph enough given in
    short shorter.0 shorter.2
least_of_all fares graph way limit v (Some least) is_graph enough short = (
  Gives_all fares (arcs_of way graph.edges) limit v least short.0,
  λ total given.
      let shorter = Gives_shorten fares graph way limit v total is_graph enough given in
      omega (arith, shorter.1, short.1 shorter.0 shorter.2),
)

-- so the limit changes nothing
pub IsLeast_within : LeastIsWithinNodes
IsLeast_within fares graph way limit v least is_graph enough =
    (least_within fares graph way limit v least is_graph enough, least_of_all fares graph way limit v least is_graph enough)
