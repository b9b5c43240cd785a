-- How inner degrees follow the sets that they are counted in.
use Rattle.std.proofs.Common.{◌≡◌, ℕ, ◌+◌, ◌≤◌, Bool, true, false, cond, not, ◌&&◌, ◌==◌, List, [], ◌∷◌, length, refl, sym, ◌∙◌, ap, arith}
use Rattle.std.specs.List.{AllByRecursion, filter}
use Rattle.std.specs.List.Sorted.{IsPermutation}
use Rattle.std.proofs.lemmas.List.Elements.{filter_agree}
use Rattle.std.proofs.lemmas.List.Sums.{length-filter, count_by-le-length}
use Rattle.std.proofs.lemmas.List.Sorted.{sum_by-IsPermutation}
use Rattle.graph_model.specs.Arcs.{Arc}
use Rattle.graph_model.specs.Core.{inner_degree}

-- a first element that may be picked
picked_first : {X : Type 0} (b : Bool) (x : X) (xs : List X) → length (cond b (x ∷ xs) xs) ≡ cond b 1 0 + length xs
picked_first true x xs = omega arith
picked_first false x xs = omega arith

-- a first arc
first_arc : (arc : Arc) (arcs : List Arc) (set : ℕ → Bool) (v : ℕ) → inner_degree (arc ∷ arcs) set v ≡ cond (arc.head == v && set arc.tail) 1 0 + inner_degree arcs set v
first_arc arc arcs set v = picked_first (arc.head == v && set arc.tail) arc (filter (λ a. a.head == v && set a.tail) arcs)

arc_grows : (here a b : Bool) → (a ≡ true → b ≡ true) → cond (here && a) 1 0 ≤ cond (here && b) 1 0
arc_grows false a b h = omega arith
arc_grows true false b h = omega arith
arc_grows true true true h = omega arith
arc_grows true true false h = absurd (let bad = h refl in cc)

arc_splits : (here a b : Bool) → (b ≡ true → a ≡ true) → cond (here && a) 1 0 ≡ cond (here && (a && not b)) 1 0 + cond (here && b) 1 0
arc_splits false a b h = omega arith
arc_splits true true true h = omega arith
arc_splits true true false h = omega arith
arc_splits true false true h = absurd (let bad = h refl in cc)
arc_splits true false false h = omega arith

-- from a larger set as many arcs lead to v, or more
pub inner_degree_grows : (arcs : List Arc) (set larger : ℕ → Bool) (v : ℕ) → ((u : ℕ) → set u ≡ true → larger u ≡ true) → inner_degree arcs set v ≤ inner_degree arcs larger v
inner_degree_grows [] set larger v h = omega arith
inner_degree_grows (arc ∷ arcs) set larger v h =
    let here = arc_grows (arc.head == v) (set arc.tail) (larger arc.tail) (h arc.tail) in
    omega (arith, first_arc arc arcs set v, first_arc arc arcs larger v, inner_degree_grows arcs set larger v h)

-- the arcs from a set are those from a smaller one and those from the rest
pub inner_degree_splits : (arcs : List Arc) (set smaller : ℕ → Bool) (v : ℕ) → ((u : ℕ) → smaller u ≡ true → set u ≡ true) → inner_degree arcs set v ≡ inner_degree arcs (λ u. set u && not (smaller u)) v + inner_degree arcs smaller v
inner_degree_splits [] set smaller v h = omega arith
inner_degree_splits (arc ∷ arcs) set smaller v h =
    let here = arc_splits (arc.head == v) (set arc.tail) (smaller arc.tail) (h arc.tail) in
    omega (arith, first_arc arc arcs set v, first_arc arc arcs smaller v, first_arc arc arcs (λ u. set u && not (smaller u)) v, inner_degree_splits arcs set smaller v h)

-- sets with the same tails have the same
pub inner_degree_same : (arcs : List Arc) (set other : ℕ → Bool) (v : ℕ) → AllByRecursion (λ arc. set arc.tail ≡ other arc.tail) arcs → inner_degree arcs set v ≡ inner_degree arcs other v
inner_degree_same [] set other v h = refl
inner_degree_same (arc ∷ arcs) set other v h =
    first_arc arc arcs set v
    ∙ ap (λ b. cond (arc.head == v && b) 1 0 + inner_degree arcs set v) h.0
    ∙ ap (λ n. cond (arc.head == v && other arc.tail) 1 0 + n) (inner_degree_same arcs set other v h.1)
    ∙ sym (first_arc arc arcs other v)

-- so have equal sets
pub inner_degree_agrees : (arcs : List Arc) (set other : ℕ → Bool) (v : ℕ) → ((u : ℕ) → set u ≡ other u) → inner_degree arcs set v ≡ inner_degree arcs other v
inner_degree_agrees arcs set other v h =
    ap length (filter_agree (λ arc. arc.head == v && set arc.tail) (λ arc. arc.head == v && other arc.tail) (λ arc. ap (λ b. arc.head == v && b) (h arc.tail)) arcs)

-- and so have the same arcs in another order
pub inner_degree_permuted : (arcs others : List Arc) (set : ℕ → Bool) (v : ℕ) → IsPermutation arcs others → inner_degree arcs set v ≡ inner_degree others set v
inner_degree_permuted arcs others set v moved =
    length-filter (λ arc. arc.head == v && set arc.tail) arcs
    ∙ sym (sum_by-IsPermutation (λ arc. cond (arc.head == v && set arc.tail) 1 0) arcs others moved)
    ∙ sym (length-filter (λ arc. arc.head == v && set arc.tail) others)

-- there are no more than all arcs
pub inner_degree_within : (arcs : List Arc) (set : ℕ → Bool) (v : ℕ) → inner_degree arcs set v ≤ length arcs
inner_degree_within arcs set v =
    let small = count_by-le-length (λ arc. arc.head == v && set arc.tail) arcs in
    omega (arith, length-filter (λ arc. arc.head == v && set arc.tail) arcs)
