-- Where the ranges of nodes end, in a list of edges by source.
use Rattle.std.proofs.Common.{◌≡◌, ℕ, zero, suc, ◌+◌, ◌<◌, ◌≤◌, List, [], ◌∷◌, length, Some, refl, ap, ◌∙◌, arith, cond}
use Rattle.std.specs.Prelude.{slice_get, nat_le}
use Rattle.std.proofs.lemmas.Bool.Decides.{nat_tests}
use Rattle.std.proofs.lemmas.List.Sums.{sum_by-cons, count_by-le-length}
use Rattle.graph_model.specs.declared.edge.Edge.{Edge}
use Rattle.graph_model.specs.Graph.{IsBySource}
use Rattle.gr_writer.specs.File.{end_of}

-- what follows the first edge is by source too
pub IsBySource-tail : (edge : Edge) (edges : List Edge) → IsBySource (edge ∷ edges) → IsBySource edges
IsBySource-tail edge edges sorted = λ i j a b lt at_i at_j. sorted (suc i) (suc j) a b (omega arith) at_i at_j

-- no edge comes before the first by its source
pub IsBySource-head : (edge : Edge) (edges : List Edge) → IsBySource (edge ∷ edges) → (i : ℕ) (a : Edge) → slice_get edges i ≡ Some a → edge.src ≤ a.src
IsBySource-head edge edges sorted = λ i a at_i. sorted zero (suc i) edge a (omega arith) refl at_i

-- what an edge counts
one_at : (a v : ℕ) → a ≤ v → cond {A = ℕ} (nat_le a v) 1 0 ≡ 1
one_at a v h = grind (arith, nat_tests)

none_at : (a v : ℕ) → v < a → cond {A = ℕ} (nat_le a v) 1 0 ≡ 0
none_at a v h = grind (arith, nat_tests)

at_most_one : (a v : ℕ) → cond (nat_le a v) 1 0 ≤ 1
at_most_one a v = grind (arith, nat_tests)

more_at_next : (a v : ℕ) → cond (nat_le a v) 1 0 ≤ cond (nat_le a (v + 1)) 1 0
more_at_next a v = grind (arith, nat_tests)

-- one edge more
pub end_of-cons : (edge : Edge) (edges : List Edge) (v : ℕ) → end_of (edge ∷ edges) v ≡ cond (nat_le edge.src v) 1 0 + end_of edges v
end_of-cons edge edges v = sum_by-cons (λ (e : Edge). cond (nat_le e.src v) 1 0) edge edges

-- one edge more, that starts at the node or before it
pub end_of-cons_yes : (edge : Edge) (edges : List Edge) (v : ℕ) → edge.src ≤ v → end_of (edge ∷ edges) v ≡ 1 + end_of edges v
end_of-cons_yes edge edges v h = end_of-cons edge edges v ∙ ap (λ n. n + end_of edges v) (one_at edge.src v h)

-- one edge more, that starts past the node
pub end_of-cons_no : (edge : Edge) (edges : List Edge) (v : ℕ) → v < edge.src → end_of (edge ∷ edges) v ≡ 0 + end_of edges v
end_of-cons_no edge edges v h = end_of-cons edge edges v ∙ ap (λ n. n + end_of edges v) (none_at edge.src v h)

-- the range of the next node does not end before
pub end_of-next : (edges : List Edge) (v : ℕ) → end_of edges v ≤ end_of edges (v + 1)
end_of-next [] v = omega arith
end_of-next (edge ∷ edges) v =
    omega (arith, end_of-next edges v, end_of-cons edge edges v, end_of-cons edge edges (v + 1), more_at_next edge.src v)

-- no range ends past the edges
pub end_of-within : (edges : List Edge) (v : ℕ) → end_of edges v ≤ length edges
end_of-within edges v = count_by-le-length (λ (e : Edge). nat_le e.src v) edges

-- where each edge starts past a node, its range ends at once
pub end_of-none : (edges : List Edge) (v : ℕ) → ((i : ℕ) (a : Edge) → slice_get edges i ≡ Some a → v < a.src) → end_of edges v ≡ 0
end_of-none [] v past = refl
end_of-none (edge ∷ edges) v past =
    omega (arith, end_of-none edges v (λ i a at_i. past (suc i) a at_i), end_of-cons_no edge edges v (past zero edge refl))

-- an edge that starts at a node or before it stands before the end of the node's range
pub end_of-yes : (edges : List Edge) (v i : ℕ) (a : Edge) → IsBySource edges → slice_get edges i ≡ Some a → a.src ≤ v → i < end_of edges v
end_of-yes [] v i a sorted at_i le = cc
end_of-yes (edge ∷ edges) v zero a sorted at_i le =
    let e : edge.src ≡ a.src = cc in
    omega (arith, e, end_of-cons_yes edge edges v (omega (arith, e)))
end_of-yes (edge ∷ edges) v (suc i) a sorted at_i le =
    let first = IsBySource-head edge edges sorted i a at_i in
    omega (arith, end_of-yes edges v i a (IsBySource-tail edge edges sorted) at_i le, end_of-cons_yes edge edges v (omega (arith, first)))

-- an edge that starts past a node stands at the end of the node's range or behind it
pub end_of-no : (edges : List Edge) (v i : ℕ) (a : Edge) → IsBySource edges → slice_get edges i ≡ Some a → v < a.src → end_of edges v ≤ i
end_of-no [] v i a sorted at_i past = omega arith
end_of-no (edge ∷ edges) v zero a sorted at_i past =
    let e : edge.src ≡ a.src = cc in
    let rest = end_of-none edges v (λ j b at_j. let m = IsBySource-head edge edges sorted j b at_j in omega arith) in
    omega (arith, rest, end_of-cons_no edge edges v (omega (arith, e)))
end_of-no (edge ∷ edges) v (suc i) a sorted at_i past =
    omega (arith, end_of-no edges v i a (IsBySource-tail edge edges sorted) at_i past, end_of-cons edge edges v, at_most_one edge.src v)
