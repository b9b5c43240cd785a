-- Facts of lists of edges that show a graph, and that follow from one.
use Rattle.std.proofs.Common.{◌≡◌, zero, suc, ◌<◌, inl, inr, ◌≤◌, List, [], ◌∷◌, ◌++◌, length, map, All, slice_index_or, ap, arith}
use Rattle.std.specs.List.Sorted.{IsNonDecreasing, IsNonDecreasingBy}
use Rattle.std.proofs.lemmas.Option.{slice_get_within, get_or_from_slice_get, same_Some}
use Rattle.std.proofs.lemmas.List.{get_or-map, length-map}
use Rattle.graph_model.specs.Graph.{IsBySource}
use Rattle.graph_model.specs.declared.edge.Edge.{Edge}
use Rattle.list_laws.proofs.Places.{All-at, slice_get_push_cases}

-- sources that do not fall, as std says it, are in order
pub IsBySource-from_non_decreasing_by : (edges : List Edge) → IsNonDecreasingBy (λ edge. edge.src) edges → IsBySource edges
IsBySource-from_non_decreasing_by edges rising i j a b less at_i at_j =
    let first : (slice_index_or edges i a).src ≡ a.src = ap (λ edge. edge.src) (get_or_from_slice_get edges i a a at_i) in
    let second : (slice_index_or edges j a).src ≡ b.src = ap (λ edge. edge.src) (get_or_from_slice_get edges j b a at_j) in
    let within : j < length edges = slice_get_within edges j b at_j in
    let order : (slice_index_or edges i a).src ≤ (slice_index_or edges j a).src = rising i j a (omega arith) within in
    omega arith

-- sources that do not fall, as a list of their own, are in order
pub IsBySource-from_map : (edges : List Edge) → IsNonDecreasing (map (λ edge. edge.src) edges) → IsBySource edges
IsBySource-from_map edges rising =
    IsBySource-from_non_decreasing_by edges (λ i j d le within.
    let j_within : j < length (map (λ edge. edge.src) edges) = omega (arith, length-map edges (λ edge. edge.src)) in
    let at_i : slice_index_or (map (λ edge. edge.src) edges) i 0 ≡ (slice_index_or edges i d).src = get_or-map (λ edge. edge.src) edges i d 0 (omega arith) in
    let at_j : slice_index_or (map (λ edge. edge.src) edges) j 0 ≡ (slice_index_or edges j d).src = get_or-map (λ edge. edge.src) edges j d 0 within in
    let order : slice_index_or (map (λ edge. edge.src) edges) i 0 ≤ slice_index_or (map (λ edge. edge.src) edges) j 0 = rising i j 0 le j_within in
    omega arith)

-- a list with no edges is in order
pub IsBySource-nil : IsBySource []
IsBySource-nil = IsBySource-from_non_decreasing_by [] (λ i j d le within. absurd (omega arith))

-- an edge before a list in order whose sources are no lower
pub IsBySource-cons : (edge : Edge) (rest : List Edge) → All (λ other. edge.src ≤ other.src) rest → IsBySource rest → IsBySource (edge ∷ rest)
IsBySource-cons edge rest above ordered i zero a b less at_i at_j = absurd (omega arith)
IsBySource-cons edge rest above ordered zero (suc j) a b less at_i at_j =
    let higher : edge.src ≤ b.src = All-at (λ other. edge.src ≤ other.src) rest j b above at_j in
    let same : edge ≡ a = same_Some edge a at_i in
    omega (arith, ap (λ (e : Edge). e.src) same)
IsBySource-cons edge rest above ordered (suc i) (suc j) a b less at_i at_j = ordered i j a b (omega arith) at_i at_j

-- an edge after a list in order whose sources are no higher
pub IsBySource_push : (edges : List Edge) (edge : Edge) → All (λ other. other.src ≤ edge.src) edges → IsBySource edges → IsBySource (edges ++ edge ∷ [])
IsBySource_push edges edge below ordered i j a b less at_i at_j =
    elim (slice_get_push_cases edges edge j b at_j) [
      | inl old_j ↦ (elim (slice_get_push_cases edges edge i a at_i) [
        | inl old_i ↦ ordered i j a b less old_i old_j
        | inr last_i ↦ absurd (omega (arith, last_i.0, slice_get_within edges j b old_j))
      ])
      | inr last_j ↦ (elim (slice_get_push_cases edges edge i a at_i) [
        | inl old_i ↦ (let lower : a.src ≤ edge.src = All-at (λ other. other.src ≤ edge.src) edges i a below old_i in omega (arith, ap (λ (e : Edge). e.src) last_j.1))
        | inr last_i ↦ absurd (omega (arith, last_i.0, last_j.0))
      ])
    ]
