-- The edges out of vertices that lie side by side lie side by side.
use Rattle.std.proofs.Common.{◌≡◌, ℕ, zero, suc, ◌-◌, ◌<◌, ◌≤◌, ◌↔◌, ◌==◌, Bool, true, false, cond, nat_lt, List, [], ◌∷◌, length, take, drop, Some, slice_get, slice_index, refl, sym, ap, ◌∙◌, ⊎_elim, inl, inr, arith}
use Rattle.std.specs.List.{filter, slice_range}
use Rattle.std.proofs.lemmas.Bool.{cases_lt, lt-ltb, le-ltb, eqb-true}
use Rattle.std.proofs.lemmas.Bool.Decides.{eqb_tells}
use Rattle.std.proofs.lemmas.List.Sums.{count_by-le-length}
use Rattle.std.proofs.lemmas.Option.{slice_get_within}
use Rattle.list_laws.proofs.Places.{slice_get_once, All-at}
use Rattle.graph_model.specs.declared.edge.Edge.{Edge}
use Rattle.graph_model.specs.Graph.{Graph, IsGraph, IsBySource, IsWithin}
use Rattle.edge_columns.proofs.Counts.{count_le, le_count}
use Rattle.share_plan.proofs.StartsLaws.{below, below_rises}

module _ {X : Type 0} (p : X → Bool) where
  -- where those that pass stand in a row, they are a part of the list
  filter-slice : (xs : List X) (i j : ℕ) → i ≤ j → j ≤ length xs
      → ((k : ℕ) (x : X) → k < i → slice_get xs k ≡ Some x → p x ≡ false)
      → ((k : ℕ) (x : X) → i ≤ k → k < j → slice_get xs k ≡ Some x → p x ≡ true)
      → ((k : ℕ) (x : X) → j ≤ k → slice_get xs k ≡ Some x → p x ≡ false)
      → filter p xs ≡ slice_range xs i j
  filter-slice [] zero zero order within before among after = refl
  filter-slice [] zero (suc j) order within before among after = absurd (omega arith)
  filter-slice [] (suc i) j order within before among after = absurd (omega arith)
  filter-slice (x ∷ xs) zero zero order within before among after =
      ap (λ b. cond b (x ∷ filter p xs) (filter p xs)) (after 0 x (omega arith) refl)
      ∙ filter-slice xs 0 0 (omega arith) (omega arith) (λ k y less at. absurd (omega arith)) (λ k y low high at. absurd (omega arith)) (λ k y more at. after (suc k) y (omega arith) at)
  filter-slice (x ∷ xs) zero (suc j) order within before among after =
      ap (λ b. cond b (x ∷ filter p xs) (filter p xs)) (among 0 x (omega arith) (omega arith) refl)
      ∙ ap (λ ys. x ∷ ys) (filter-slice xs 0 j (omega arith) (omega arith) (λ k y less at. absurd (omega arith)) (λ k y low high at. among (suc k) y (omega arith) (omega arith) at) (λ k y more at. after (suc k) y (omega arith) at))
      ∙ ap (λ n. x ∷ take n xs) (let e : j - 0 ≡ j = omega arith in e)
      ∙ ap (λ n. take n (x ∷ xs)) (let e : suc j ≡ suc j - 0 = omega arith in e)
  filter-slice (x ∷ xs) (suc i) zero order within before among after = absurd (omega arith)
  filter-slice (x ∷ xs) (suc i) (suc j) order within before among after =
      ap (λ b. cond b (x ∷ filter p xs) (filter p xs)) (before 0 x (omega arith) refl)
      ∙ filter-slice xs i j (omega arith) (omega arith) (λ k y less at. before (suc k) y (omega arith) at) (λ k y low high at. among (suc k) y (omega arith) (omega arith) at) (λ k y more at. after (suc k) y (omega arith) at)
      ∙ ap (λ n. take n (drop i xs)) (let e : j - i ≡ suc j - suc i = omega arith in e)

module _ (edges : List Edge) (by_source : IsBySource edges) where
  -- an edge does not stand before one with a lower source
  in_order : (h k : ℕ) (a b : Edge) → h ≤ k → slice_get edges h ≡ Some a → slice_get edges k ≡ Some b → a.src ≤ b.src
  in_order h k a b order at_h at_k =
      ⊎_elim
      (λ (before : h < k). by_source h k a b before at_h at_k)
      (λ (here : k ≤ h).
      let same : a ≡ b = slice_get_once edges k a b (ap (λ i. slice_get edges i) (omega arith) ∙ at_h) at_k in
      omega (arith, ap (λ (e : Edge). e.src) same))
      (cases_lt h k)

  -- an edge with a lower source stands before the start
  stands_before : (v k : ℕ) (edge : Edge) → slice_get edges k ≡ Some edge → edge.src < v → k < below edges v
  stands_before v k edge at low =
      let within : k < length edges = slice_get_within edges k edge at in
      let counted = le_count (λ e. nat_lt e.src v) edges (suc k) (omega arith) (λ h other less there. lt-ltb other.src v (omega (arith, in_order h k other edge (omega arith) there at))) in
      omega (arith, counted)

  -- an edge with no lower source does not
  stands_behind : (v k : ℕ) (edge : Edge) → slice_get edges k ≡ Some edge → v ≤ edge.src → below edges v ≤ k
  stands_behind v k edge at high =
      count_le (λ e. nat_lt e.src v) edges k (λ h other more there. le-ltb other.src v (omega (arith, in_order k h edge other more at there)))

-- what does not hold fails
fails : (b : Bool) → (b ≡ true → ⊥) → b ≡ false
fails true never = absurd (never refl)
fails false never = refl

-- the edges whose source has this master, where those vertices lie side by side
pub edges_from-slice : (graph : Graph) → IsGraph graph → (masters : List ℕ) (host first end : ℕ) → first ≤ end → end ≤ graph.nodes
    → ((v : ℕ) → v < graph.nodes → (slice_index masters v ≡ host) ↔ ((first ≤ v) × (v < end)))
    → slice_range graph.edges (below graph.edges first) (below graph.edges end) ≡ filter (λ edge. slice_index masters edge.src == host) graph.edges
edges_from-slice graph is masters host first end order within vertices =
    sym (filter-slice (λ edge. slice_index masters edge.src == host) graph.edges (below graph.edges first) (below graph.edges end)
    (below_rises graph.edges first end order)
    (count_by-le-length (λ edge. nat_lt edge.src end) graph.edges)
    (λ k edge less at. fails (slice_index masters edge.src == host) (λ passes.
    let here = (vertices edge.src (source k edge at)).0 (eqb-true (slice_index masters edge.src) host passes) in
    omega (arith, less, stands_behind graph.edges is.by_source first k edge at here.0)))
    (λ k edge low high at.
    let from : first ≤ edge.src = ⊎_elim (λ (lower : edge.src < first). absurd (omega (arith, low, stands_before graph.edges is.by_source first k edge at lower))) (λ (here : first ≤ edge.src). here) (cases_lt edge.src first) in
    let to : edge.src < end = ⊎_elim (λ (here : edge.src < end). here) (λ (past : end ≤ edge.src). absurd (omega (arith, high, stands_behind graph.edges is.by_source end k edge at past))) (cases_lt edge.src end) in
    passes edge ((vertices edge.src (source k edge at)).1 (from, to)))
    (λ k edge more at. fails (slice_index masters edge.src == host) (λ passes.
    let here = (vertices edge.src (source k edge at)).0 (eqb-true (slice_index masters edge.src) host passes) in
    omega (arith, more, stands_before graph.edges is.by_source end k edge at here.1))))
  where
    source : (k : ℕ) (edge : Edge) → slice_get graph.edges k ≡ Some edge → edge.src < graph.nodes
    source k edge at = (All-at (IsWithin graph.nodes) graph.edges k edge is.within at).0

    passes : (edge : Edge) → slice_index masters edge.src ≡ host → (slice_index masters edge.src == host) ≡ true
    passes edge same = elim (eqb_tells (slice_index masters edge.src) host) [
      | inl is ↦ is.0
      | inr other ↦ absurd (other.1 same)
    ]
