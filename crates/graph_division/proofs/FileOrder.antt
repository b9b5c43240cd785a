-- Edges whose sources do not fall are in file order.
use Rattle.std.proofs.Common.{◌≡◌, ℕ, zero, suc, ◌+◌, ◌<◌, ◌≤◌, true, false, Bool, cond, ◌==◌, List, [], ◌∷◌, ◌++◌, slice_get, Some, refl, sym, ◌∙◌, ap, arith, inl, inr}
use Rattle.std.specs.List.{All, filter, flat_map, range_with_len}
use Rattle.std.proofs.lemmas.Bool.{eq-eqb, ne_eqb, cases_eq}
use Rattle.std.proofs.lemmas.List.Elements.{All-head, All-tail}
use Rattle.list_laws.proofs.Places.{All-from_slice_get}
use Rattle.graph_model.specs.Graph.{IsWithin, IsBySource}
use Rattle.graph_model.specs.declared.edge.Edge.{Edge}
use Rattle.graph_division.specs.Shares.{in_file_order}
use Rattle.graph_division.specs.Laws.{FileOrderStays}

-- two functions that agree on a range join the same lists along it
pub joined_same : {X : Type 0} (f g : ℕ → List X) (first count : ℕ) → ((v : ℕ) → first ≤ v → v < first + count → f v ≡ g v) → flat_map f (range_with_len first count) ≡ flat_map g (range_with_len first count)
joined_same f g first zero same = refl
joined_same f g first (suc count) same =
    ap (λ xs. xs ++ flat_map f (range_with_len (first + 1) count)) (same first (omega arith) (omega arith))
    ∙ ap (λ xs. g first ++ xs) (joined_same f g (first + 1) count (λ v low high. same v (omega arith) (omega arith)))

-- tests that nothing passes keep nothing
pub filter_none : {X : Type 0} (p : X → Bool) (xs : List X) → All (λ x. p x ≡ false) xs → filter p xs ≡ []
filter_none p [] none = refl
filter_none p (x ∷ xs) none =
    ap (λ b. cond b (x ∷ filter p xs) (filter p xs)) (All-head (λ y. p y ≡ false) x xs none) ∙ filter_none p xs (All-tail (λ y. p y ≡ false) x xs none)

-- an element that is put in front of its own list, where all lists before it are empty, comes first
put_first : {X : Type 0} (f : ℕ → List X) (x : X) (at first count : ℕ) → first ≤ at → at < first + count → ((v : ℕ) → v < at → f v ≡ [])
    → flat_map (λ v. cond (at == v) (x ∷ f v) (f v)) (range_with_len first count) ≡ x ∷ flat_map f (range_with_len first count)
put_first f x at first zero low high none = absurd (omega arith)
put_first f x at first (suc count) low high none =
    elim (cases_eq at first) [
      | inl same ↦ ap (λ b. cond b (x ∷ f first) (f first) ++ flat_map (λ v. cond (at == v) (x ∷ f v) (f v)) (range_with_len (first + 1) count)) (eq-eqb at first same)
          ∙ ap (λ xs. x ∷ (f first ++ xs)) (joined_same (λ v. cond (at == v) (x ∷ f v) (f v)) f (first + 1) count (λ v above below. ap (λ b. cond b (x ∷ f v) (f v)) (ne_eqb at v (omega arith))))
      | inr other ↦ ap (λ b. cond b (x ∷ f first) (f first) ++ flat_map (λ v. cond (at == v) (x ∷ f v) (f v)) (range_with_len (first + 1) count)) (ne_eqb at first other)
          ∙ ap (λ xs. xs ++ flat_map (λ v. cond (at == v) (x ∷ f v) (f v)) (range_with_len (first + 1) count)) (none first (omega arith))
          ∙ put_first f x at (first + 1) count (omega arith) (omega arith) none
          ∙ ap (λ xs. x ∷ (xs ++ flat_map f (range_with_len (first + 1) count))) (sym (none first (omega arith)))
    ]

-- no edge comes from a node below the source of the first
none_below : (edge : Edge) (edges : List Edge) → IsBySource (edge ∷ edges) → (v : ℕ) → v < edge.src → filter (λ e. e.src == v) edges ≡ []
none_below edge edges ordered v low =
    filter_none (λ e. e.src == v) edges (All-from_slice_get (λ (e : Edge). (e.src == v) ≡ false) edges (λ k other at.
    let later : edge.src ≤ other.src = ordered 0 (suc k) edge other (omega arith) refl at in
    ne_eqb other.src v (omega arith)))

pub file_order_stays : FileOrderStays
file_order_stays nodes [] within ordered = nothing 0 nodes
  where
    nothing : (first count : ℕ) → flat_map (λ v. filter (λ (e : Edge). e.src == v) []) (range_with_len first count) ≡ []
    nothing first zero = refl
    nothing first (suc count) = nothing (first + 1) count
file_order_stays nodes (edge ∷ edges) within ordered =
    let ends : IsWithin nodes edge = All-head (IsWithin nodes) edge edges within in
    put_first (λ v. filter (λ e. e.src == v) edges) edge edge.src 0 nodes (omega arith) (omega (arith, ends.0)) (none_below edge edges ordered)
    ∙ ap (λ es. edge ∷ es) (file_order_stays nodes edges (All-tail (IsWithin nodes) edge edges within) (λ i j a b order at_i at_j. ordered (suc i) (suc j) a b (omega arith) at_i at_j))
