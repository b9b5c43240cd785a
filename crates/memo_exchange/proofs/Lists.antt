-- Lists without one element, and lists of lists.
use Rattle.std.proofs.Common.{◌≡◌, ◌≢◌, ℕ, zero, suc, ◌+◌, ◌-◌, ◌<◌, ◌≤◌, ◌⊎◌, inl, inr, Bool, true, false, cond, List, [], ◌∷◌, ◌++◌, length, get_or, slice_get, Some, All, Contains, sym, ap, subst, ◌∙◌, arith, length-append}
use Rattle.std.specs.Prelude.{remove}
use Rattle.std.specs.List.{AllPairs, filter, flat_map, range_with_len}
use Rattle.std.proofs.lemmas.Bool.{cases_lt, cases_eq}
use Rattle.std.proofs.lemmas.List.{get_or_append_left, get_or-append-add}
use Rattle.std.proofs.lemmas.List.Edits.{length-remove, get_or-remove_below, get_or-remove_above}
use Rattle.std.proofs.lemmas.Option.{slice_get_within, get_or_from_slice_get, slice_get-get_or}
use Rattle.std.proofs.lemmas.List.Elements.{Contains-append_left, Contains-append_right}

-- what stands at a place once another is removed
pub get_or_remove_cases : {X : Type 0} (xs : List X) (i k : ℕ) (d : X) → i < length xs → k < length (remove xs i)
    → ((k < i) × (get_or (remove xs i) k d ≡ get_or xs k d)) ⊎ ((i ≤ k) × (get_or (remove xs i) k d ≡ get_or xs (k + 1) d))
get_or_remove_cases xs i k d within below =
    elim (cases_lt k i) [
      | inl low ↦ inl (low, get_or-remove_below xs i d k low within)
      | inr high ↦ inr (high, get_or-remove_above xs i d k high within)
    ]

-- what stands in a list without an element stood in the list, at another place
pub slice_get_removed : {X : Type 0} (xs : List X) (i k : ℕ) (x : X) → i < length xs → slice_get (remove xs i) k ≡ Some x → (j : ℕ) × (j ≢ i) × (slice_get xs j ≡ Some x)
slice_get_removed xs i k x within at =
    let long = length-remove xs i within in
    let below = slice_get_within (remove xs i) k x at in
    let is : get_or (remove xs i) k x ≡ x = get_or_from_slice_get (remove xs i) k x x at in
    elim (get_or_remove_cases xs i k x within below) [
      | inl low ↦ let less = low.0 in (k, (λ same. omega arith), slice_get-get_or xs k x (omega arith) ∙ ap (λ y. Some y) (sym low.1 ∙ is))
      | inr high ↦ let more = high.0 in (k + 1, (λ same. omega arith), slice_get-get_or xs (k + 1) x (omega arith) ∙ ap (λ y. Some y) (sym high.1 ∙ is))
    ]

-- what is in a list is the element that is removed, or is still there
pub Contains-remove : {X : Type 0} (xs : List X) (i : ℕ) (x y : X) → slice_get xs i ≡ Some y → i < length xs → Contains xs x → (get_or xs i x ≡ x) ⊎ Contains (remove xs i) x
Contains-remove xs i x y at within held =
    let long = length-remove xs i within in
    elim (cases_lt held.0 i) [
      | inl low ↦ inr (held.0, omega arith, get_or-remove_below xs i x held.0 low within ∙ held.2)
      | inr high ↦ elim (cases_lt i held.0) [
        | inl later ↦
            let before : held.0 - 1 + 1 ≡ held.0 = omega arith in
            let here = held.1 in
            inr (held.0 - 1, omega arith, get_or-remove_above xs i x (held.0 - 1) (omega arith) within ∙ ap (λ n. get_or xs n x) before ∙ held.2)
        | inr not_later ↦ let same : i ≡ held.0 = omega arith in inl (ap (λ n. get_or xs n x) same ∙ held.2)
      ]
    ]

-- pairs of two lists, where each of the first stands well with each of the second
pub AllPairs-append : {X : Type 0} (R : X → X → Type 0) (xs ys : List X) → AllPairs R xs → AllPairs R ys → All (λ x. All (R x) ys) xs → AllPairs R (xs ++ ys)
AllPairs-append {X} R xs ys first second across = λ i j d before within.
    let long = length-append xs ys in
    elim (cases_lt j (length xs)) [
      | inl low ↦
          subst (λ x. R x (get_or (xs ++ ys) j d)) (sym (get_or_append_left xs ys d i (omega arith)))
          (subst (λ x. R (get_or xs i d) x) (sym (get_or_append_left xs ys d j low)) (first i j d before low))
      | inr high ↦
          let there : get_or (xs ++ ys) j d ≡ get_or ys (j - length xs) d
          = let place : j ≡ length xs + (j - length xs) = omega arith in ap (λ n. get_or (xs ++ ys) n d) place ∙ get_or-append-add xs ys (j - length xs) d in
          elim (cases_lt i (length xs)) [
            | inl less ↦
                subst (λ x. R x (get_or (xs ++ ys) j d)) (sym (get_or_append_left xs ys d i less))
                (subst (λ x. R (get_or xs i d) x) (sym there) (across i d less (j - length xs) d (omega arith)))
            | inr more ↦
                let here : get_or (xs ++ ys) i d ≡ get_or ys (i - length xs) d
                = let place : i ≡ length xs + (i - length xs) = omega arith in ap (λ n. get_or (xs ++ ys) n d) place ∙ get_or-append-add xs ys (i - length xs) d in
                subst (λ x. R x (get_or (xs ++ ys) j d)) (sym here)
                (subst (λ x. R (get_or ys (i - length xs) d) x) (sym there) (second (i - length xs) (j - length xs) d (omega arith) (omega arith)))
          ]
    ]

-- what is in the list of an element is in the whole
pub Contains-flat_map : {X Y : Type 0} (f : X → List Y) (xs : List X) (k : ℕ) (x : X) (y : Y) → slice_get xs k ≡ Some x → Contains (f x) y → Contains (flat_map f xs) y
Contains-flat_map f [] k x y at held = absurd (cc)
Contains-flat_map f (z ∷ xs) zero x y at held =
    let same : z ≡ x = cc in
    Contains-append_left (f z) (flat_map f xs) y (subst (λ v. Contains (f v) y) (sym same) held)
Contains-flat_map f (z ∷ xs) (suc k) x y at held = Contains-append_right (f z) (flat_map f xs) y (Contains-flat_map f xs k x y at held)

-- a number of a range that passes is picked
pub Contains-picked : (p : ℕ → Bool) (first count v : ℕ) → first ≤ v → v < first + count → p v ≡ true → Contains (filter p (range_with_len first count)) v
Contains-picked p first zero v low high passes = absurd (omega arith)
Contains-picked p first (suc count) v low high passes =
    elim (cases_eq first v) [
      | inl same ↦
          let here : p first ≡ true = ap p same ∙ passes in
          subst (λ b. Contains (cond b (first ∷ filter p (range_with_len (first + 1) count)) (filter p (range_with_len (first + 1) count))) v) (sym here) (0, omega arith, same)
      | inr other ↦ step (p first) (Contains-picked p (first + 1) count v (omega arith) (omega arith) passes)
    ]
  where
    step : (b : Bool) → Contains (filter p (range_with_len (first + 1) count)) v → Contains (cond b (first ∷ filter p (range_with_len (first + 1) count)) (filter p (range_with_len (first + 1) count))) v
    step true rest = Contains-append_right (first ∷ []) (filter p (range_with_len (first + 1) count)) v rest
    step false rest = rest
