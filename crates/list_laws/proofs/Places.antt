-- The element at a place of a list, as `slice_get` gives it.
use Rattle.std.proofs.Common.{◌≡◌, ◌≢◌, ℕ, zero, suc, ◌+◌, ◌<◌, ◌⊎◌, inl, inr, List, [], ◌∷◌, ◌++◌, length, drop, map, Some, All, Contains, slice_get, slice_set, slice_index_or, refl, sym, ap, ◌∙◌, subst, arith}
use Rattle.std.proofs.lemmas.Option.{slice_get_within, get_or_from_slice_get, slice_get-get_or, slice_get-map, none-some, same_Some}
use Rattle.std.proofs.lemmas.List.{length-map}
use Rattle.std.specs.Option.{option_map}

-- each place below the length has an element
pub element_at : {X : Type 0} (xs : List X) (k : ℕ) → k < length xs → (x : X) × (slice_get xs k ≡ Some x)
element_at [] k within = absurd (omega arith)
element_at (x ∷ xs) zero within = (x, refl)
element_at (x ∷ xs) (suc k) within = element_at xs k (omega arith)

-- what stands at a place is in the list
pub Contains-from_slice_get : {X : Type 0} (xs : List X) (k : ℕ) (x : X) → slice_get xs k ≡ Some x → Contains xs x
Contains-from_slice_get xs k x at = (k, slice_get_within xs k x at, get_or_from_slice_get xs k x x at)

-- what is in a list stands at a place
pub slice_get_from_Contains : {X : Type 0} (xs : List X) (x : X) → Contains xs x → (k : ℕ) × (slice_get xs k ≡ Some x)
slice_get_from_Contains xs x held = (held.0, slice_get-get_or xs held.0 x held.1 ∙ ap (λ y. Some y) held.2)

-- what holds of all elements holds of the one at a place
pub All-at : {X : Type 0} (P : X → Type 0) (xs : List X) (k : ℕ) (x : X) → All P xs → slice_get xs k ≡ Some x → P x
All-at P xs k x all at = subst P (get_or_from_slice_get xs k x x at) (all k x (slice_get_within xs k x at))

-- what holds of the element at each place holds of all
pub All-from_slice_get : {X : Type 0} (P : X → Type 0) (xs : List X) → ((k : ℕ) (x : X) → slice_get xs k ≡ Some x → P x) → All P xs
All-from_slice_get P xs each = λ k d within. each k (slice_index_or xs k d) (slice_get-get_or xs k d within)

-- an element of a front stays where it is
pub slice_get-append_left : {X : Type 0} (xs ys : List X) (k : ℕ) (x : X) → slice_get xs k ≡ Some x → slice_get (xs ++ ys) k ≡ Some x
slice_get-append_left [] ys k x at = absurd (none-some x at)
slice_get-append_left (y ∷ xs) ys zero x at = at
slice_get-append_left (y ∷ xs) ys (suc k) x at = slice_get-append_left xs ys k x at

-- an element behind a front stands as many places further on
pub slice_get-append_right : {X : Type 0} (xs ys : List X) (k : ℕ) → slice_get (xs ++ ys) (length xs + k) ≡ slice_get ys k
slice_get-append_right [] ys k = let place : 0 + k ≡ k = omega arith in ap (slice_get ys) place
slice_get-append_right (x ∷ xs) ys k =
    let place : suc (length xs) + k ≡ suc (length xs + k) = omega arith in
    ap (slice_get (x ∷ (xs ++ ys))) place ∙ slice_get-append_right xs ys k

-- what the rest of a list begins with stands at the place where it was cut
pub slice_get_from_drop : {X : Type 0} (xs rest : List X) (k : ℕ) (x : X) → drop k xs ≡ x ∷ rest → slice_get xs k ≡ Some x
slice_get_from_drop [] rest zero x e = cc
slice_get_from_drop [] rest (suc k) x e = cc
slice_get_from_drop (y ∷ xs) rest zero x e = cc
slice_get_from_drop (y ∷ xs) rest (suc k) x e = slice_get_from_drop xs rest k x e

-- the last element
pub slice_get_push : {X : Type 0} (xs : List X) (y : X) → slice_get (xs ++ y ∷ []) (length xs) ≡ Some y
slice_get_push [] y = refl
slice_get_push (x ∷ xs) y = slice_get_push xs y

-- an element after a push was there before, or is the last one
pub slice_get_push_cases : {X : Type 0} (xs : List X) (y : X) (k : ℕ) (x : X) → slice_get (xs ++ y ∷ []) k ≡ Some x → (slice_get xs k ≡ Some x) ⊎ ((k ≡ length xs) × (y ≡ x))
slice_get_push_cases [] y zero x at = inr (refl, same_Some y x at)
slice_get_push_cases [] y (suc k) x at = absurd (none-some x at)
slice_get_push_cases (z ∷ xs) y zero x at = inl at
slice_get_push_cases (z ∷ xs) y (suc k) x at =
    elim (slice_get_push_cases xs y k x at) [ inl before ↦ inl before | inr last ↦ inr (ap suc last.0, last.1) ]

-- what is written at a place stands there
pub slice_get-set_same : {X : Type 0} (xs : List X) (k : ℕ) (y : X) → k < length xs → slice_get (slice_set xs k y) k ≡ Some y
slice_get-set_same [] k y within = absurd (omega arith)
slice_get-set_same (x ∷ xs) zero y within = refl
slice_get-set_same (x ∷ xs) (suc k) y within = slice_get-set_same xs k y (omega arith)

-- a write leaves every other place
pub slice_get-set_other : {X : Type 0} (xs : List X) (i k : ℕ) (y : X) → k ≢ i → slice_get (slice_set xs i y) k ≡ slice_get xs k
slice_get-set_other [] i k y apart = refl
slice_get-set_other (x ∷ xs) zero zero y apart = absurd (apart refl)
slice_get-set_other (x ∷ xs) zero (suc k) y apart = refl
slice_get-set_other (x ∷ xs) (suc i) zero y apart = refl
slice_get-set_other (x ∷ xs) (suc i) (suc k) y apart = slice_get-set_other xs i k y (λ same. apart (ap suc same))

-- an element after a write is the one written, or was there before
pub slice_get_set_cases : {X : Type 0} (xs : List X) (i : ℕ) (y : X) (k : ℕ) (x : X) → slice_get (slice_set xs i y) k ≡ Some x → ((k ≡ i) × (y ≡ x)) ⊎ (slice_get xs k ≡ Some x)
slice_get_set_cases [] i y k x at = inr at
slice_get_set_cases (z ∷ xs) zero y zero x at = inl (refl, same_Some y x at)
slice_get_set_cases (z ∷ xs) zero y (suc k) x at = inr at
slice_get_set_cases (z ∷ xs) (suc i) y zero x at = inr at
slice_get_set_cases (z ∷ xs) (suc i) y (suc k) x at =
    elim (slice_get_set_cases xs i y k x at) [ inl there ↦ inl (ap suc there.0, there.1) | inr before ↦ inr before ]

-- one place holds one element
pub slice_get_once : {X : Type 0} (xs : List X) (k : ℕ) (x y : X) → slice_get xs k ≡ Some x → slice_get xs k ≡ Some y → x ≡ y
slice_get_once xs k x y one other = same_Some x y (sym one ∙ other)

-- the image of what is in a list is in the list of images
pub Contains-map : {X Y : Type 0} (f : X → Y) (xs : List X) (x : X) → Contains xs x → Contains (map f xs) (f x)
Contains-map f xs x held =
    let place = slice_get_from_Contains xs x held in
    Contains-from_slice_get (map f xs) place.0 (f x) (slice_get-map f xs place.0 ∙ ap (option_map f) place.1)

-- what is in a list of images is the image of what is in the list
pub Contains_map_from : {X Y : Type 0} (f : X → Y) (xs : List X) (y : Y) → Contains (map f xs) y → (x : X) × Contains xs x × (f x ≡ y)
Contains_map_from f xs y held =
    let within : held.0 < length xs = omega (arith, held.1, length-map xs f) in
    let source = element_at xs held.0 within in (
      source.0,
      Contains-from_slice_get xs held.0 source.0 source.1,
      same_Some (f source.0) y (sym (slice_get-map f xs held.0 ∙ ap (option_map f) source.1) ∙ (slice_get-get_or (map f xs) held.0 y held.1 ∙ ap (λ z. Some z) held.2)),
    )
