-- A list whose elements have keys, gathered key by key.
use Rattle.std.proofs.Common.{◌≡◌, ℕ, zero, suc, ◌+◌, ◌<◌, ◌≤◌, true, false, Bool, cond, not, ◌==◌, List, [], ◌∷◌, ◌++◌, map, get_or, slice_set, slice_index_or, refl, sym, ◌∙◌, ap, subst, inl, inr, arith}
use Rattle.std.specs.List.{All, filter, flat_map, range_with_len, swap}
use Rattle.std.specs.List.Sorted.{IsPermutation, IsNonDecreasingBy, SwapsInRange, apply_swaps}
use Rattle.std.proofs.lemmas.Bool.Decides.{eqb_tells}
use Rattle.std.proofs.lemmas.Bool.{eqb-true}
use Rattle.std.proofs.Math.ListN.{get_or-map}
use Rattle.std.proofs.lemmas.List.{map-set, length-map}
use Rattle.std.proofs.lemmas.List.Elements.{All-filter, filter_passes}
use Rattle.std.proofs.lemmas.List.Kept.{IsNonDecreasingBy-filter}
use Rattle.std.proofs.lemmas.List.Sorted.{IsPermutation-refl, IsPermutation-trans, IsPermutation-append_right, IsPermutation-filter_both}

-- lists that are the same key by key are the same joined
pub flat_map-range_same : {A : Type 0} (f g : ℕ → List A) (first count : ℕ) → ((v : ℕ) → first ≤ v → v < first + count → f v ≡ g v) → flat_map f (range_with_len first count) ≡ flat_map g (range_with_len first count)
flat_map-range_same f g first zero same = refl
flat_map-range_same f g first (suc count) same =
    ap (λ xs. xs ++ flat_map f (range_with_len (first + 1) count)) (same first (omega arith) (omega arith))
    ∙ ap (λ xs. g first ++ xs) (flat_map-range_same f g (first + 1) count (λ v low high. same v (omega arith) (omega arith)))

-- where no element passes, nothing is left
pub filter_none : {X : Type 0} (p : X → Bool) (xs : List X) → All (λ x. p x ≡ false) xs → filter p xs ≡ []
filter_none p [] none = refl
filter_none p (x ∷ xs) none =
    ap (λ b. cond b (x ∷ filter p xs) (filter p xs)) (none 0 x (omega arith))
    ∙ filter_none p xs (λ k d within. none (suc k) d (omega arith))

module _ {X : Type 0} (key : X → ℕ) where
  -- the elements of a key
  abbrev pub group : ℕ → List X → List X
  group h xs = filter (λ x. key x == h) xs

  -- the elements of other keys
  abbrev pub others : ℕ → List X → List X
  others h xs = filter (λ x. not (key x == h)) xs

  -- those of one key are the same among those that do not have another
  pub group-others : (first h : ℕ) (xs : List X) → first < h → group h (others first xs) ≡ group h xs
  group-others first h [] later = refl
  group-others first h (x ∷ xs) later = step (key x == first) refl (group-others first h xs later)
    where
      step : (b : Bool) → (key x == first) ≡ b → group h (others first xs) ≡ group h xs → group h (cond (not b) (x ∷ others first xs) (others first xs)) ≡ cond (key x == h) (x ∷ group h xs) (group h xs)
      step true same rest =
          let apart : (key x == h) ≡ false = elim (eqb_tells (key x) h) [
            | inl alike ↦ absurd (let here = eqb-true (key x) first same in let there = alike.1 in omega (arith, here, there))
            | inr other ↦ other.0
          ] in
          rest ∙ ap (λ b. cond b (x ∷ group h xs) (group h xs)) (sym apart)
      step false other rest = ap (λ ys. cond (key x == h) (x ∷ ys) ys) rest

  -- the same of all groups from the next key on
  pub groups-others : (first count : ℕ) (xs : List X) → flat_map (λ h. group h (others first xs)) (range_with_len (first + 1) count) ≡ flat_map (λ h. group h xs) (range_with_len (first + 1) count)
  groups-others first count xs = flat_map-range_same (λ h. group h (others first xs)) (λ h. group h xs) (first + 1) count (λ h low high. group-others first h xs (omega arith))

  -- other keys than the first are above it
  pub others_above : (first : ℕ) (xs : List X) → All (λ x. first ≤ key x) xs → All (λ x. first + 1 ≤ key x) (others first xs)
  others_above first xs low k d within =
      let here = All-filter (λ x. not (key x == first)) (λ x. first ≤ key x) xs low k d within in
      let passes = filter_passes (λ x. not (key x == first)) xs k d within in
      elim (eqb_tells (key (get_or (others first xs) k d)) first) [
        | inl same ↦ absurd (let no = ap not same.0 in cc)
        | inr other ↦ (let apart = other.1 in omega (arith, here))
      ]

  -- a list is its groups, in another order
  pub gathered : (first count : ℕ) (xs : List X) → All (λ x. first ≤ key x) xs → All (λ x. key x < first + count) xs → IsPermutation xs (flat_map (λ h. group h xs) (range_with_len first count))
  gathered first zero [] low high = IsPermutation-refl []
  gathered first zero (x ∷ xs) low high = absurd (omega (arith, low 0 x (omega arith), high 0 x (omega arith)))
  gathered first (suc count) xs low high =
      let rest = gathered (first + 1) count (others first xs) (others_above first xs low) (λ k d within. omega (arith, All-filter (λ x. not (key x == first)) (λ x. key x < first + suc count) xs high k d within)) in
      let moved = subst (λ ys. IsPermutation (others first xs) ys) (groups-others first count xs) rest in
      IsPermutation-trans xs (group first xs ++ others first xs) _
      (IsPermutation-filter_both (λ x. key x == first) (λ x. not (key x == first)) (λ x. refl) xs)
      (IsPermutation-append_right (group first xs) (others first xs) _ moved)

  -- where keys do not fall, the first group stands first
  sorted_split : (first : ℕ) (xs : List X) → IsNonDecreasingBy key xs → All (λ x. first ≤ key x) xs → group first xs ++ others first xs ≡ xs
  sorted_split first [] rises low = refl
  sorted_split first (x ∷ xs) rises low =
      step (key x == first) refl (sorted_split first xs (λ i j d order within. rises (suc i) (suc j) d (omega arith) (omega arith)) (λ k d within. low (suc k) d (omega arith)))
    where
      step : (b : Bool) → (key x == first) ≡ b → group first xs ++ others first xs ≡ xs → cond b (x ∷ group first xs) (group first xs) ++ cond (not b) (x ∷ others first xs) (others first xs) ≡ x ∷ xs
      step true same rest = ap (λ ys. x ∷ ys) rest
      step false other rest =
          let above : All (λ y. (key y == first) ≡ false) xs = λ k d within.
          elim (eqb_tells (key (get_or xs k d)) first) [
            | inl same ↦ absurd (
                let here = same.1 in
                let order = rises 0 (suc k) d (omega arith) (omega arith) in
                let least = low 0 x (omega arith) in
                elim (eqb_tells (key x) first) [
                  | inl alike ↦ (let yes = alike.0 in cc)
                  | inr apart ↦ (let differs = apart.1 in omega (arith, here, order, least))
                ])
            | inr apart ↦ apart.0
          ] in
          let empty = filter_none (λ y. key y == first) xs above in
          ap (λ ys. ys ++ x ∷ others first xs) empty ∙ ap (λ ys. x ∷ ys) (ap (λ ys. ys ++ others first xs) (sym empty) ∙ rest)

  -- so the groups stand as they are
  pub gathered-sorted : (first count : ℕ) (xs : List X) → IsNonDecreasingBy key xs → All (λ x. first ≤ key x) xs → All (λ x. key x < first + count) xs → flat_map (λ h. group h xs) (range_with_len first count) ≡ xs
  gathered-sorted first zero [] rises low high = refl
  gathered-sorted first zero (x ∷ xs) rises low high = absurd (omega (arith, low 0 x (omega arith), high 0 x (omega arith)))
  gathered-sorted first (suc count) xs rises low high =
      let rest = gathered-sorted (first + 1) count (others first xs) (IsNonDecreasingBy-filter key (λ x. not (key x == first)) xs rises) (others_above first xs low) (λ k d within. omega (arith, All-filter (λ x. not (key x == first)) (λ x. key x < first + suc count) xs high k d within)) in
      ap (λ ys. group first xs ++ ys) (sym (groups-others first count xs) ∙ rest) ∙ sorted_split first xs rises low

-- ---- permutations through a map

module _ {X Y : Type 0} (f : X → Y) where
  map-swap : (xs : List X) (i j : ℕ) → map f (swap xs i j) ≡ swap (map f xs) i j
  map-swap [] i j = refl
  map-swap (d ∷ xs) i j =
      map-set f (slice_set (d ∷ xs) i (slice_index_or (d ∷ xs) j d)) j (slice_index_or (d ∷ xs) i d)
      ∙ ap (λ ys. slice_set ys j (f (slice_index_or (d ∷ xs) i d))) (map-set f (d ∷ xs) i (slice_index_or (d ∷ xs) j d))
      ∙ ap (λ y. slice_set (slice_set (map f (d ∷ xs)) i y) j (f (slice_index_or (d ∷ xs) i d))) (sym (get_or-map f (d ∷ xs) j d))
      ∙ ap (λ y. slice_set (slice_set (map f (d ∷ xs)) i (slice_index_or (map f (d ∷ xs)) j (f d))) j y) (sym (get_or-map f (d ∷ xs) i d))

  map-swaps : (xs : List X) (moves : List (ℕ × ℕ)) → map f (apply_swaps xs moves) ≡ apply_swaps (map f xs) moves
  map-swaps xs [] = refl
  map-swaps xs (move ∷ moves) = map-swap (apply_swaps xs moves) move.0 move.1 ∙ ap (λ ys. swap ys move.0 move.1) (map-swaps xs moves)

  -- what a list becomes, in another order, is what it becomes in that order
  pub IsPermutation-map : (xs ys : List X) → IsPermutation xs ys → IsPermutation (map f xs) (map f ys)
  IsPermutation-map xs ys is = record {
    moves = is.moves;
    below = subst (λ n. SwapsInRange n is.moves) (sym (length-map xs f)) is.below;
    is = ap (map f) is.is ∙ map-swaps xs is.moves;
  }
