-- Items combine to the same in any order.
use Rattle.std.proofs.Common.{◌≡◌, ◌≢◌, ℕ, zero, suc, ◌<◌, Option, Some, None, List, [], ◌∷◌, length, map, set, get_or, refl, sym, ◌∙◌, ap, subst, inl, inr, arith}
use Rattle.std.specs.List.{All, AllByRecursion, swap}
use Rattle.std.specs.List.Sorted.{IsPermutation}
use Rattle.std.proofs.lemmas.Bool.{cases_eq}
use Rattle.std.proofs.lemmas.List.{set-set, set_comm, set-get_or, map-set, length-set, length-map}
use Rattle.std.proofs.lemmas.List.Elements.{recursion_from_All, All-set}
use Rattle.std.proofs.lemmas.List.Sorted.{IsPermutation-keeps}
use Rattle.reduce_laws.specs.ReductionLaws.{Reducer, ReductionLaws, combined}
use Rattle.reduce_laws.specs.CombinedLaws.{OrderIsFree}
use Rattle.reduce_laws.proofs.Combining.{combined_is_value}

-- what holds of each element and of a new one holds after a write
each-set : {X : Type 0} (P : X → Type 0) (xs : List X) (i : ℕ) (y : X) → P y → AllByRecursion P xs → AllByRecursion P (set xs i y)
each-set P [] i y hy h = h
each-set P (x ∷ xs) zero y hy h = (hy, h.1)
each-set P (x ∷ xs) (suc i) y hy h = (h.0, each-set P xs i y hy h.1)

-- an item of an element that may be missing
abbrev or_identity : {Item A : Type 0} → Item → (A → Item) → Option A → Item
or_identity identity item None = identity
or_identity identity item (Some x) = item x

-- combining the images of a list
combined-map : {Item A B : Type 0} (reducer : Reducer Item) (item : B → Item) (f : A → B) (xs : List A) → combined reducer item (map f xs) ≡ combined reducer (λ x. item (f x)) xs
combined-map reducer item f [] = refl
combined-map reducer item f (x ∷ xs) = ap (reducer.combine (item (f x))) (combined-map reducer item f xs)

-- what holds of the image of each element holds of each image
each-map : {A B : Type 0} (P : B → Type 0) (f : A → B) (xs : List A) → AllByRecursion (λ x. P (f x)) xs → AllByRecursion P (map f xs)
each-map P f [] h = tt
each-map P f (x ∷ xs) h = (h.0, each-map P f xs h.1)

module _ {Item : Type 0} {IsItem : Item → Type 0} {reducer : Reducer Item} (laws : ReductionLaws IsItem reducer) where
  -- the first two change places
  to_front : (a b c : Item) → IsItem a → IsItem b → IsItem c → reducer.combine a (reducer.combine b c) ≡ reducer.combine b (reducer.combine a c)
  to_front a b c ha hb hc =
      sym (laws.combine_assoc a b c ha hb hc) ∙ ap (λ x. reducer.combine x c) (laws.combine_comm a b ha hb) ∙ laws.combine_assoc b a c hb ha hc

  -- an element may be taken out, where nothing is left in its place
  take_out : {B : Type 0} (item : B → Item) (blank : B) → item blank ≡ reducer.identity → (xs : List B) (i : ℕ) (y : B) → i < length xs → IsItem (item y) → AllByRecursion (λ x. IsItem (item x)) xs → combined reducer item (set xs i y) ≡ reducer.combine (item y) (combined reducer item (set xs i blank))
  take_out item blank empty [] i y within hy h = absurd (omega arith)
  take_out item blank empty (x ∷ xs) zero y within hy h =
      ap (reducer.combine (item y)) (sym (ap (λ z. reducer.combine z (combined reducer item xs)) empty ∙ laws.combine-identity (combined reducer item xs) (combined_is_value laws item xs h.1)))
  take_out item blank empty (x ∷ xs) (suc i) y within hy h =
      ap (reducer.combine (item x)) (take_out item blank empty xs i y (omega arith) hy h.1)
      ∙ to_front (item x) (item y) (combined reducer item (set xs i blank)) h.0 hy
      (combined_is_value laws item (set xs i blank) (each-set (λ z. IsItem (item z)) xs i blank (let P : Item → Type 0 = IsItem in subst P (sym empty) laws.identity_is_value) h.1))

  -- two elements of a list of options, written one after the other
  two_out : {A : Type 0} (item : A → Item) (xs : List (Option A)) (i j : ℕ) (a b : A) → i ≢ j → i < length xs → j < length xs → IsItem (item a) → IsItem (item b) → AllByRecursion (λ x. IsItem (or_identity reducer.identity item x)) xs → combined reducer (or_identity reducer.identity item) (set (set xs i (Some a)) j (Some b)) ≡ reducer.combine (item b) (reducer.combine (item a) (combined reducer (or_identity reducer.identity item) (set (set xs j None) i None)))
  two_out {A} item xs i j a b apart hi hj ha hb h =
      take_out (or_identity reducer.identity item) None refl (set xs i (Some a)) j (Some b) (omega (arith, length-set xs i (Some a))) hb (each-set (λ x. IsItem (or_identity reducer.identity item x)) xs i (Some a) ha h)
      ∙ ap (reducer.combine (item b))
      (ap (combined reducer (or_identity reducer.identity item)) (set_comm xs i j (Some a) None apart)
      ∙ take_out (or_identity reducer.identity item) None refl (set xs j None) i (Some a) (omega (arith, length-set {A = Option A} xs j None)) ha (each-set (λ x. IsItem (or_identity reducer.identity item x)) xs j None laws.identity_is_value h))

  -- two elements in each other's place
  exchanged : {A : Type 0} (item : A → Item) (xs : List A) (i j : ℕ) (a b : A) → i ≢ j → i < length xs → j < length xs → IsItem (item a) → IsItem (item b) → AllByRecursion (λ x. IsItem (item x)) xs → combined reducer item (set (set xs i a) j b) ≡ combined reducer item (set (set xs i b) j a)
  exchanged {A} item xs i j a b apart hi hj ha hb h =
      as_options (set (set xs i a) j b) ∙ ap F (written a b) ∙ two_out item (map Some xs) i j a b apart fits_i fits_j ha hb values
      ∙ to_front (item b) (item a) T hb ha hT
      ∙ sym (as_options (set (set xs i b) j a) ∙ ap F (written b a) ∙ two_out item (map Some xs) i j b a apart fits_i fits_j hb ha values)
    where
      F : List (Option A) → Item
      F = combined reducer (or_identity reducer.identity item)

      T : Item
      T = F (set (set (map Some xs) j None) i None)

      values : AllByRecursion (λ x. IsItem (or_identity reducer.identity item x)) (map Some xs)
      values = each-map (λ x. IsItem (or_identity reducer.identity item x)) Some xs h

      hT : IsItem T
      hT = combined_is_value laws (or_identity reducer.identity item) (set (set (map Some xs) j None) i None)
          (each-set (λ x. IsItem (or_identity reducer.identity item x)) (set (map Some xs) j None) i None laws.identity_is_value
          (each-set (λ x. IsItem (or_identity reducer.identity item x)) (map Some xs) j None laws.identity_is_value values))

      fits_i : i < length (map Some xs)
      fits_i = omega (arith, length-map xs (λ (x : A). Some x))

      fits_j : j < length (map Some xs)
      fits_j = omega (arith, length-map xs (λ (x : A). Some x))

      as_options : (zs : List A) → combined reducer item zs ≡ F (map Some zs)
      as_options zs = sym (combined-map reducer (or_identity reducer.identity item) Some zs)

      written : (y z : A) → map Some (set (set xs i y) j z) ≡ set (set (map Some xs) i (Some y)) j (Some z)
      written y z = map-set Some (set xs i y) j z ∙ ap (λ zs. set zs j (Some z)) (map-set Some xs i y)

  -- two elements may be swapped
  combined-swap : {A : Type 0} (item : A → Item) (xs : List A) (i j : ℕ) → i < length xs → j < length xs → All (λ x. IsItem (item x)) xs → combined reducer item (swap xs i j) ≡ combined reducer item xs
  combined-swap item [] i j hi hj h = absurd (omega arith)
  combined-swap {A} item (d ∷ ys) i j hi hj h =
      elim (cases_eq i j) [
        | inl same ↦ ap (combined reducer item)
            (ap (λ n. set (set (d ∷ ys) i (get_or (d ∷ ys) n d)) n (get_or (d ∷ ys) i d)) (sym same)
            ∙ set-set (d ∷ ys) i (get_or (d ∷ ys) i d) (get_or (d ∷ ys) i d) ∙ set-get_or (d ∷ ys) i d)
        | inr apart ↦ exchanged item (d ∷ ys) i j (get_or (d ∷ ys) j d) (get_or (d ∷ ys) i d) apart hi hj (h j d hj) (h i d hi) (recursion_from_All (λ x. IsItem (item x)) (d ∷ ys) h)
            ∙ ap (combined reducer item) (ap (λ zs. set zs j (get_or (d ∷ ys) j d)) (set-get_or (d ∷ ys) i d) ∙ set-get_or (d ∷ ys) j d)
      ]

  -- a list in another order comes to the same
  pub combined_permuted : {A : Type 0} (item : A → Item) (xs ys : List A) → All (λ x. IsItem (item x)) xs → IsPermutation xs ys → combined reducer item ys ≡ combined reducer item xs
  combined_permuted {A} item xs ys h moved =
      (IsPermutation-keeps xs (λ (zs : List A). (combined reducer item zs ≡ combined reducer item xs) × All (λ x. IsItem (item x)) zs) (refl, h) step ys moved).0
    where
      swapped : (zs : List A) (i j : ℕ) → i < length zs → j < length zs → All (λ x. IsItem (item x)) zs → All (λ x. IsItem (item x)) (swap zs i j)
      swapped [] i j hi hj hz = hz
      swapped (d ∷ zs) i j hi hj hz =
          All-set (λ x. IsItem (item x)) (set (d ∷ zs) i (get_or (d ∷ zs) j d)) j (get_or (d ∷ zs) i d) (hz i d hi)
          (All-set (λ x. IsItem (item x)) (d ∷ zs) i (get_or (d ∷ zs) j d) (hz j d hj) hz)

      step : (zs : List A) (i j : ℕ) → i < length zs → j < length zs → (combined reducer item zs ≡ combined reducer item xs) × All (λ x. IsItem (item x)) zs → (combined reducer item (swap zs i j) ≡ combined reducer item xs) × All (λ x. IsItem (item x)) (swap zs i j)
      step zs i j hi hj held = (combined-swap item zs i j hi hj held.1 ∙ held.0, swapped zs i j hi hj held.1)

  pub order_is_free : (A : Type 0) → OrderIsFree A IsItem reducer
  order_is_free A item xs ys h moved = combined_permuted item xs ys h moved
