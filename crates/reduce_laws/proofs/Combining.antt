-- Combining the items of lists: part by part, item by item, and with a test.
use Rattle.std.proofs.Common.{◌≡◌, Bool, true, false, cond, List, [], ◌∷◌, ◌++◌, refl, sym, ◌∙◌, ap}
use Rattle.std.specs.List.{All, AllByRecursion, filter, flat_map}
use Rattle.std.proofs.lemmas.List.Elements.{recursion_from_All, All-nil, All-append}
use Rattle.reduce_laws.specs.ReductionLaws.{Reducer, ReductionLaws, combined}
use Rattle.reduce_laws.specs.CombinedLaws.{PartsCombine, SharesCombine}

-- a fact of everything holds of each element
pub each : {X : Type 0} (P : X → Type 0) → ((x : X) → P x) → (xs : List X) → AllByRecursion P xs
each P h [] = tt
each P h (x ∷ xs) = (h x, each P h xs)

-- what holds of the elements of each part holds of the elements of all parts
pub All-flat_map : {X Y : Type 0} (P : Y → Type 0) (f : X → List Y) (xs : List X) → AllByRecursion (λ x. All P (f x)) xs → All P (flat_map f xs)
All-flat_map P f [] h = All-nil P
All-flat_map P f (x ∷ xs) h = All-append P (f x) (flat_map f xs) h.0 (All-flat_map P f xs h.1)

module _ {Item : Type 0} {IsItem : Item → Type 0} {reducer : Reducer Item} (laws : ReductionLaws IsItem reducer) where
  -- the identity on the right adds nothing
  pub combine_identity : (x : Item) → IsItem x → reducer.combine x reducer.identity ≡ x
  combine_identity x hx = laws.combine_comm x reducer.identity hx laws.identity_is_value ∙ laws.combine-identity x hx

  -- the two in the middle of four change places
  pub exchange : (a b c d : Item) → IsItem a → IsItem b → IsItem c → IsItem d → reducer.combine (reducer.combine a b) (reducer.combine c d) ≡ reducer.combine (reducer.combine a c) (reducer.combine b d)
  exchange a b c d ha hb hc hd =
      laws.combine_assoc a b (reducer.combine c d) ha hb (laws.combine_is_value c d hc hd)
      ∙ ap (reducer.combine a) (sym (laws.combine_assoc b c d hb hc hd) ∙ ap (λ x. reducer.combine x d) (laws.combine_comm b c hb hc) ∙ laws.combine_assoc c b d hc hb hd)
      ∙ sym (laws.combine_assoc a c (reducer.combine b d) ha hc (laws.combine_is_value b d hb hd))

  -- values combine to a value
  pub combined_is_value : {A : Type 0} (item : A → Item) (xs : List A) → AllByRecursion (λ x. IsItem (item x)) xs → IsItem (combined reducer item xs)
  combined_is_value item [] h = laws.identity_is_value
  combined_is_value item (x ∷ xs) h = laws.combine_is_value (item x) (combined reducer item xs) h.0 (combined_is_value item xs h.1)

  -- a list in two parts combines to what the two parts combine to
  pub combined-append : {A : Type 0} (item : A → Item) (xs ys : List A) → AllByRecursion (λ x. IsItem (item x)) xs → AllByRecursion (λ x. IsItem (item x)) ys → combined reducer item (xs ++ ys) ≡ reducer.combine (combined reducer item xs) (combined reducer item ys)
  combined-append item [] ys hx hy = sym (laws.combine-identity (combined reducer item ys) (combined_is_value item ys hy))
  combined-append item (x ∷ xs) ys hx hy =
      ap (reducer.combine (item x)) (combined-append item xs ys hx.1 hy)
      ∙ sym (laws.combine_assoc (item x) (combined reducer item xs) (combined reducer item ys) hx.0 (combined_is_value item xs hx.1) (combined_is_value item ys hy))

  -- two items of each combine to what the first ones and the second ones combine to
  pub combined_both : {A : Type 0} (f g : A → Item) (xs : List A) → AllByRecursion (λ x. IsItem (f x)) xs → AllByRecursion (λ x. IsItem (g x)) xs → combined reducer (λ x. reducer.combine (f x) (g x)) xs ≡ reducer.combine (combined reducer f xs) (combined reducer g xs)
  combined_both f g [] hf hg = sym (laws.combine-identity reducer.identity laws.identity_is_value)
  combined_both f g (x ∷ xs) hf hg =
      ap (reducer.combine (reducer.combine (f x) (g x))) (combined_both f g xs hf.1 hg.1)
      ∙ exchange (f x) (g x) (combined reducer f xs) (combined reducer g xs) hf.0 hg.0 (combined_is_value f xs hf.1) (combined_is_value g xs hg.1)

  -- the same items combine to the same
  pub combined_same : {A : Type 0} (f g : A → Item) (xs : List A) → AllByRecursion (λ x. f x ≡ g x) xs → combined reducer f xs ≡ combined reducer g xs
  combined_same f g [] h = refl
  combined_same f g (x ∷ xs) h = ap (λ y. reducer.combine y (combined reducer f xs)) h.0 ∙ ap (reducer.combine (g x)) (combined_same f g xs h.1)

  -- identities combine to the identity
  pub combined_identities : {A : Type 0} (f : A → Item) (xs : List A) → AllByRecursion (λ x. f x ≡ reducer.identity) xs → combined reducer f xs ≡ reducer.identity
  combined_identities f [] h = refl
  combined_identities f (x ∷ xs) h =
      ap (λ y. reducer.combine y (combined reducer f xs)) h.0 ∙ ap (reducer.combine reducer.identity) (combined_identities f xs h.1) ∙ laws.combine-identity reducer.identity laws.identity_is_value

  -- a value or the identity is a value
  pub value_or_identity : (b : Bool) (x : Item) → IsItem x → IsItem (cond b x reducer.identity)
  value_or_identity true x h = h
  value_or_identity false x h = laws.identity_is_value

  -- so is each that passes a test, with the identity for those that do not
  pub masked_values : {A : Type 0} (item : A → Item) (p : A → Bool) (xs : List A) → AllByRecursion (λ x. IsItem (item x)) xs → AllByRecursion (λ x. IsItem (cond (p x) (item x) reducer.identity)) xs
  masked_values item p [] h = tt
  masked_values item p (x ∷ xs) h = (value_or_identity (p x) (item x) h.0, masked_values item p xs h.1)

  -- those that pass a test combine to what all do, with the identity for those that do not pass
  pub combined-filter : {A : Type 0} (item : A → Item) (p : A → Bool) (xs : List A) → AllByRecursion (λ x. IsItem (item x)) xs → combined reducer item (filter p xs) ≡ combined reducer (λ x. cond (p x) (item x) reducer.identity) xs
  combined-filter item p [] h = refl
  combined-filter {A} item p (x ∷ xs) h = step (p x) (combined-filter item p xs h.1)
    where
      step : (b : Bool) → combined reducer item (filter p xs) ≡ combined reducer (λ y. cond (p y) (item y) reducer.identity) xs → combined reducer item (cond b (x ∷ filter p xs) (filter p xs)) ≡ reducer.combine (cond b (item x) reducer.identity) (combined reducer (λ y. cond (p y) (item y) reducer.identity) xs)
      step true rest = ap (reducer.combine (item x)) rest
      step false rest = rest ∙ sym (laws.combine-identity (combined reducer (λ y. cond (p y) (item y) reducer.identity) xs) (combined_is_value (λ y. cond (p y) (item y) reducer.identity) xs (masked_values item p xs h.1)))

  -- a list in many parts combines to what the parts combine to
  pub combined-flat_map : {A B : Type 0} (item : A → Item) (share : B → List A) (owners : List B) → AllByRecursion (λ owner. All (λ x. IsItem (item x)) (share owner)) owners → combined reducer item (flat_map share owners) ≡ combined reducer (λ owner. combined reducer item (share owner)) owners
  combined-flat_map item share [] h = refl
  combined-flat_map item share (owner ∷ owners) h =
      combined-append item (share owner) (flat_map share owners) (recursion_from_All (λ x. IsItem (item x)) (share owner) h.0)
      (recursion_from_All (λ x. IsItem (item x)) (flat_map share owners) (All-flat_map (λ x. IsItem (item x)) share owners h.1))
      ∙ ap (reducer.combine (combined reducer item (share owner))) (combined-flat_map item share owners h.1)

  pub parts_combine : (A : Type 0) → PartsCombine A IsItem reducer
  parts_combine A item xs ys hx hy =
      combined-append item xs ys (recursion_from_All (λ x. IsItem (item x)) xs hx) (recursion_from_All (λ y. IsItem (item y)) ys hy)

  pub shares_combine : (A B : Type 0) → SharesCombine A B IsItem reducer
  shares_combine A B item share owners h =
      combined-flat_map item share owners (recursion_from_All (λ owner. All (λ x. IsItem (item x)) (share owner)) owners h)
