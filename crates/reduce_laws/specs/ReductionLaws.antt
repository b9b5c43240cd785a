-- How items are combined, and the laws that let it be done in any order and in any grouping.
use Rattle.std.specs.Prelude.{◌≡◌, ◌↔◌, Bool, true, List, [], ◌∷◌}

-- a way to combine items
pub record Reducer (Item : Type 0) : Type 0 where
  -- the item that adds nothing
  pub identity : Item
  -- two items in one
  pub combine : Item → Item → Item
  -- the test of whether two items are the same
  pub same : Item → Item → Bool
  -- whether a mirror keeps the item that it sent, since combining it once more changes nothing
  pub keeps : Bool

-- the items of all these, combined; the identity where there are none
abbrev pub combined : {Item A : Type 0} → Reducer Item → (A → Item) → List A → Item
combined reducer item_of [] = reducer.identity
combined reducer item_of (x ∷ xs) = reducer.combine (item_of x) (combined reducer item_of xs)

-- the laws of a reducer on the items that are values
pub record ReductionLaws {Item : Type 0} (IsValue : Item → Type 0) (reducer : Reducer Item) : Type 0 where
  -- the identity is a value
  pub identity_is_value : IsValue reducer.identity
  -- two values combine to a value
  pub combine_is_value : (x y : Item) → IsValue x → IsValue y → IsValue (reducer.combine x y)
  -- order does not matter
  pub combine_comm : (x y : Item) → IsValue x → IsValue y → reducer.combine x y ≡ reducer.combine y x
  -- grouping does not matter
  pub combine_assoc : (x y z : Item) → IsValue x → IsValue y → IsValue z → reducer.combine (reducer.combine x y) z ≡ reducer.combine x (reducer.combine y z)
  -- the identity adds nothing
  pub combine-identity : (x : Item) → IsValue x → reducer.combine reducer.identity x ≡ x
  -- the test is true exactly where two values are the same
  pub same_tells : (x y : Item) → IsValue x → IsValue y → (reducer.same x y ≡ true) ↔ (x ≡ y)
  -- where items are kept, an item combined with itself is that item
  pub combine_itself : reducer.keeps ≡ true → (x : Item) → IsValue x → reducer.combine x x ≡ x
