-- A combination of many items does not depend on their order, and may be made part by part.
use Rattle.std.specs.Prelude.{◌≡◌, ◌++◌, List, All}
use Rattle.std.specs.List.{flat_map}
use Rattle.std.specs.List.Sorted.{IsPermutation}
use Rattle.reduce_laws.specs.ReductionLaws.{Reducer, combined}

-- the same items in another order combine to the same
abbrev pub OrderIsFree : {Item : Type 0} → (A : Type 0) → (Item → Type 0) → Reducer Item → Type 0
OrderIsFree {Item} A IsValue reducer =
    (item_of : A → Item) (xs ys : List A) → All (λ x. IsValue (item_of x)) xs → IsPermutation xs ys
    → combined reducer item_of ys ≡ combined reducer item_of xs

-- a list in two parts combines to what the two parts combine to
abbrev pub PartsCombine : {Item : Type 0} → (A : Type 0) → (Item → Type 0) → Reducer Item → Type 0
PartsCombine {Item} A IsValue reducer =
    (item_of : A → Item) (xs ys : List A) → All (λ x. IsValue (item_of x)) xs → All (λ y. IsValue (item_of y)) ys
    → combined reducer item_of (xs ++ ys) ≡ reducer.combine (combined reducer item_of xs) (combined reducer item_of ys)

-- a list in many parts combines to what the parts combine to
abbrev pub SharesCombine : {Item : Type 0} → (A B : Type 0) → (Item → Type 0) → Reducer Item → Type 0
SharesCombine {Item} A B IsValue reducer =
    (item_of : A → Item) (share : B → List A) (owners : List B)
    → All (λ owner. All (λ x. IsValue (item_of x)) (share owner)) owners
    → combined reducer item_of (flat_map share owners) ≡ combined reducer (λ owner. combined reducer item_of (share owner)) owners
