-- How many of a list pass, counted one after another.
use Rattle.std.proofs.Common.{◌≡◌, ℕ, ◌+◌, ◌<◌, ◌≤◌, Bool, true, false, List, length, map, get_or, take, Option, Some, IsSomeAnd, slice_get, sym, ap, subst, ◌∙◌, arith}
use Rattle.std.proofs.lemmas.List.{length-map, get_or-map, take_all}
use Rattle.std.proofs.lemmas.Option.{get_or_from_slice_get}
use Rattle.list_laws.specs.Members.{has_member, members, count_of, IsMember}
use Rattle.list_laws.proofs.Members.{count_of-take-yes, count_of-take-no, slice_get-members, All-members, IsMember-lt-length}
use Rattle.list_laws.proofs.Places.{All-at, element_at}

module _ {X : Type 0} (p : X → Bool) (xs : List X) where
  -- whether the element at a place passes
  passes_at : (i : ℕ) (x : X) (b : Bool) → i < length xs → x ≡ get_or xs i x → b ≡ p x → has_member (map p xs) i ≡ b
  passes_at i x b within at is = get_or-map p xs i x false within ∙ ap p (sym at) ∙ sym is

  pub counted_yes : (i : ℕ) (x : X) (b : Bool) → i < length xs → x ≡ get_or xs i x → b ≡ p x → b ≡ true → count_of (take (i + 1) (map p xs)) ≡ count_of (take i (map p xs)) + 1
  counted_yes i x b within at is passes = count_of-take-yes (map p xs) i (passes_at i x b within at is ∙ passes)

  pub counted_no : (i : ℕ) (x : X) (b : Bool) → i < length xs → x ≡ get_or xs i x → b ≡ p x → b ≡ false → count_of (take (i + 1) (map p xs)) ≡ count_of (take i (map p xs))
  counted_no i x b within at is fails = count_of-take-no (map p xs) i (let long = length-map xs p in omega arith) (passes_at i x b within at is ∙ fails)

  -- all are counted
  pub counted_all : (i : ℕ) → length xs ≤ i → count_of (take i (map p xs)) ≡ count_of (map p xs)
  counted_all i past = ap count_of (take_all i (map p xs) (let long = length-map xs p in omega arith))

  -- the place among those that pass
  pub found_at : (i place : ℕ) (x : X) (b : Bool) → i < length xs → x ≡ get_or xs i x → b ≡ p x → b ≡ true → count_of (take i (map p xs)) ≡ place → slice_get (members (map p xs)) place ≡ Some i
  found_at i place x b within at is passes count = ap (slice_get (members (map p xs))) (sym count) ∙ slice_get-members (map p xs) i (passes_at i x b within at is ∙ passes)

  -- who is found at a place passes
  pub found_passes : (place i : ℕ) → slice_get (members (map p xs)) place ≡ Some i → (i < length xs) × IsSomeAnd (slice_get xs i) (λ x. p x ≡ true)
  found_passes place i found =
      let member : IsMember (map p xs) i = All-at (IsMember (map p xs)) (members (map p xs)) place i (All-members (map p xs)) found in
      let within : i < length xs = let long = length-map xs p in let below = IsMember-lt-length (map p xs) i member in omega arith in
      let there = element_at xs i within in
      (within, subst (λ (o : Option X). IsSomeAnd o (λ x. p x ≡ true)) (sym there.1) (sym (get_or-map p xs i there.0 false within ∙ ap p (get_or_from_slice_get xs i there.0 there.0 there.1)) ∙ member))
