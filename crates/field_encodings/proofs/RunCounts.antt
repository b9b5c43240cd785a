-- What a set tells of a list whose numbers stand in a row: how many of its positions are updated, and which
-- is the greatest.
use Rattle.std.specs.Prelude.{◌≡◌, ◌≤◌, ◌<◌, ◌+◌, ◌-◌, ℕ, zero, suc, Bool, false, List, [], ◌∷◌, length, take, drop}
use Rattle.std.specs.List.{All, range_with_len}
use Rattle.std.proofs.Common.{arith, get_or, refl, sym, ap, ◌∙◌, inl, inr}
use Rattle.std.proofs.lemmas.Bool.{true≢false, cases_lt}
use Rattle.std.proofs.lemmas.List.{drop_more, length-map, length-take}
use Rattle.std.proofs.lemmas.List.Elements.{All-head, All-tail, All-weaker}
use Rattle.std.proofs.lemmas.List.FromFn.{get_or-range_with_len}
use Rattle.list_laws.specs.Members.{has_member, IsMember, members, count_of}
use Rattle.list_laws.proofs.Members.{members_since-none, count_of-le-length, All-members, Contains-members, IsMember-lt-length}
use Rattle.update_bits.specs.Members.{IsGreatestMemberBefore, HasNoMemberBefore}
use Rattle.field_encodings.specs.Lengths.{greatest_of}
use Rattle.field_encodings.specs.Lists.{marks_at}
use Rattle.field_encodings.proofs.NextUpdated.{mark_here, mark_past}

-- ---- the greatest member

-- the greatest of some numbers is as great as each
as_great : (xs : List ℕ) (i d : ℕ) → i < length xs → get_or xs i d ≤ greatest_of xs
as_great [] i d h = absurd (omega arith)
as_great (x ∷ xs) zero d h = omega arith
as_great (x ∷ xs) (suc i) d h = omega (arith, as_great xs i d (omega arith))

-- and no greater than what none of them is above
no_greater : (bound : ℕ) (xs : List ℕ) → All (λ x. x ≤ bound) xs → greatest_of xs ≤ bound
no_greater bound [] h = omega arith
no_greater bound (x ∷ xs) h =
    let first : x ≤ bound = All-head (λ y. y ≤ bound) x xs h in
    let rest : greatest_of xs ≤ bound = no_greater bound xs (All-tail (λ y. y ≤ bound) x xs h) in
    omega arith

-- a member that no other is above is the greatest
greatest_is : (marks : List Bool) (m : ℕ) → IsMember marks m → ((k : ℕ) → m < k → k < length marks → has_member marks k ≡ false) → greatest_of (members marks) ≡ m
greatest_is marks m here none =
    let held = Contains-members marks m here in
    let low : m ≤ greatest_of (members marks) = omega (arith, as_great (members marks) held.0 m held.1, held.2) in
    let high : greatest_of (members marks) ≤ m
    = no_greater m (members marks)
    (All-weaker (λ k. IsMember marks k) (λ k. k ≤ m) (λ k is. elim (cases_lt m k) [
      | inl past ↦ absurd (true≢false (sym is ∙ none k past (IsMember-lt-length marks k is)))
      | inr before ↦ before
    ]) (members marks) (All-members marks)) in
    omega arith

-- ---- a list in a row

-- the marks of numbers in a row are those of the set from the first on
marks_of_row : (bits : List Bool) (first count : ℕ) → first + count ≤ length bits → marks_at bits (range_with_len first count) ≡ take count (drop first bits)
marks_of_row bits first zero fits = refl
marks_of_row bits first (suc count) fits =
    ap (λ marks. has_member bits first ∷ marks) (marks_of_row bits (first + 1) count (omega arith))
    ∙ ap (λ rest. take (suc count) rest) (sym (drop_more bits first false (omega arith)))

module _ (bits : List Bool) (locals : List ℕ) (first end : ℕ) (row : locals ≡ range_with_len first (length locals)) (last : end ≡ first + length locals) (fits : end ≤ length bits) where
  -- the members between its first and its last are as many as its updated positions
  pub row_counts : count_of (take (end - first) (drop first bits)) ≡ length (members (marks_at bits locals))
  row_counts =
      let many : end - first ≡ length locals = omega arith in
      ap (λ n. count_of (take n (drop first bits))) many
      ∙ sym (ap count_of (ap (marks_at bits) row ∙ marks_of_row bits first (length locals) (omega arith)))

  -- so they are no more than its positions
  pub row_few : count_of (take (end - first) (drop first bits)) ≤ length locals
  row_few = omega (arith, count_of-le-length (take (end - first) (drop first bits)), length-take (end - first) (drop first bits))

  -- the mark of a position
  mark_in_row : (k : ℕ) → k < length locals → has_member (marks_at bits locals) k ≡ has_member bits (first + k)
  mark_in_row k inside =
      mark_here bits locals k inside
      ∙ ap (has_member bits) (ap (λ l. get_or l k 0) row ∙ get_or-range_with_len first (length locals) k 0 inside)

  -- no position is updated where the set has no member
  none_in_row : ((k : ℕ) → first ≤ k → k < end → has_member bits k ≡ false) → greatest_of (members (marks_at bits locals)) ≡ 0
  none_in_row none =
      ap greatest_of (members_since-none (marks_at bits locals) 0 (λ k _. elim (cases_lt k (length locals)) [
        | inl inside ↦ mark_in_row k inside ∙ none (first + k) (omega arith) (omega arith)
        | inr past ↦ mark_past bits locals k past
      ]))

  -- the set has no member before the end
  pub greatest_of_none : HasNoMemberBefore bits end → greatest_of (members (marks_at bits locals)) ≡ 0
  greatest_of_none none = none_in_row (λ k _ before. none k before)

  -- its last member before the end is the greatest position, if it is in the row
  pub greatest_of_last : (m : ℕ) → IsGreatestMemberBefore bits end m → greatest_of (members (marks_at bits locals)) ≡ m - first
  greatest_of_last m found =
      elim (cases_lt m first) [
        | inl low ↦
            let zero_above : 0 ≡ m - first = omega arith in
            none_in_row (λ k since before. found.greatest k (omega arith) before) ∙ zero_above
        | inr since ↦
            let before : m < end = found.before in
            let there : first + (m - first) ≡ m = omega arith in
            let inside : m - first < length locals = omega arith in
            greatest_is (marks_at bits locals) (m - first) (mark_in_row (m - first) inside ∙ ap (has_member bits) there ∙ found.member)
            (λ k above within.
            let low : k < length locals = omega (arith, length-map locals (has_member bits)) in
            mark_in_row k low ∙ found.greatest (first + k) (omega arith) (omega arith))
      ]
