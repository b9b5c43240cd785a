-- Numbers in a row: which they are, and what is left of a set without them.
use Rattle.std.proofs.Common.{◌≡◌, ◌<◌, ◌≤◌, ◌+◌, ℕ, zero, suc, Bool, true, false, List, [], ◌∷◌, length, refl, sym, ap, ◌∙◌, arith, inl, inr}
use Rattle.std.specs.Prelude.{nat_le, nat_lt, ◌&&◌, ◌||◌, not}
use Rattle.std.specs.List.{range_with_len}
use Rattle.std.proofs.Math.Bool.{and-false, and-true}
use Rattle.std.proofs.lemmas.Bool.{cases_eq, cases_lt, lt-ltb, le-ltb, lt-leb, le-leb, ne_eqb}
use Rattle.std.proofs.lemmas.List.{length-set}
use Rattle.list_laws.specs.Among.{is_among}
use Rattle.list_laws.proofs.Among.{among_range}
use Rattle.list_laws.specs.Members.{has_member, without_member, without_all}
use Rattle.list_laws.proofs.Members.{same_set, has_member-without_same, has_member-without_other}

-- ---- a set without numbers in a row

length-without_all : (bits : List Bool) (numbers : List ℕ) → length (without_all bits numbers) ≡ length bits
length-without_all bits [] = refl
length-without_all bits (x ∷ numbers) = length-without_all (without_member bits x) numbers ∙ length-set bits x false

-- a number outside the row stays
outside : (first count l : ℕ) (bits : List Bool) → (first ≤ l → first + count ≤ l) → has_member (without_all bits (range_with_len first count)) l ≡ has_member bits l
outside first zero l bits apart = refl
outside first (suc count) l bits apart =
    outside (first + 1) count l (without_member bits first) (λ since. let past : first + suc count ≤ l = apart (omega arith) in omega arith)
    ∙ has_member-without_other bits first l (λ e. let past : first + suc count ≤ l = apart (omega arith) in omega arith)

-- a number of the row is out
within : (first count l : ℕ) (bits : List Bool) → first ≤ l → l < first + count → first + count ≤ length bits → has_member (without_all bits (range_with_len first count)) l ≡ false
within first zero l bits since until fits = absurd (omega arith)
within first (suc count) l bits since until fits =
    elim (cases_eq l first) [
      | inl same ↦
          outside (first + 1) count l (without_member bits first) (λ later. absurd (omega arith))
          ∙ ap (has_member (without_member bits first)) same
          ∙ has_member-without_same bits first (omega arith)
      | inr other ↦ within (first + 1) count l (without_member bits first) (omega arith) (omega arith) (omega (arith, length-set bits first false))
    ]

-- what has all other numbers, and none of the row, is the set without the row
pub cleared_row : (bits new : List Bool) (numbers : List ℕ) (first count end : ℕ) → numbers ≡ range_with_len first count → end ≡ first + count → end ≤ length bits → length new ≡ length bits
    → ((l : ℕ) → has_member new l ≡ (has_member bits l && not (nat_le first l && nat_lt l end))) → new ≡ without_all bits numbers
cleared_row bits new numbers first count end row last fits len each =
    same_set new (without_all bits numbers) (len ∙ sym (length-without_all bits numbers)) (λ l inside. each l ∙ told l ∙ sym (ap (λ ns. has_member (without_all bits ns) l) row))
  where
    told : (l : ℕ) → (has_member bits l && not (nat_le first l && nat_lt l end)) ≡ has_member (without_all bits (range_with_len first count)) l
    told l =
        elim (cases_lt l first) [
          | inl low ↦
              ap (λ b. has_member bits l && not (b && nat_lt l end)) (lt-leb first l low)
              ∙ and-true (has_member bits l)
              ∙ sym (outside first count l bits (λ since. absurd (omega arith)))
          | inr since ↦ elim (cases_lt l end) [
            | inl until ↦
                ap (λ b. has_member bits l && not (nat_le first l && b)) (lt-ltb l end until)
                ∙ ap (λ b. has_member bits l && not (b && true)) (le-leb first l since)
                ∙ and-false (has_member bits l)
                ∙ sym (within first count l bits since (omega arith) (omega arith))
            | inr high ↦
                ap (λ b. has_member bits l && not (nat_le first l && b)) (le-ltb l end high)
                ∙ ap (λ b. has_member bits l && not (b && false)) (le-leb first l since)
                ∙ and-true (has_member bits l)
                ∙ sym (outside first count l bits (λ _. omega arith))
          ]
        ]

-- ---- the numbers of a row

-- a number outside the row is none of them
none_of_row : (first count l : ℕ) → (first ≤ l → first + count ≤ l) → is_among (range_with_len first count) l ≡ false
none_of_row first zero l apart = refl
none_of_row first (suc count) l apart =
    ap (λ b. b || is_among (range_with_len (first + 1) count) l) (ne_eqb first l (λ e. let past : first + suc count ≤ l = apart (omega arith) in omega arith))
    ∙ none_of_row (first + 1) count l (λ since. let past : first + suc count ≤ l = apart (omega arith) in omega arith)

-- so a row has the numbers from its first to its last
pub row_has : (first count last l : ℕ) → last + 1 ≡ first + count → is_among (range_with_len first count) l ≡ (nat_le first l && nat_le l last)
row_has first count last l end =
    elim (cases_lt l first) [
      | inl low ↦ none_of_row first count l (λ since. absurd (omega arith)) ∙ sym (ap (λ b. b && nat_le l last) (lt-leb first l low))
      | inr since ↦ elim (cases_lt last l) [
        | inl high ↦ none_of_row first count l (λ _. omega arith) ∙ sym (ap (λ b. nat_le first l && b) (lt-leb l last high) ∙ and-false (nat_le first l))
        | inr until ↦ among_range first count l since (omega arith) ∙ sym (ap (λ b. nat_le first l && b) (le-leb l last until) ∙ and-true (nat_le first l) ∙ le-leb first l since)
      ]
    ]
