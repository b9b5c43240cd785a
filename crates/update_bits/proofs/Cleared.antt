-- Words of which the bits between two places were cleared.
use Rattle.std.proofs.Common.{◌≡◌, ℕ, ◌+◌, ◌-◌, ◌/◌, ◌%◌, ◌^◌, ◌<◌, ◌≤◌, true, false, List, length, get_or, sym, ap, ◌∙◌, arith, inl, inr}
use Rattle.std.specs.Prelude.{nat_eq, nat_lt, nat_le, slice_set, bit_and, bit_or, min, max, ◌&&◌, not}
use Rattle.std.specs.Int.{bit_at, bit_not, w64}
use Rattle.std.proofs.Math.Bool.{and-false, and-true}
use Rattle.std.proofs.lemmas.Bool.{cases_eq, cases_lt, lt-ltb, le-ltb, lt-leb, le-leb}
use Rattle.std.proofs.lemmas.List.{get_or_past}
use Rattle.std.proofs.lemmas.Nat.Bits.{bit_at_and, bit_at_or, bit_at_not, bit_at_ones, bit_at_ones_above, bit_at-lt}
use Rattle.list_laws.specs.Bits.{bit_in}
use Rattle.list_laws.specs.Members.{has_member}
use Rattle.update_bits.specs.Words.{set_in, AreWords, AreMarks, AreClearedBetween}
use Rattle.update_bits.proofs.Held.{bit_in-set, bit_in-set_other, length-set_in, has_member-set_in}
use Rattle.update_bits.proofs.Marked.{AreMarks-fewer}

-- ---- within a word

-- a word that keeps the bits below `low` and those from `high` on
module _ (word low high before through : ℕ) (lower : before ≡ 2 ^ low - 1) (upper : through ≡ 2 ^ high - 1) (fits : through < 2 ^ 64) where
  abbrev kept : ℕ
  kept = bit_and word (bit_or before (bit_not w64 through))

  kept_bit : (i : ℕ) → i < 64 → bit_at kept i ≡ min (bit_at word i) (max (bit_at before i) (1 - bit_at through i))
  kept_bit i inside =
      bit_at_and word (bit_or before (bit_not w64 through)) i
      ∙ ap (min (bit_at word i)) (bit_at_or before (bit_not w64 through) i ∙ ap (max (bit_at before i)) (bit_at_not w64 through i fits inside))

  between_bit : (i : ℕ) → i < 64 → low ≤ i → i < high → bit_at kept i ≡ 0
  between_bit i inside since until =
      let out : bit_at before i ≡ 0 = ap (λ n. bit_at n i) lower ∙ bit_at_ones_above low i since in
      let held : bit_at through i ≡ 1 = ap (λ n. bit_at n i) upper ∙ bit_at_ones high i until in
      kept_bit i inside ∙ neither (bit_at word i) (bit_at before i) (bit_at through i) out held
    where
      neither : (bit low high : ℕ) → low ≡ 0 → high ≡ 1 → min bit (max low (1 - high)) ≡ 0
      neither bit low high out held = omega arith

  below_bit : (i : ℕ) → i < 64 → i < low → bit_at kept i ≡ bit_at word i
  below_bit i inside below =
      let held : bit_at before i ≡ 1 = ap (λ n. bit_at n i) lower ∙ bit_at_ones low i below in
      kept_bit i inside ∙ lower_one (bit_at word i) (bit_at before i) (bit_at through i) (bit_at-lt word i) held
    where
      lower_one : (bit low high : ℕ) → bit < 2 → low ≡ 1 → min bit (max low (1 - high)) ≡ bit
      lower_one bit low high small held = omega arith

  above_bit : (i : ℕ) → i < 64 → high ≤ i → bit_at kept i ≡ bit_at word i
  above_bit i inside above =
      let out : bit_at through i ≡ 0 = ap (λ n. bit_at n i) upper ∙ bit_at_ones_above high i above in
      kept_bit i inside ∙ upper_one (bit_at word i) (bit_at before i) (bit_at through i) (bit_at-lt word i) out (bit_at-lt before i)
    where
      upper_one : (bit low high : ℕ) → bit < 2 → high ≡ 0 → low < 2 → min bit (max low (1 - high)) ≡ bit
      upper_one bit low high small out other = omega arith

-- where the bits from `start` up to `end` are in one word, and it keeps the others
pub cleared_in_word : (words : List ℕ) (start end before through : ℕ) → start < end → start / 64 ≡ (end - 1) / 64 → start / 64 < length words
    → before ≡ 2 ^ (start % 64) - 1 → through ≡ 2 ^ ((end - 1) % 64 + 1) - 1 → through < 2 ^ 64
    → AreClearedBetween words (slice_set words (start / 64) (bit_and (get_or words (start / 64) 0) (bit_or before (bit_not w64 through)))) start end
cleared_in_word words start end before through some one within lower upper fits = record {
  cleared = λ k since until.
      let same : k / 64 ≡ start / 64 = omega arith in
      bit_in-set words (start / 64) new k within same
      ∙ ap (λ b. nat_eq b 1) (between_bit word (start % 64) ((end - 1) % 64 + 1) before through lower upper fits (k % 64) (omega arith) (omega arith) (omega arith));
  before = λ k low. elim (cases_eq (k / 64) (start / 64)) [
    | inl same ↦ bit_in-set words (start / 64) new k within same
        ∙ ap (λ b. nat_eq b 1) (below_bit word (start % 64) ((end - 1) % 64 + 1) before through lower upper fits (k % 64) (omega arith) (omega arith))
        ∙ back k same
    | inr other ↦ bit_in-set_other words (start / 64) new k other
  ];
  behind = λ k high. elim (cases_eq (k / 64) (start / 64)) [
    | inl same ↦ bit_in-set words (start / 64) new k within same
        ∙ ap (λ b. nat_eq b 1) (above_bit word (start % 64) ((end - 1) % 64 + 1) before through lower upper fits (k % 64) (omega arith) (omega arith))
        ∙ back k same
    | inr other ↦ bit_in-set_other words (start / 64) new k other
  ];
}
  where
    word : ℕ
    word = get_or words (start / 64) 0

    new : ℕ
    new = bit_and word (bit_or before (bit_not w64 through))

    back : (k : ℕ) → k / 64 ≡ start / 64 → nat_eq (bit_at word (k % 64)) 1 ≡ bit_in words k
    back k same = ap (λ p. nat_eq (bit_at (get_or words p 0) (k % 64)) 1) (sym same)

-- ---- of a set

-- no bit that was not set is set now
pub cleared_stays : (words new : List ℕ) (start end k : ℕ) → AreClearedBetween words new start end → bit_in words k ≡ false → bit_in new k ≡ false
cleared_stays words new start end k h none =
    elim (cases_lt k start) [
      | inl low ↦ h.before k low ∙ none
      | inr since ↦ elim (cases_lt k end) [ inl until ↦ h.cleared k since until | inr high ↦ h.behind k high ∙ none ]
    ]

pub AreWords-cleared : (count : ℕ) (words new : List ℕ) (start end : ℕ) → AreWords count words → length new ≡ length words → AreClearedBetween words new start end → AreWords count new
AreWords-cleared count words new start end h len cleared = record {
  short = h.short;
  enough = len ∙ h.enough;
  spare = λ k past. cleared_stays words new start end k cleared (h.spare k past);
}

pub AreMarks-between : (words new marks : List ℕ) (start end : ℕ) → AreMarks words marks → length new ≡ length words → AreClearedBetween words new start end → AreMarks new marks
AreMarks-between words new marks start end h len cleared = AreMarks-fewer words new marks h len (λ k none. cleared_stays words new start end k cleared none)

-- the numbers between are out of the set, and the others stay
pub has_member-between : (count : ℕ) (words new : List ℕ) (start end k : ℕ) → length words ≡ (count + 63) / 64 → length new ≡ length words → AreClearedBetween words new start end
    → has_member (set_in count new) k ≡ (has_member (set_in count words) k && not (nat_le start k && nat_lt k end))
has_member-between count words new start end k enough len h =
    elim (cases_lt k count) [
      | inl inside ↦
          has_member-set_in count new k inside
          ∙ one_bit
          ∙ ap (λ b. b && not (nat_le start k && nat_lt k end)) (sym (has_member-set_in count words k inside))
      | inr past ↦
          get_or_past (set_in count new) k false (omega (arith, length-set_in count new (len ∙ enough)))
          ∙ ap (λ b. b && not (nat_le start k && nat_lt k end)) (sym (get_or_past (set_in count words) k false (omega (arith, length-set_in count words enough))))
    ]
  where
    one_bit : bit_in new k ≡ (bit_in words k && not (nat_le start k && nat_lt k end))
    one_bit =
        elim (cases_lt k start) [
          | inl low ↦
              h.before k low ∙ sym (and-true (bit_in words k))
              ∙ ap (λ b. bit_in words k && not (b && nat_lt k end)) (sym (lt-leb start k low))
          | inr since ↦ elim (cases_lt k end) [
            | inl until ↦
                h.cleared k since until ∙ sym (and-false (bit_in words k))
                ∙ ap (λ b. bit_in words k && not (b && true)) (sym (le-leb start k since))
                ∙ ap (λ b. bit_in words k && not (nat_le start k && b)) (sym (lt-ltb k end until))
            | inr high ↦
                h.behind k high ∙ sym (and-true (bit_in words k))
                ∙ ap (λ b. bit_in words k && not (b && false)) (sym (le-leb start k since))
                ∙ ap (λ b. bit_in words k && not (nat_le start k && b)) (sym (le-ltb k end high))
          ]
        ]
