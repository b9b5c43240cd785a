-- Words whose first bits are all set, and no others.
use Rattle.std.proofs.Common.{◌≡◌, ◌≢◌, ℕ, ◌+◌, ◌-◌, ◌/◌, ◌%◌, ◌^◌, ◌<◌, true, replicate, sym, ap, ◌∙◌, arith, inl, inr, length}
use Rattle.std.specs.Prelude.{nat_eq, nat_lt, slice_set}
use Rattle.std.specs.Int.{bit_at}
use Rattle.std.proofs.lemmas.Bool.{cases_eq, cases_lt, lt-ltb, le-ltb, eq-eqb}
use Rattle.std.proofs.lemmas.List.{length-replicate}
use Rattle.std.proofs.lemmas.Nat.Bits.{bit_at_ones, bit_at_ones_above}
use Rattle.list_laws.specs.Bits.{bit_in}
use Rattle.update_bits.proofs.Held.{bit_in-set, bit_in-set_other, bit_in-replicate, bit_in-past}

-- a word of 64 bits that are all set
abbrev pub all_ones : ℕ
all_ones = 18446744073709551615

-- within whole words each bit is set
set_in_whole : (count k : ℕ) → k / 64 < count → bit_in (replicate count all_ones) k ≡ true
set_in_whole count k within = bit_in-replicate count all_ones k within ∙ eq-eqb (bit_at all_ones (k % 64)) 1 (bit_at_ones 64 (k % 64) (omega arith))

-- where the count is one of whole words
pub filled_whole : (words count k : ℕ) → words ≡ (count + 63) / 64 → count % 64 ≡ 0 → bit_in (replicate words all_ones) k ≡ nat_lt k count
filled_whole words count k enough whole =
    elim (cases_lt k count) [
      | inl below ↦ set_in_whole words k (omega arith) ∙ sym (lt-ltb k count below)
      | inr past ↦ bit_in-past (replicate words all_ones) k (omega (arith, length-replicate words all_ones)) ∙ sym (le-ltb k count past)
    ]

-- where the last word has some bits
pub filled_part : (words count k : ℕ) → words ≡ (count + 63) / 64 → count % 64 ≢ 0 → bit_in (slice_set (replicate words all_ones) (count / 64) (2 ^ (count % 64) - 1)) k ≡ nat_lt k count
filled_part words count k enough part =
    let within : count / 64 < length (replicate words all_ones) = omega (arith, length-replicate words all_ones) in
    elim (cases_eq (k / 64) (count / 64)) [
      | inl same ↦
          bit_in-set (replicate words all_ones) (count / 64) (2 ^ (count % 64) - 1) k within same
          ∙ (elim (cases_lt k count) [
            | inl below ↦ eq-eqb (bit_at (2 ^ (count % 64) - 1) (k % 64)) 1 (bit_at_ones (count % 64) (k % 64) (omega arith)) ∙ sym (lt-ltb k count below)
            | inr past ↦ ap (λ b. nat_eq b 1) (bit_at_ones_above (count % 64) (k % 64) (omega arith)) ∙ sym (le-ltb k count past)
          ])
      | inr other ↦
          bit_in-set_other (replicate words all_ones) (count / 64) (2 ^ (count % 64) - 1) k other
          ∙ (elim (cases_lt k count) [
            | inl below ↦ set_in_whole words k (omega arith) ∙ sym (lt-ltb k count below)
            | inr past ↦ bit_in-past (replicate words all_ones) k (omega (arith, length-replicate words all_ones)) ∙ sym (le-ltb k count past)
          ])
    ]
