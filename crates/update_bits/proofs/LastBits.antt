-- The last bit that is set below a place, and the last member of the set.
use Rattle.std.proofs.Common.{◌≡◌, ℕ, suc, ◌+◌, ◌-◌, ◌*◌, ◌/◌, ◌%◌, ◌^◌, ◌<◌, ◌≤◌, false, List, get_or, sym, ap, subst, ◌∙◌, pow-add, arith, inl, inr}
use Rattle.std.specs.Prelude.{nat_eq, bit_and, min, Option, Some, None}
use Rattle.std.specs.Int.{bit_at}
use Rattle.std.specs.Int.Count.{count_leading_zeros}
use Rattle.std.proofs.lemmas.Bool.{cases_lt, eq-eqb}
use Rattle.std.proofs.lemmas.Nat.{leading_top}
use Rattle.std.proofs.Math.Nat.{div-eq_of_lt-le}
use Rattle.std.proofs.lemmas.Nat.Bits.{bit_at-zero, bit_at-lt, bit_at_above, bit_at_and, bit_at_ones, bit_at_ones_above}
use Rattle.list_laws.specs.Bits.{bit_in}
use Rattle.update_bits.specs.Words.{set_in}
use Rattle.update_bits.specs.LastBits.{IsHighestBit, IsGreatestBit, IsLastBit}
use Rattle.update_bits.specs.Members.{IsLastMember}
use Rattle.update_bits.proofs.Held.{has_member-set_in}

-- ---- within a word

-- the highest bit is known by the zeros above it
pub highest : (number : ℕ) → 0 < number → number < 2 ^ 64 → IsHighestBit number (63 - count_leading_zeros 64 number)
highest number some fits =
    let top : (j : ℕ) × (count_leading_zeros 64 number + suc j ≡ 64) × (2 ^ j ≤ number) × (number < 2 ^ suc j) = leading_top 64 number some fits in
    let at : 63 - count_leading_zeros 64 number ≡ top.0 = omega (arith, top.1) in
    subst (IsHighestBit number) (sym at) (record {
      below = omega (arith, top.1);
      set = one number (top.0) top.2 top.3;
      above = λ k over. bit_at_above number (suc (top.0)) k top.3 (omega arith);
    })
  where
    once : (number power : ℕ) → power ≤ number → number < power * 2 → number / power ≡ 1
    once number power low high = div-eq_of_lt-le {k = 1} power (omega arith) (omega arith)

    one : (number j : ℕ) → 2 ^ j ≤ number → number < 2 ^ suc j → bit_at number j ≡ 1
    one number j low high =
        let double : 2 ^ suc j ≡ 2 ^ j * 2 = let sum : suc j ≡ j + 1 = omega arith in ap (λ n. 2 ^ n) sum ∙ pow-add 2 j 1 in
        ap (λ n. n % 2) (once number (2 ^ j) low (omega (arith, double)))

-- a word and what is left of it below a place
module _ (word low mask : ℕ) (is : mask ≡ 2 ^ low - 1) where
  inside_bit : (i : ℕ) → i < low → bit_at (bit_and word mask) i ≡ bit_at word i
  inside_bit i below =
      let held : bit_at mask i ≡ 1 = ap (λ n. bit_at n i) is ∙ bit_at_ones low i below in
      bit_at_and word mask i ∙ keeps (bit_at word i) (bit_at mask i) (bit_at-lt word i) held
    where
      keeps : (bit other : ℕ) → bit < 2 → other ≡ 1 → min bit other ≡ bit
      keeps bit other small held = omega arith

  outside_bit : (i : ℕ) → low ≤ i → bit_at (bit_and word mask) i ≡ 0
  outside_bit i above =
      let out : bit_at mask i ≡ 0 = ap (λ n. bit_at n i) is ∙ bit_at_ones_above low i above in
      bit_at_and word mask i ∙ loses (bit_at word i) (bit_at mask i) out
    where
      loses : (bit other : ℕ) → other ≡ 0 → min bit other ≡ 0
      loses bit other out = omega arith

-- where nothing is left of the word, no bit of it is set below the place
pub none_below : (words : List ℕ) (i mask k : ℕ) → mask ≡ 2 ^ (i % 64) - 1 → bit_and (get_or words (i / 64) 0) mask ≡ 0 → k < i → k / 64 ≡ i / 64 → bit_in words k ≡ false
none_below words i mask k is none before same =
    let word : ℕ = get_or words (i / 64) 0 in
    let zero_bit : bit_at word (k % 64) ≡ 0 = sym (inside_bit word (i % 64) mask is (k % 64) (omega arith)) ∙ ap (λ n. bit_at n (k % 64)) none ∙ bit_at-zero (k % 64) in
    ap (λ p. nat_eq (bit_at (get_or words p 0) (k % 64)) 1) same ∙ ap (λ b. nat_eq b 1) zero_bit

-- the highest bit of what is left of the word is the last below the place
pub greatest_in_word : (words : List ℕ) (i mask bit : ℕ) → mask ≡ 2 ^ (i % 64) - 1 → IsHighestBit (bit_and (get_or words (i / 64) 0) mask) bit → IsGreatestBit words i (i / 64 * 64 + bit)
greatest_in_word words i mask bit is h =
    let word : ℕ = get_or words (i / 64) 0 in
    let low : bit < i % 64 = elim (cases_lt bit (i % 64)) [ inl low ↦ low | inr high ↦ absurd (omega (arith, h.set, outside_bit word (i % 64) mask is bit high)) ] in
    let here : (i / 64 * 64 + bit) / 64 ≡ i / 64 = omega arith in
    let bit_is : (i / 64 * 64 + bit) % 64 ≡ bit = omega arith in
    record {
      set = ap (λ p. nat_eq (bit_at (get_or words p 0) ((i / 64 * 64 + bit) % 64)) 1) here ∙ ap (λ n. nat_eq (bit_at word n) 1) bit_is
          ∙ eq-eqb (bit_at word bit) 1 (sym (inside_bit word (i % 64) mask is bit low) ∙ h.set);
      before = omega arith;
      last = λ k over before.
          let same : k / 64 ≡ i / 64 = omega arith in
          ap (λ p. nat_eq (bit_at (get_or words p 0) (k % 64)) 1) same
          ∙ ap (λ b. nat_eq b 1) (sym (inside_bit word (i % 64) mask is (k % 64) (omega arith)) ∙ h.above (k % 64) (omega arith));
    }

-- ---- of a set

-- the last bit is the last member
pub last_member : (count : ℕ) (words : List ℕ) (i : ℕ) (last : Option ℕ) → i ≤ count → IsLastBit words i last → IsLastMember (set_in count words) i last
last_member count words i None within h = λ k before. has_member-set_in count words k (omega arith) ∙ h k before
last_member count words i (Some m) within h =
    let before : m < i = h.before in
    record {
      member = has_member-set_in count words m (omega arith) ∙ h.set;
      before = before;
      greatest = λ k over before. has_member-set_in count words k (omega arith) ∙ h.last k over before;
    }
