-- The bits of words of 64 bits, one by one: which are set, what a write of one does, how many there are.
use Rattle.std.proofs.Common.{◌≡◌, ℕ, zero, suc, ◌+◌, ◌-◌, ◌*◌, ◌/◌, ◌%◌, ◌^◌, ◌<◌, ◌≤◌, Bool, true, false, cond, List, [], ◌∷◌, ◌++◌, length, map, get_or, refl, sym, ap, ◌∙◌, arith, inl, inr}
use Rattle.std.specs.Prelude.{nat_eq, count_by, sum_by, count_ones, All}
use Rattle.std.specs.Int.{bit_at}
use Rattle.std.proofs.lemmas.Bool.{cases_lt}
use Rattle.std.proofs.lemmas.List.{get_or_append_left, get_or-append-add}
use Rattle.std.proofs.lemmas.List.Elements.{All-head, All-tail}
use Rattle.std.proofs.lemmas.List.Sums.{sum_by-cons, sum_by-append}
use Rattle.std.proofs.lemmas.Nat.Bits.{bit_at-zero, bit_at-suc, bit_at_lowest}
use Rattle.std.proofs.lemmas.Simd.{ones-mask_l}
use Rattle.std.specs.Simd.Lanes.{mask_l}
use Rattle.list_laws.specs.Bits.{number_of_bits, bits_of, unpacked, bit_in}
use Rattle.list_laws.proofs.Bits.{length-bits_of, number_of_bits-bits_of}

-- a bit of a number
pub get_or-bits_of : (count x i : ℕ) → i < count → get_or (bits_of count x) i false ≡ nat_eq (bit_at x i) 1
unfolding bits_of
get_or-bits_of zero x i h = absurd (omega arith)
get_or-bits_of (suc count) x zero h = ap (λ n. nat_eq n 1) (sym (bit_at_lowest x))
get_or-bits_of (suc count) x (suc i) h = get_or-bits_of count (x / 2) i (omega arith) ∙ ap (λ n. nat_eq n 1) (sym (bit_at-suc x i))

-- a bit of the words
pub get_or-unpacked : (words : List ℕ) (i : ℕ) → get_or (unpacked 64 words) i false ≡ bit_in words i
get_or-unpacked [] i = sym (ap (λ n. nat_eq n 1) (bit_at-zero (i % 64)))
get_or-unpacked (w ∷ words) i =
    elim (cases_lt i 64) [
      | inl low ↦
          let place : i / 64 ≡ 0 = omega arith in
          let bit : i % 64 ≡ i = omega arith in
          get_or_append_left (bits_of 64 w) (unpacked 64 words) false i (omega (arith, length-bits_of 64 w))
          ∙ get_or-bits_of 64 w i low
          ∙ sym (ap (λ n. nat_eq (bit_at (get_or (w ∷ words) n 0) (i % 64)) 1) place ∙ ap (λ n. nat_eq (bit_at w n) 1) bit)
      | inr high ↦
          let place : i / 64 ≡ suc ((i - 64) / 64) = omega arith in
          let bit : i % 64 ≡ (i - 64) % 64 = omega arith in
          ap (λ n. get_or (bits_of 64 w ++ unpacked 64 words) n false) (sym (split i high))
          ∙ get_or-append-add (bits_of 64 w) (unpacked 64 words) (i - 64) false
          ∙ get_or-unpacked words (i - 64)
          ∙ sym (ap (λ n. nat_eq (bit_at (get_or (w ∷ words) n 0) (i % 64)) 1) place ∙ ap (λ n. nat_eq (bit_at (get_or words ((i - 64) / 64) 0) n) 1) bit)
    ]
  where
    split : (i : ℕ) → 64 ≤ i → length (bits_of 64 w) + (i - 64) ≡ i
    split i high = omega (arith, length-bits_of 64 w)

-- how many bits of a number are set
ones-bits_of : (count x : ℕ) → x < 2 ^ count → count_ones x ≡ count_by (λ b. b) (bits_of count x)
unfolding number_of_bits
ones-bits_of count x h =
    ap count_ones (sym (number_of_bits-bits_of count x h) ∙ as_mask (bits_of count x)) ∙ ones-mask_l (λ b. b) (bits_of count x)
  where
    as_mask : (bits : List Bool) → number_of_bits bits ≡ mask_l (map (λ b. b) bits)
    as_mask [] = refl
    as_mask (true ∷ bits) = ap (λ n. 1 + 2 * n) (as_mask bits)
    as_mask (false ∷ bits) = ap (λ n. 2 * n) (as_mask bits) ∙ omega arith

-- how many bits of words are set
pub ones-unpacked : (words : List ℕ) → All (λ w. w < 2 ^ 64) words → sum_by count_ones words ≡ count_by (λ b. b) (unpacked 64 words)
ones-unpacked [] h = refl
ones-unpacked (w ∷ words) h =
    let here : count_ones w ≡ count_by (λ b. b) (bits_of 64 w) = ones-bits_of 64 w (All-head (λ w. w < 2 ^ 64) w words h) in
    let rest : sum_by count_ones words ≡ count_by (λ b. b) (unpacked 64 words) = ones-unpacked words (All-tail (λ w. w < 2 ^ 64) w words h) in
    sum_by-cons count_ones w words ∙ ap (λ n. n + sum_by count_ones words) here ∙ ap (λ n. count_by (λ b. b) (bits_of 64 w) + n) rest
    ∙ sym (sum_by-append (λ b. cond b 1 0) (bits_of 64 w) (unpacked 64 words))
