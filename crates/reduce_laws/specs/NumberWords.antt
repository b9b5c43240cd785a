-- The laws of a word hold of u8, u32 and u64.
use Rattle.std.specs.Prelude.{◌≡◌, ◌↔◌, ◌<◌, ◌%◌, ◌^◌, ℕ, true, List, ◌∷◌, [], slice_index, nat_eq, length, refl}
use Rattle.std.specs.Int.{w32, w64, to_le_bytes, from_le_bytes, byte_at, bytes_low_first}
use Rattle.std.proofs.Common.{inl, inr, arith, rules, get_or, suc, zero, ap}
use Rattle.std.proofs.lemmas.Grind.{common_steps}
use Rattle.std.proofs.lemmas.List.Elements.{All-nil, All-cons}
use Rattle.std.proofs.lemmas.Nat.{mod_below, le_bytes_4, le_bytes_8, from_le_bytes-to_le_bytes_4, from_le_bytes-to_le_bytes_8}
use Rattle.list_laws.specs.LittleEndian.{AreBytes, le_bytes}
use Rattle.list_laws.proofs.WholeNumbers.{to_le_bytes-le}
use Rattle.reduce_laws.specs.WordLaws.{WordLaws, NumberLaws}

-- `==` of numbers is true exactly where they are the same
pub nat_eq_is_same : (x y : ℕ) → (nat_eq x y ≡ true) ↔ (x ≡ y)
nat_eq_is_same x y = search rules

-- a byte at each place, and zeros after them
byte_at_each : (bytes : List ℕ) → AreBytes bytes → (i : ℕ) → get_or bytes i 0 < 256
byte_at_each bytes h i = grind (arith, common_steps)

-- each byte of a number is below 256
byte_at-lt : (i n : ℕ) → byte_at i n < 256
byte_at-lt zero n = omega arith
byte_at-lt (suc i) n = mod_below _ 256 (omega arith)

-- so a number's bytes are bytes
AreBytes-bytes_low_first : (i k n : ℕ) → AreBytes (bytes_low_first i k n)
AreBytes-bytes_low_first i zero n = All-nil (λ b. b < 256)
AreBytes-bytes_low_first i (suc k) n =
    All-cons (λ b. b < 256) _ _ (byte_at-lt i n) (AreBytes-bytes_low_first (suc i) k n)

-- a list of one number is that number
one_number : (bytes : List ℕ) → length bytes ≡ 1 → get_or bytes 0 0 ∷ [] ≡ bytes
one_number [] h = absurd (omega arith)
one_number (x ∷ []) h = refl
one_number (x ∷ (y ∷ bytes)) h = absurd (omega arith)

-- u8: one byte, which is the number
pub u8_laws : WordLaws 1 (λ x. x < 256 ^ 1) (λ x. x ∷ []) (λ bytes. slice_index bytes 0) nat_eq
u8_laws = record {
  width_is = inl refl;
  length_of_bytes = λ x h. refl;
  bytes_are_bytes = λ x h. All-cons (λ b. b < 256) x [] h (All-nil (λ b. b < 256));
  value_of-bytes_of = λ x h. refl;
  bytes_of-value_of = λ bytes n h. one_number bytes n;
  reads_values = λ bytes n h. byte_at_each bytes h 0;
  eq_is_same = λ x y _ _. nat_eq_is_same x y;
}

-- u32: four bytes, the lowest first
pub u32_laws : WordLaws 4 (λ x. x < 256 ^ 4) (to_le_bytes w32) (from_le_bytes w32) nat_eq
u32_laws = record {
  width_is = inr (inl refl);
  length_of_bytes = λ x h. refl;
  bytes_are_bytes = λ x h. AreBytes-bytes_low_first 0 4 x;
  value_of-bytes_of = λ x h. from_le_bytes-to_le_bytes_4 x h;
  bytes_of-value_of = λ bytes n h. le_bytes_4 bytes _ n (byte_at_each bytes h) refl;
  reads_values = λ bytes n h. let b = byte_at_each bytes h in omega (arith, b 0, b 1, b 2, b 3);
  eq_is_same = λ x y _ _. nat_eq_is_same x y;
}

-- u64: eight bytes, the lowest first
pub u64_laws : WordLaws 8 (λ x. x < 256 ^ 8) (to_le_bytes w64) (from_le_bytes w64) nat_eq
u64_laws = record {
  width_is = inr (inr refl);
  length_of_bytes = λ x h. refl;
  bytes_are_bytes = λ x h. AreBytes-bytes_low_first 0 8 x;
  value_of-bytes_of = λ x h. from_le_bytes-to_le_bytes_8 x h;
  bytes_of-value_of = λ bytes n h. le_bytes_8 bytes _ n (byte_at_each bytes h) refl;
  reads_values = λ bytes n h.
      let b = byte_at_each bytes h in omega (arith, b 0, b 1, b 2, b 3, b 4, b 5, b 6, b 7);
  eq_is_same = λ x y _ _. nat_eq_is_same x y;
}

-- a number of a width stands for itself, where its bytes are right
numbers_of : (width : ℕ) (bytes_of : ℕ → List ℕ) → ((x : ℕ) → x < 256 ^ width → bytes_of x ≡ le_bytes width x) → NumberLaws width (λ x. x < 256 ^ width) (λ x. x) bytes_of
numbers_of width bytes_of right = record {
  value_is = λ x. (λ h. h, λ h. h);
  one_value = λ x y _ _ same. same;
  some_value = λ number _. (number, refl);
  lowest_first = right;
}

-- one byte
pub u8_numbers : NumberLaws 1 (λ x. x < 256 ^ 1) (λ x. x) (λ x. x ∷ [])
unfolding le_bytes
u8_numbers = numbers_of 1 (λ x. x ∷ []) (λ x h. let small : x ≡ x % 256 = omega arith in ap (λ b. b ∷ []) small)

-- four bytes
pub u32_numbers : NumberLaws 4 (λ x. x < 256 ^ 4) (λ x. x) (to_le_bytes w32)
u32_numbers = numbers_of 4 (to_le_bytes w32) (λ x _. to_le_bytes-le w32 x)

-- eight bytes
pub u64_numbers : NumberLaws 8 (λ x. x < 256 ^ 8) (λ x. x) (to_le_bytes w64)
u64_numbers = numbers_of 8 (to_le_bytes w64) (λ x _. to_le_bytes-le w64 x)
