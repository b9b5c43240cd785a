-- One bit of a bit vector, and the set bits from a place on.
use Rattle.std.proofs.Common.{◌≡◌, ◌<◌, ◌≤◌, ℕ, zero, suc, ◌+◌, ◌-◌, ◌*◌, ◌/◌, ◌%◌, ◌^◌, Bool, true, false, List, [], ◌∷◌, ◌++◌, length, get_or, take, drop, refl, sym, ap, ◌∙◌, arith, inl, inr}
use Rattle.std.specs.Prelude.{nat_eq, count_ones, Option, Some, None, MatchOption, is_some}
use Rattle.std.specs.List.{list_any}
use Rattle.std.proofs.Math.Nat.{pow-suc, div-le_self}
use lib.Count.{ones}
use Rattle.std.proofs.lemmas.Bool.{eqb-true, eqb-false, eq-eqb, cases_lt}
use Rattle.std.proofs.lemmas.Nat.{ones_cat}
use Rattle.std.proofs.lemmas.List.Concat.{flat_map-append}
use Rattle.std.specs.Int.{bit_at, w8, trailing_zeros}
use Rattle.std.proofs.lemmas.Nat.Bits.{bit_at_lowest, bit_at-suc, bit_at-zero, bit_at_above, bit_at-trailing_zeros}
use Rattle.std.proofs.lemmas.List.{get_or_append_left, get_or-append-add, drop_more, drop_all, take_more, take_all, append-nil, length-take}
use Rattle.list_laws.specs.Bits.{bits_of, unpacked}
use Rattle.list_laws.specs.Members.{members_from}
use Rattle.field_encodings.specs.Places.{set_from}
use Rattle.list_laws.proofs.Bits.{length-bits_of, length-unpacked}
use Rattle.update_bits.proofs.FirstBits.{bit_at-shifted}

bit_of : (count k x : ℕ) → k < count → get_or (bits_of count x) k false ≡ nat_eq (bit_at x k) 1
unfolding bits_of
bit_of zero k x l = absurd (omega arith)
bit_of (suc count) zero x l = rw (bit_at_lowest x) refl
bit_of (suc count) (suc k) x l = rw (bit_at-suc x k) (bit_of count k (x / 2) (omega arith))

-- a bit by its number and its place in the number
bit_in : (size : ℕ) (numbers : List ℕ) (q r : ℕ) → r < size → q < length numbers → get_or (unpacked size numbers) (q * size + r) false ≡ nat_eq (bit_at (get_or numbers q 0) r) 1
bit_in size [] q r l h = absurd (omega arith)
bit_in size (x ∷ xs) zero r l h =
    let place : zero * size + r ≡ r = omega arith in
    let within : r < length (bits_of size x) = omega (arith, length-bits_of size x) in
    ap (λ i. get_or (unpacked size (x ∷ xs)) i false) place ∙ get_or_append_left (bits_of size x) (unpacked size xs) false r within ∙ bit_of size r x l
bit_in size (x ∷ xs) (suc q) r l h =
    let place : suc q * size + r ≡ length (bits_of size x) + (q * size + r) = omega (arith, length-bits_of size x) in
    ap (λ i. get_or (unpacked size (x ∷ xs)) i false) place ∙ get_or-append-add (bits_of size x) (unpacked size xs) (q * size + r) false ∙ bit_in size xs q r l (omega arith)

from_here : (bits : List ℕ) (i : ℕ) → i < length bits * 8 → drop i (unpacked 8 bits) ≡ get_or (unpacked 8 bits) i false ∷ drop (i + 1) (unpacked 8 bits)
from_here bits i l = drop_more (unpacked 8 bits) i false (omega (arith, length-unpacked 8 bits))

set_from-set : (bits : List ℕ) (i : ℕ) → i < length bits * 8 → get_or (unpacked 8 bits) i false ≡ true → set_from bits i ≡ i ∷ set_from bits (i + 1)
unfolding set_from
set_from-set bits i l e = ap (members_from i) (from_here bits i l ∙ ap (λ bit. bit ∷ drop (i + 1) (unpacked 8 bits)) e)

set_from-unset : (bits : List ℕ) (i : ℕ) → i < length bits * 8 → get_or (unpacked 8 bits) i false ≡ false → set_from bits i ≡ set_from bits (i + 1)
unfolding set_from
set_from-unset bits i l e = ap (members_from i) (from_here bits i l ∙ ap (λ bit. bit ∷ drop (i + 1) (unpacked 8 bits)) e)

-- past the last bit none is set
pub set_from-end : (bits : List ℕ) (i : ℕ) → length bits * 8 ≤ i → set_from bits i ≡ []
unfolding set_from
set_from-end bits i l = ap (members_from i) (drop_all i (unpacked 8 bits) (omega (arith, length-unpacked 8 bits)))

-- bits that are not set are passed
set_from-passed : (bits : List ℕ) (count i : ℕ) → i + count ≤ length bits * 8 → ((k : ℕ) → k < count → get_or (unpacked 8 bits) (i + k) false ≡ false) → set_from bits i ≡ set_from bits (i + count)
set_from-passed bits zero i l none = ap (set_from bits) (omega arith)
set_from-passed bits (suc count) i l none =
    let here : i + 0 ≡ i = omega arith in
    let rest : i + 1 + count ≡ i + suc count = omega arith in
    set_from-unset bits i (omega arith) (ap (λ n. get_or (unpacked 8 bits) n false) (sym here) ∙ none 0 (omega arith))
    ∙ set_from-passed bits count (i + 1) (omega arith)
    (λ k l. let next : i + 1 + k ≡ i + suc k = omega arith in ap (λ n. get_or (unpacked 8 bits) n false) next ∙ none (suc k) (omega arith))
    ∙ ap (set_from bits) rest

-- the first that is set from a bit on
abbrev pub IsFirstSet : List ℕ → (i m : ℕ) → Type 0
IsFirstSet bits i m = (m < length bits * 8) × (set_from bits i ≡ m ∷ set_from bits (m + 1))

-- ---- the bits of one byte, from one on

module _ (bits : List ℕ) (place low : ℕ) (within : place < length bits) (few : low < 8) where
  -- a bit from there on
  bit_behind : (k : ℕ) → low + k < 8 → get_or (unpacked 8 bits) (place * 8 + low + k) false ≡ nat_eq (bit_at (get_or bits place 0 / 2 ^ low) k) 1
  bit_behind k l =
      let at : place * 8 + low + k ≡ place * 8 + (low + k) = omega arith in
      ap (λ n. get_or (unpacked 8 bits) n false) at
      ∙ bit_in 8 bits place (low + k) l within
      ∙ ap (λ bit. nat_eq bit 1) (sym (bit_at-shifted (get_or bits place 0) low k))

  -- where the byte has none there, the bits of the next byte follow
  pub none_in_byte : get_or bits place 0 / 2 ^ low ≡ 0 → set_from bits (place * 8 + low) ≡ set_from bits ((place + 1) * 8)
  none_in_byte none =
      let end : place * 8 + low + (8 - low) ≡ (place + 1) * 8 = omega arith in
      set_from-passed bits (8 - low) (place * 8 + low) (omega arith)
      (λ k l. bit_behind k (omega arith) ∙ ap (λ rest. nat_eq (bit_at rest k) 1) none ∙ ap (λ bit. nat_eq bit 1) (bit_at-zero k))
      ∙ ap (set_from bits) end

  -- else the lowest that is set there is the first
  pub first_in_byte : get_or bits place 0 < 256 → 0 < get_or bits place 0 / 2 ^ low → IsFirstSet bits (place * 8 + low) (place * 8 + low + trailing_zeros w8 (get_or bits place 0 / 2 ^ low))
  first_in_byte fits some =
      let byte : ℕ = get_or bits place 0 in
      let rest : ℕ = byte / 2 ^ low in
      let zeros : ℕ = trailing_zeros w8 rest in
      let small : rest < 2 ^ 8 = omega (arith, div-le_self byte (2 ^ low)) in
      let found : (zeros < 8) × (bit_at rest zeros ≡ 1) × ((j : ℕ) → j < zeros → bit_at rest j ≡ 0) = bit_at-trailing_zeros w8 rest some small in
      let inside : low + zeros < 8 = in_byte byte (low + zeros) fits (sym (bit_at-shifted byte low zeros) ∙ found.1) in
      let bound : place * 8 + low + zeros < length bits * 8 = omega arith in (
        bound,
        set_from-passed bits zeros (place * 8 + low) (omega arith) (λ k l. bit_behind k (omega arith) ∙ ap (λ bit. nat_eq bit 1) (found.2 k l))
            ∙ set_from-set bits (place * 8 + low + zeros) bound (bit_behind zeros inside ∙ eq-eqb (bit_at rest zeros) 1 found.1),
      )
    where
      in_byte : (byte n : ℕ) → byte < 2 ^ 8 → bit_at byte n ≡ 1 → n < 8
      in_byte byte n fits one = elim (cases_lt n 8) [ inl low ↦ low | inr high ↦ absurd (omega (arith, bit_at_above byte 8 n fits high)) ]

-- ---- whether a bit is set from a place on

none_any : (first : ℕ) (marks : List Bool) → members_from first marks ≡ [] → list_any (λ bit. bit) marks ≡ false
none_any first [] e = refl
none_any first (true ∷ marks) e = cc
none_any first (false ∷ marks) e = none_any (first + 1) marks e

some_any : (first x : ℕ) (xs : List ℕ) (marks : List Bool) → members_from first marks ≡ x ∷ xs → list_any (λ bit. bit) marks ≡ true
some_any first x xs [] e = cc
some_any first x xs (true ∷ marks) e = refl
some_any first x xs (false ∷ marks) e = some_any (first + 1) x xs marks e

-- one is set exactly where there is a first one
pub any_from : (bits : List ℕ) (i : ℕ) (first : Option ℕ) → MatchOption first (set_from bits i ≡ []) (λ found. set_from bits i ≡ found ∷ set_from bits (found + 1)) → is_some first ≡ list_any (λ bit. bit) (drop i (unpacked 8 bits))
unfolding set_from
any_from bits i None e = sym (none_any i (drop i (unpacked 8 bits)) e)
any_from bits i (Some found) e = sym (some_any i found (members_from (found + 1) (drop (found + 1) (unpacked 8 bits))) (drop i (unpacked 8 bits)) e)

-- ---- how many bits are set

length-marked_any : (first other : ℕ) (marks : List Bool) → length (members_from first marks) ≡ length (members_from other marks)
length-marked_any first other [] = refl
length-marked_any first other (true ∷ marks) = ap suc (length-marked_any (first + 1) (other + 1) marks)
length-marked_any first other (false ∷ marks) = length-marked_any (first + 1) (other + 1) marks

length-marked_append : (first : ℕ) (marks more : List Bool) → length (members_from first (marks ++ more)) ≡ length (members_from first marks) + length (members_from first more)
length-marked_append first [] more = omega arith
length-marked_append first (true ∷ marks) more = omega (arith, length-marked_append (first + 1) marks more, length-marked_any (first + 1) first more)
length-marked_append first (false ∷ marks) more = omega (arith, length-marked_append (first + 1) marks more, length-marked_any (first + 1) first more)

pub length-marked_le : (first : ℕ) (marks : List Bool) → length (members_from first marks) ≤ length marks
length-marked_le first [] = omega arith
length-marked_le first (true ∷ marks) = omega (arith, length-marked_le (first + 1) marks)
length-marked_le first (false ∷ marks) = omega (arith, length-marked_le (first + 1) marks)

no_ones : count_ones 0 ≡ 0
unfolding ones
no_ones = refl

one_one : count_ones 1 ≡ 1
unfolding ones
one_one = refl

bit_counted : (first : ℕ) (bit : Bool) (marks : List Bool) (x : ℕ) → nat_eq (x % 2) 1 ≡ bit → length (members_from (first + 1) marks) ≡ count_ones (x / 2) → length (members_from first (bit ∷ marks)) ≡ count_ones x
bit_counted first true marks x e rest =
    let odd : x % 2 ≡ 1 = eqb-true (x % 2) 1 e in
    let split : x ≡ x / 2 * 2 + 1 = omega arith in
    let both : count_ones (x / 2 * 2 + 1) ≡ count_ones (x / 2) + count_ones 1 = ones_cat 1 (x / 2) 1 (omega arith) in
    let whole : count_ones x ≡ count_ones (x / 2) + 1 = ap count_ones split ∙ both ∙ ap (λ n. count_ones (x / 2) + n) one_one in
    omega arith
bit_counted first false marks x e rest =
    let even : x % 2 ≡ 1 → ⊥ = eqb-false (x % 2) 1 e in
    let split : x ≡ x / 2 * 2 + 0 = omega arith in
    let both : count_ones (x / 2 * 2 + 0) ≡ count_ones (x / 2) + count_ones 0 = ones_cat 1 (x / 2) 0 (omega arith) in
    let whole : count_ones x ≡ count_ones (x / 2) + 0 = ap count_ones split ∙ both ∙ ap (λ n. count_ones (x / 2) + n) no_ones in
    omega arith

bits_counted : (first count x : ℕ) → x < 2 ^ count → length (members_from first (bits_of count x)) ≡ count_ones x
unfolding bits_of
bits_counted first zero x l = let none : x ≡ 0 = omega arith in sym (ap count_ones none ∙ no_ones)
bits_counted first (suc count) x l =
    let small : x < 2 ^ count * 2 = rw pow-suc at l in
    bit_counted first (nat_eq (x % 2) 1) (bits_of count (x / 2)) x refl (bits_counted (first + 1) count (x / 2) (omega arith))

-- one more byte
pub count_more : (bits : List ℕ) (i : ℕ) → i < length bits → get_or bits i 0 < 256
    → length (members_from 0 (unpacked 8 (take (i + 1) bits))) ≡ length (members_from 0 (unpacked 8 (take i bits))) + count_ones (get_or bits i 0)
count_more bits i l small =
    let front : take (i + 1) bits ≡ take i bits ++ get_or bits i 0 ∷ [] = take_more bits i 0 l in
    let parts : unpacked 8 (take (i + 1) bits) ≡ unpacked 8 (take i bits) ++ (bits_of 8 (get_or bits i 0) ++ []) = ap (unpacked 8) front ∙ flat_map-append (bits_of 8) (take i bits) (get_or bits i 0 ∷ []) in
    ap (λ marks. length (members_from 0 marks)) (parts ∙ ap (λ more. unpacked 8 (take i bits) ++ more) (append-nil (bits_of 8 (get_or bits i 0))))
    ∙ length-marked_append 0 (unpacked 8 (take i bits)) (bits_of 8 (get_or bits i 0))
    ∙ ap (λ n. length (members_from 0 (unpacked 8 (take i bits))) + n) (bits_counted 0 8 (get_or bits i 0) small)

pub count_bound : (bits : List ℕ) (i : ℕ) → length (members_from 0 (unpacked 8 (take i bits))) ≤ i * 8
count_bound bits i = omega (arith, length-marked_le 0 (unpacked 8 (take i bits)), length-unpacked 8 (take i bits), length-take i bits)

pub count_all : (bits : List ℕ) (i : ℕ) → length bits ≤ i → length (members_from 0 (unpacked 8 (take i bits))) ≡ length (set_from bits 0)
unfolding set_from
count_all bits i l = ap (λ bytes. length (members_from 0 (unpacked 8 bytes))) (take_all i bits l)
