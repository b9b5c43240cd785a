-- Bits that are packed one after another.
use Rattle.std.specs.Prelude.{◌≡◌, ◌<◌, ◌+◌, ◌*◌, ◌%◌, ◌^◌, ℕ, zero, suc, Bool, true, false, cond, List, [], ◌∷◌, ◌++◌, length, take, drop, replicate, bit_or, refl}
use Rattle.std.proofs.Common.{arith, get_or, set, ap, subst, ◌∙◌}
use Rattle.std.proofs.Math.Nat.{pow-suc}
use Rattle.std.proofs.lemmas.Nat.{or_comm, or_shifted, one_shl}
use Rattle.std.proofs.lemmas.List.{take_all, drop_all, take-append-le, drop-append-le, length-append, length-drop}
use Rattle.list_laws.specs.Bits.{number_of_bits, packed}

-- a bit more at the end
number_of_bits-push : (bits : List Bool) (bit : Bool) → number_of_bits (bits ++ bit ∷ []) ≡ number_of_bits bits + cond bit (2 ^ length bits) 0
unfolding number_of_bits
number_of_bits-push [] true = refl
number_of_bits-push [] false = refl
number_of_bits-push (true ∷ bits) true = omega (arith, number_of_bits-push bits true, pow-suc 2 (length bits))
number_of_bits-push (true ∷ bits) false = omega (arith, number_of_bits-push bits false)
number_of_bits-push (false ∷ bits) true = omega (arith, number_of_bits-push bits true, pow-suc 2 (length bits))
number_of_bits-push (false ∷ bits) false = omega (arith, number_of_bits-push bits false)

-- so many bits give a number below that power
number_of_bits-lt : (bits : List Bool) → number_of_bits bits < 2 ^ length bits
unfolding number_of_bits
number_of_bits-lt [] = omega arith
number_of_bits-lt (true ∷ bits) = omega (arith, number_of_bits-lt bits, pow-suc 2 (length bits))
number_of_bits-lt (false ∷ bits) = omega (arith, number_of_bits-lt bits, pow-suc 2 (length bits))

-- where nothing is marked all bytes are 0
pub packed-none : (count : ℕ) → packed 8 count [] ≡ replicate count 0
unfolding number_of_bits
packed-none zero = refl
packed-none (suc count) = ap (λ bytes. 0 ∷ bytes) (packed-none count)

-- a mark more at the end is a bit more in its byte
pub packed-push : (count : ℕ) (marks : List Bool) (mark : Bool) (byte bit : ℕ) → length marks ≡ byte * 8 + bit → bit < 8 → byte < count → packed 8 count (marks ++ mark ∷ []) ≡ set (packed 8 count marks) byte (get_or (packed 8 count marks) byte 0 + cond mark (2 ^ bit) 0)
packed-push zero marks mark byte bit e h l = absurd (omega arith)
packed-push (suc count) marks mark zero bit e h l =
    let n : length marks ≡ bit = omega arith in
    let all : take 8 marks ≡ marks = take_all 8 marks (omega arith) in
    let none : drop 8 marks ≡ [] = drop_all 8 marks (omega arith) in
    let all_more : take 8 (marks ++ mark ∷ []) ≡ marks ++ mark ∷ [] = take_all 8 (marks ++ mark ∷ []) (omega (arith, length-append marks (mark ∷ []))) in
    let none_more : drop 8 (marks ++ mark ∷ []) ≡ [] = drop_all 8 (marks ++ mark ∷ []) (omega (arith, length-append marks (mark ∷ []))) in
    rw (all_more, none_more, all, none, number_of_bits-push marks mark, n) refl
packed-push (suc count) marks mark (suc byte) bit e h l =
    let front : take 8 (marks ++ mark ∷ []) ≡ take 8 marks = take-append-le 8 marks (mark ∷ []) (omega arith) in
    let back : drop 8 (marks ++ mark ∷ []) ≡ drop 8 marks ++ mark ∷ [] = drop-append-le 8 marks (mark ∷ []) (omega arith) in
    rw (front, back)
    (ap (λ bytes. number_of_bits (take 8 marks) ∷ bytes) (packed-push count (drop 8 marks) mark byte bit (omega (arith, length-drop 8 marks)) h (omega arith)))

-- the byte of the next mark holds the bits below it alone
pub packed-lt : (count : ℕ) (marks : List Bool) (byte bit : ℕ) → length marks ≡ byte * 8 + bit → bit < 8 → byte < count → get_or (packed 8 count marks) byte 0 < 2 ^ bit
packed-lt zero marks byte bit e h l = absurd (omega arith)
packed-lt (suc count) marks zero bit e h l =
    let n : length marks ≡ bit = omega arith in
    let all : take 8 marks ≡ marks = take_all 8 marks (omega arith) in
    rw (all, ← n) (number_of_bits-lt marks)
packed-lt (suc count) marks (suc byte) bit e h l =
    packed-lt count (drop 8 marks) byte bit (omega (arith, length-drop 8 marks)) h (omega arith)

-- setting a bit above those that a byte holds adds its power
pub or_bit : (byte bit : ℕ) → byte < 2 ^ bit → bit < 8 → bit_or byte ((1 * 2 ^ bit) % 2 ^ 8) ≡ byte + 2 ^ bit
or_bit byte bit h l =
    let one : 1 * 2 ^ bit ≡ 2 ^ bit = omega arith in
    let split : bit_or (2 ^ bit) byte ≡ 2 ^ bit + byte = subst (λ p. bit_or p byte ≡ p + byte) one (or_shifted 1 bit byte h) in
    ap (λ x. bit_or byte x) (one_shl bit 8 l) ∙ or_comm byte (2 ^ bit) ∙ split ∙ omega arith
