-- Numbers of one size one after another in a text: how many there are, and where a text may be cut.
use Rattle.std.proofs.Common.{◌≡◌, ℕ, zero, suc, ◌+◌, ◌-◌, ◌*◌, ◌/◌, ◌%◌, ◌^◌, ◌<◌, ◌≤◌, List, [], ◌∷◌, ◌++◌, length, take, drop, map, refl, ap, sym, ◌∙◌, arith, length-append, length-drop, append-nil, zero-add, get_or}
use Rattle.std.specs.Prelude.{All}
use Rattle.std.specs.Int.{Width, w32, w64, byte_len, byte_at, bytes_low_first, to_le_bytes, from_le_bytes}
use Rattle.std.proofs.lemmas.List.{take-append-le, drop-append-le, drop-drop, nil_from_length, length-map, length-take-le, get_or_default}
use Rattle.std.proofs.lemmas.List.Elements.{All-nil, All-cons, All-head, All-tail, All-take, All-drop}
use Rattle.std.proofs.lemmas.Nat.{div-mul-add, le-div}
use Rattle.std.proofs.Math.Nat.{zero-mul, suc-mul, add-mul, pow-suc, div-div-eq-div-mul, div-mul-le_self, lt-div-mul-add}
use Rattle.list_laws.specs.LittleEndian.{AreBytes, le_bytes, le_number, le_text, pieces, numbers, whole_numbers}
use Rattle.list_laws.proofs.LittleEndian.{length-le_bytes, length-pieces, length-in_pieces, pieces-in_pieces, le_number-le_bytes}

-- as many numbers as were asked for
pub length-numbers : (size count : ℕ) (text : List ℕ) → length (numbers size count text) ≡ count
length-numbers size count text = length-map (pieces size count text) le_number ∙ length-pieces size count text

-- a text of `count` numbers and fewer bytes than one more has these numbers
pub whole_numbers-count : (size count spare : ℕ) (text : List ℕ) → spare < size → length text ≡ count * size + spare → whole_numbers size text ≡ numbers size count text
whole_numbers-count size count spare text short e =
    ap (λ n. numbers size n text) (ap (λ n. n / size) e ∙ div-mul-add count size spare short)

-- the first number does not depend on what follows it
pub first_number-append : (size : ℕ) (xs ys : List ℕ) → size ≤ length xs → le_number (take size (xs ++ ys)) ≡ le_number (take size xs)
first_number-append size xs ys fits = rw take-append-le refl

-- the first numbers do not depend on what follows them
pub numbers-front : (size m n : ℕ) (xs ys : List ℕ) → m * size ≤ length xs → numbers size (m + n) (xs ++ ys) ≡ numbers size m xs ++ numbers size n (drop (m * size) (xs ++ ys))
numbers-front size zero n xs ys fits = rw (zero-add, zero-mul) refl
numbers-front size (suc m) n xs ys fits =
    let count : suc m + n ≡ suc (m + n) = omega arith in
    let product : suc m * size ≡ m * size + size = suc-mul m size in
    let swapped : suc m * size ≡ size + m * size = omega arith in
    let one : size ≤ length xs = omega arith in
    let rest : m * size ≤ length (drop size xs) = omega (arith, length-drop size xs) in
    rw (count, swapped, ← drop-drop (m * size) size (xs ++ ys), first_number-append size xs ys one, drop-append-le size xs ys one)
    (ap (λ (l : List ℕ). le_number (take size xs) ∷ l) (numbers-front size m n (drop size xs) ys rest))

-- the numbers of two parts, where the first has whole numbers
pub numbers-append : (size m n : ℕ) (xs ys : List ℕ) → length xs ≡ m * size → numbers size (m + n) (xs ++ ys) ≡ numbers size m xs ++ numbers size n ys
numbers-append size zero n xs ys whole =
    let none : xs ≡ [] = nil_from_length xs (whole ∙ zero-mul size) in
    rw (none, zero-add) refl
numbers-append size (suc m) n xs ys whole =
    let count : suc m + n ≡ suc (m + n) = omega arith in
    let product : suc m * size ≡ m * size + size = suc-mul m size in
    let fits : size ≤ length xs = omega arith in
    let rest : length (drop size xs) ≡ m * size = omega (arith, length-drop size xs) in
    rw (count, first_number-append size xs ys fits, drop-append-le size xs ys fits, numbers-append size m n (drop size xs) ys rest) refl

-- what is left over of a text behind its whole numbers
abbrev pub spare_of : (size : ℕ) → List ℕ → ℕ
spare_of size text = length text - length text / size * size

-- is less than one number
pub spare_of-lt : (size : ℕ) (text : List ℕ) → 0 < size → spare_of size text < size
spare_of-lt size text some = omega (arith, lt-div-mul-add {a = length text} {b = size} some)

-- the whole numbers and what is left over are the text
pub whole_and_spare : (size : ℕ) (text : List ℕ) → length text / size * size + spare_of size text ≡ length text
whole_and_spare size text = omega (arith, div-mul-le_self (length text) size)

-- the whole numbers of two parts, where the first has whole numbers
pub whole_numbers-append : (size m : ℕ) (xs ys : List ℕ) → 0 < size → length xs ≡ m * size → whole_numbers size (xs ++ ys) ≡ whole_numbers size xs ++ whole_numbers size ys
whole_numbers-append size m xs ys some whole =
    let q : ℕ = length ys / size in
    let product : (m + q) * size ≡ m * size + q * size = add-mul m q size in
    let all : length (xs ++ ys) ≡ (m + q) * size + spare_of size ys = omega (arith, length-append xs ys, whole_and_spare size ys) in
    whole_numbers-count size (m + q) (spare_of size ys) (xs ++ ys) (spare_of-lt size ys some) all
    ∙ numbers-append size m q xs ys whole
    ∙ ap (λ l. l ++ numbers size q ys) (sym (whole_numbers-count size m 0 xs some (omega arith)))

-- the whole numbers of a front are a front of the whole numbers
pub whole_numbers-front : (size : ℕ) (xs ys : List ℕ) → 0 < size → (zs : List ℕ) × (whole_numbers size (xs ++ ys) ≡ whole_numbers size xs ++ zs)
whole_numbers-front size xs ys some =
    let q : ℕ = length xs / size in
    let grows : q ≤ length (xs ++ ys) / size = le-div q (length (xs ++ ys)) size some (omega (arith, length-append xs ys, div-mul-le_self (length xs) size)) in
    let more : ℕ = length (xs ++ ys) / size - q in
    let count : length (xs ++ ys) / size ≡ q + more = omega arith in (
      numbers size more (drop (q * size) (xs ++ ys)),
      ap (λ n. numbers size n (xs ++ ys)) count ∙ numbers-front size q more xs ys (div-mul-le_self (length xs) size),
    )

-- one number more at the front
pub whole_numbers-cons : (size : ℕ) (text : List ℕ) → 0 < size → size ≤ length text → whole_numbers size text ≡ le_number (take size text) ∷ whole_numbers size (drop size text)
whole_numbers-cons size text some fits =
    let q : ℕ = length (drop size text) / size in
    let product : suc q * size ≡ q * size + size = suc-mul q size in
    let all : length text ≡ suc q * size + spare_of size (drop size text) = omega (arith, length-drop size text, whole_and_spare size (drop size text)) in
    whole_numbers-count size (suc q) (spare_of size (drop size text)) text (spare_of-lt size (drop size text) some) all

-- fewer bytes than a number has
pub whole_numbers-none : (size : ℕ) (text : List ℕ) → length text < size → whole_numbers size text ≡ []
whole_numbers-none size text short = whole_numbers-count size 0 (length text) text short (omega arith)

-- the first number was split off
pub whole_numbers-split : (size : ℕ) (text front rest : List ℕ) (number : ℕ) → 0 < size → front ≡ take size text → rest ≡ drop size text → length rest + size ≡ length text
    → number ≡ le_number front → whole_numbers size text ≡ number ∷ whole_numbers size rest
whole_numbers-split size text front rest number some first last count value =
    rw (value, first, last) (whole_numbers-cons size text some (omega arith))

-- ---- how large numbers are

-- a text whose elements are told by their places
pub AreBytes-from_get_or : (text : List ℕ) → ((k : ℕ) → get_or text k 0 < 256) → AreBytes text
AreBytes-from_get_or text each = λ k d within. rw (get_or_default text k d 0 within) (each k)

-- a number of bytes fits them
pub le_number-fits : (bytes : List ℕ) → AreBytes bytes → le_number bytes < 256 ^ length bytes
unfolding le_number
le_number-fits [] fit = omega arith
le_number-fits (byte ∷ bytes) fit =
    let power : 256 ^ suc (length bytes) ≡ 256 ^ length bytes * 256 = pow-suc 256 (length bytes) in
    let first : byte < 256 = All-head (λ b. b < 256) byte bytes fit in
    let rest : le_number bytes < 256 ^ length bytes = le_number-fits bytes (All-tail (λ b. b < 256) byte bytes fit) in
    rw power (omega arith)

-- numbers of `size` bytes fit these
numbers-fit : (size count : ℕ) (text : List ℕ) → AreBytes text → count * size ≤ length text → All (λ x. x < 256 ^ size) (numbers size count text)
numbers-fit size zero text fit enough = All-nil (λ x. x < 256 ^ size)
numbers-fit size (suc count) text fit enough =
    let product : suc count * size ≡ count * size + size = suc-mul count size in
    let long : length (take size text) ≡ size = length-take-le size text (omega arith) in
    let first : le_number (take size text) < 256 ^ length (take size text) = le_number-fits (take size text) (All-take (λ b. b < 256) size text fit) in
    All-cons (λ x. x < 256 ^ size) (le_number (take size text)) (numbers size count (drop size text)) (rw long at first)
    (numbers-fit size count (drop size text) (All-drop (λ b. b < 256) size text fit) (omega (arith, length-drop size text)))

pub whole_numbers-fit : (size : ℕ) (text : List ℕ) → AreBytes text → All (λ x. x < 256 ^ size) (whole_numbers size text)
whole_numbers-fit size text fit = numbers-fit size (length text / size) text fit (div-mul-le_self (length text) size)

-- ---- numbers that were written

-- how many bytes numbers have
pub length-le_text : (size : ℕ) (xs : List ℕ) → length (le_text size xs) ≡ length xs * size
length-le_text size xs = length-in_pieces size (le_bytes size) xs (λ k d h. length-le_bytes size (get_or xs k d))

-- numbers that fit are read again, whatever follows them
pub numbers-le_text : (size : ℕ) (xs more : List ℕ) → All (λ x. x < 256 ^ size) xs → numbers size (length xs) (le_text size xs ++ more) ≡ xs
numbers-le_text size xs more fit =
    ap (map le_number) (pieces-in_pieces size (le_bytes size) xs more (λ k d h. length-le_bytes size (get_or xs k d))) ∙ back xs fit
  where
    back : (xs : List ℕ) → All (λ x. x < 256 ^ size) xs → map le_number (map (le_bytes size) xs) ≡ xs
    back [] fit = refl
    back (x ∷ xs) fit =
        ap (λ y. y ∷ map le_number (map (le_bytes size) xs)) (le_number-le_bytes size x (All-head (λ x. x < 256 ^ size) x xs fit))
        ∙ ap (λ ys. x ∷ ys) (back xs (All-tail (λ x. x < 256 ^ size) x xs fit))

-- all of a text of numbers that fit
pub whole_numbers-le_text : (size : ℕ) (xs : List ℕ) → 0 < size → All (λ x. x < 256 ^ size) xs → whole_numbers size (le_text size xs) ≡ xs
whole_numbers-le_text size xs some fit =
    whole_numbers-count size (length xs) 0 (le_text size xs) some (length-le_text size xs ∙ omega arith)
    ∙ ap (numbers size (length xs)) (sym (append-nil (le_text size xs)))
    ∙ numbers-le_text size xs [] fit

-- ---- the numbers of std

-- the bytes of a number from one on, as std writes them
bytes_low_first-le : (i k n : ℕ) → bytes_low_first i k n ≡ le_bytes k (n / 256 ^ i)
unfolding le_bytes
bytes_low_first-le i zero n = refl
bytes_low_first-le i (suc k) n =
    let next : n / 256 ^ suc i ≡ n / 256 ^ i / 256 = ap (λ m. n / m) (pow-suc 256 i) ∙ sym (div-div-eq-div-mul n (256 ^ i) 256) in
    ap (λ b. b ∷ bytes_low_first (suc i) k n) (byte i) ∙ ap (λ bytes. n / 256 ^ i % 256 ∷ bytes) (bytes_low_first-le (suc i) k n ∙ ap (le_bytes k) next)
  where
    byte : (i : ℕ) → byte_at i n ≡ n / 256 ^ i % 256
    byte zero = ap (λ m. m % 256) (omega arith)
    byte (suc i) = refl

-- a number's bytes as std writes them
pub to_le_bytes-le : (width : Width) (x : ℕ) → to_le_bytes width x ≡ le_bytes (byte_len width) x
to_le_bytes-le width x = bytes_low_first-le 0 (byte_len width) x ∙ ap (le_bytes (byte_len width)) (omega arith)

-- the number of four bytes as std reads it
pub from_le_bytes-le_4 : (bytes : List ℕ) → length bytes ≡ 4 → from_le_bytes w32 bytes ≡ le_number bytes
unfolding le_number
from_le_bytes-le_4 [] e = absurd (omega arith)
from_le_bytes-le_4 (a ∷ []) e = absurd (omega arith)
from_le_bytes-le_4 (a ∷ b ∷ []) e = absurd (omega arith)
from_le_bytes-le_4 (a ∷ b ∷ c ∷ []) e = absurd (omega arith)
from_le_bytes-le_4 (a ∷ b ∷ c ∷ d ∷ []) e = omega arith
from_le_bytes-le_4 (a ∷ b ∷ c ∷ d ∷ more ∷ rest) e = absurd (omega arith)

-- the number of eight bytes as std reads it
pub from_le_bytes-le_8 : (bytes : List ℕ) → length bytes ≡ 8 → from_le_bytes w64 bytes ≡ le_number bytes
unfolding le_number
from_le_bytes-le_8 [] e = absurd (omega arith)
from_le_bytes-le_8 (a ∷ []) e = absurd (omega arith)
from_le_bytes-le_8 (a ∷ b ∷ []) e = absurd (omega arith)
from_le_bytes-le_8 (a ∷ b ∷ c ∷ []) e = absurd (omega arith)
from_le_bytes-le_8 (a ∷ b ∷ c ∷ d ∷ []) e = absurd (omega arith)
from_le_bytes-le_8 (a ∷ b ∷ c ∷ d ∷ f ∷ []) e = absurd (omega arith)
from_le_bytes-le_8 (a ∷ b ∷ c ∷ d ∷ f ∷ g ∷ []) e = absurd (omega arith)
from_le_bytes-le_8 (a ∷ b ∷ c ∷ d ∷ f ∷ g ∷ h ∷ []) e = absurd (omega arith)
from_le_bytes-le_8 (a ∷ b ∷ c ∷ d ∷ f ∷ g ∷ h ∷ i ∷ []) e = omega arith
from_le_bytes-le_8 (a ∷ b ∷ c ∷ d ∷ f ∷ g ∷ h ∷ i ∷ more ∷ rest) e = absurd (omega arith)
