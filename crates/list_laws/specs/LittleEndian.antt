-- Numbers as bytes, the lowest byte first, alone and one after another.
use Rattle.std.specs.Prelude.{ℕ, zero, suc, ◌+◌, ◌*◌, ◌/◌, ◌%◌, ◌<◌, List, [], ◌∷◌, length, take, drop, map, All}
use Rattle.std.specs.List.{flat_map}

-- each number of the list is a byte
abbrev pub AreBytes : List ℕ → Type 0
AreBytes bytes = All (λ b. b < 256) bytes

-- a number as `size` bytes
unfoldable pub le_bytes : (size number : ℕ) → List ℕ
le_bytes zero number = []
le_bytes (suc size) number = number % 256 ∷ le_bytes size (number / 256)

-- the number that bytes stand for
unfoldable pub le_number : List ℕ → ℕ
le_number [] = 0
le_number (byte ∷ bytes) = byte + 256 * le_number bytes

-- numbers of `size` bytes one after another
abbrev pub le_text : (size : ℕ) → List ℕ → List ℕ
le_text size numbers = flat_map (le_bytes size) numbers

-- the first pieces of a text, `count` of `size` bytes each
abbrev pub pieces : (size count : ℕ) → List ℕ → List (List ℕ)
pieces size zero text = []
pieces size (suc count) text = take size text ∷ pieces size count (drop size text)

-- the numbers that these pieces stand for
abbrev pub numbers : (size count : ℕ) → List ℕ → List ℕ
numbers size count text = map le_number (pieces size count text)

-- as many numbers of `size` bytes as the text has whole
abbrev pub whole_numbers : (size : ℕ) → List ℕ → List ℕ
whole_numbers size text = numbers size (length text / size) text
