-- Truth values packed into numbers, the lowest bit first.
use Rattle.std.specs.Prelude.{ℕ, zero, suc, ◌+◌, ◌*◌, ◌/◌, ◌%◌, Bool, true, false, nat_eq, List, [], ◌∷◌, take, drop, slice_index}
use Rattle.std.specs.List.{flat_map}
use Rattle.std.specs.Int.{bit_at}

-- the number whose bits these are, the lowest first
unfoldable pub number_of_bits : List Bool → ℕ
number_of_bits [] = 0
number_of_bits (true ∷ bits) = 1 + 2 * number_of_bits bits
number_of_bits (false ∷ bits) = 2 * number_of_bits bits

-- so many bits of a number, the lowest first
unfoldable pub bits_of : (count number : ℕ) → List Bool
bits_of zero number = []
bits_of (suc count) number = nat_eq (number % 2) 1 ∷ bits_of count (number / 2)

-- truth values as so many numbers, each of `size` bits; bits past the last value are 0
abbrev pub packed : (size count : ℕ) → List Bool → List ℕ
packed size zero marks = []
packed size (suc count) marks = number_of_bits (take size marks) ∷ packed size count (drop size marks)

-- the bits of numbers of `size` bits each
abbrev pub unpacked : ℕ → List ℕ → List Bool
unpacked size numbers = flat_map (bits_of size) numbers

-- whether the bit of this number is set, counted on through words of 64 bits
abbrev pub bit_in : (words : List ℕ) (i : ℕ) → Bool
bit_in words i = nat_eq (bit_at (slice_index words (i / 64)) (i % 64)) 1
