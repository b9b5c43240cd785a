-- A number that is split off a text of numbers.
use Rattle.std.proofs.Common.{◌≡◌, ℕ, ◌+◌, ◌-◌, ◌≤◌, List, ◌∷◌, length, take, drop, ap, ◌∙◌, arith, length-drop}
use Rattle.std.specs.Int.{w32, w64, from_le_bytes}
use Rattle.std.proofs.lemmas.List.{length-take-le, take_rest}
use Rattle.list_laws.specs.LittleEndian.{le_number, whole_numbers}
use Rattle.list_laws.proofs.WholeNumbers.{whole_numbers-split, from_le_bytes-le_4, from_le_bytes-le_8}

-- a front has as many bytes as were asked for
front_length : (size : ℕ) (text front rest : List ℕ) → front ≡ take size text → length rest + size ≡ length text → length front ≡ size
front_length size text front rest first count = ap length first ∙ length-take-le size text (omega arith)

-- the first number of four bytes
pub split-4 : (text front rest : List ℕ) (number : ℕ) → front ≡ take 4 text → rest ≡ drop 4 text → length rest + 4 ≡ length text → number ≡ from_le_bytes w32 front
    → whole_numbers 4 text ≡ number ∷ whole_numbers 4 rest
split-4 text front rest number first last count value =
    whole_numbers-split 4 text front rest number (omega arith) first last count (value ∙ from_le_bytes-le_4 front (front_length 4 text front rest first count))

-- the first number of eight bytes
pub split-8 : (text front rest : List ℕ) (number : ℕ) → front ≡ take 8 text → rest ≡ drop 8 text → length rest + 8 ≡ length text → number ≡ from_le_bytes w64 front
    → whole_numbers 8 text ≡ number ∷ whole_numbers 8 rest
split-8 text front rest number first last count value =
    whole_numbers-split 8 text front rest number (omega arith) first last count (value ∙ from_le_bytes-le_8 front (front_length 8 text front rest first count))

-- the number of eight bytes at a place
pub number_at-8 : (text front : List ℕ) (place number : ℕ) → place + 8 ≤ length text → front ≡ take 8 (take (length text - place) (drop place text)) → number ≡ from_le_bytes w64 front
    → number ≡ le_number (take 8 (drop place text))
number_at-8 text front place number within first value =
    let same : front ≡ take 8 (drop place text) = first ∙ ap (take 8) (take_rest text place) in
    value ∙ from_le_bytes-le_8 front (ap length same ∙ length-take-le 8 (drop place text) (omega (arith, length-drop place text))) ∙ ap le_number same
