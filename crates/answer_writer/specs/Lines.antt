-- The bytes of each line of text: decimal numbers without leading zeros, one space between, a newline at the end.
use Rattle.std.specs.Prelude.{ℕ, List, [], ◌∷◌, ◌++◌, Option, Some, None, decimal}
use Rattle.std.specs.List.{flat_map}

-- a space, and then the number
abbrev pub spaced_number : ℕ → List ℕ
spaced_number n = 32 ∷ decimal n

-- each number after a space
abbrev pub spaced_numbers : List ℕ → List ℕ
spaced_numbers numbers = flat_map spaced_number numbers

-- a text, each number after a space, and a newline
abbrev pub words_line : List ℕ → List ℕ → List ℕ
words_line first numbers = first ++ spaced_numbers numbers ++ 10 ∷ []

-- the number, or `-` for none
abbrev pub value_text : Option ℕ → List ℕ
value_text None = 45 ∷ []
value_text (Some x) = decimal x

-- a vertex, a space, its value or `-` for none, and a newline
abbrev pub answer_line : ℕ → Option ℕ → List ℕ
answer_line v value = decimal v ++ 32 ∷ (value_text value ++ 10 ∷ [])
