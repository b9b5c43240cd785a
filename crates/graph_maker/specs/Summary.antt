-- The summary of a list of values, some of which may be missing.
use Rattle.std.specs.Prelude.{ℕ, List, [], ◌∷◌, Option, length, sum, max}
use Rattle.std.specs.List.{filter_map}
use Rattle.graph_maker.specs.declared.summary.Summary.{Summary}

-- the values that are there
abbrev pub present : List (Option ℕ) → List ℕ
present values = filter_map (λ value. value) values

-- the greatest number, and 0 where there is none
abbrev pub greatest_of : List ℕ → ℕ
greatest_of [] = 0
greatest_of (x ∷ xs) = max x (greatest_of xs)

-- how many values are there, their sum and the greatest
abbrev pub summary_of : List (Option ℕ) → Summary
summary_of values = record { reached = length (present values); sum = sum (present values); greatest = greatest_of (present values) }
