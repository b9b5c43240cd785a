-- What a picker with a list is: the picks that it has left, and what it was asked so far.
use Rattle.std.specs.Prelude.{ℕ, List, Option}

-- a picker with a list
pub record ListedChoices : Type 0 where
  -- the picks still to come, behind which each pick is 0
  pub left : List ℕ
  -- the number of the last start
  pub begun : Option ℕ
  -- how many picks it was asked for, at most 2^64 - 1
  pub asked : ℕ
  -- the sum of the choices that it was given, at most 2^64 - 1
  pub choices : ℕ
