-- What a source in memory is: the bytes that it has left, and how it gives them.
use Rattle.std.specs.Prelude.{ℕ, List}

-- a source in memory
pub record MemoryInput : Type 0 where
  -- the bytes still to come
  pub left : List ℕ
  -- the most bytes that one call gives
  pub step : ℕ
  -- the numbers of the calls that fail
  pub fails : List ℕ
  -- how many calls there were, at most 2^64 - 1
  pub calls : ℕ
  -- how many of them failed, at most 2^64 - 1
  pub failed : ℕ
