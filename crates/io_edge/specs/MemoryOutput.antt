-- What a sink in memory is: the bytes that it holds, and how it takes more.
use Rattle.std.specs.Prelude.{ℕ, ◌-◌, Bool, ◌&&◌, ◌||◌, nat_lt, ◌==◌, List, length}
use Rattle.io_edge.specs.Listed.{is_listed}

-- a sink in memory
pub record MemoryOutput : Type 0 where
  -- the bytes written so far
  pub held : List ℕ
  -- the most bytes that it holds
  pub room : ℕ
  -- the most bytes that one call takes
  pub step : ℕ
  -- the numbers of the calls that fail
  pub fails : List ℕ
  -- how many calls there were, at most 2^64 - 1
  pub calls : ℕ
  -- how many of them failed, at most 2^64 - 1
  pub failed : ℕ

-- how many more bytes it can hold
abbrev pub room_left : MemoryOutput → ℕ
room_left output = output.room - length output.held

-- whether its next call fails, with this piece: it is listed, or the room is full and the piece is not empty
abbrev pub next_fails : MemoryOutput → List ℕ → Bool
next_fails output piece =
    is_listed output.fails output.calls || (room_left output == 0 && nat_lt 0 (length piece))
