-- What stands behind a sink that passes its bytes on: where they go, and which of them have arrived there.
use Rattle.std.specs.Prelude.{◌≡◌, ℕ, List, Option, None}
use Rattle.io_edge.specs.Bytes.{Gains}

-- what stands behind a sink
pub record Behind : Type 0 where
  -- the name of the place where its bytes go, where it has one
  pub place : Option ℕ
  -- the bytes that have arrived there, where they are told
  pub arrived : Option (List ℕ)

-- a sink that tells nothing of what stands behind it
abbrev pub nothing_behind : Behind
nothing_behind = record { place = None; arrived = None }

-- bytes go to the same place, and what has arrived there stays
pub record Passes (old new : Behind) : Type 0 where
  pub same_place : new.place ≡ old.place
  pub grown : (more : List ℕ) × Gains old.arrived new.arrived more
