-- What a call does to a source: it takes bytes and meets no fault, or a read fails once it has taken some.
use Rattle.std.specs.Prelude.{◌≡◌, ℕ, List, Option, Result, Ok, Err}
use Rattle.io_edge.specs.declared.source.Source.{Ghosts}
use Rattle.io_edge.specs.Faults.{Rose}
use Rattle.io_edge.specs.Bytes.{Gives}

-- a source at a moment
pub record SourceState : Type 0 where
  -- the bytes still to come, where it tells them
  pub left : Option (List ℕ)
  -- how many faults it has met
  pub faults : ℕ

-- the source as its trait tells of it
abbrev pub state_of : {S : Type 0} → Ghosts S → S → SourceState
state_of tells source = record { left = tells.left source; faults = tells.faults source }

-- these bytes were taken, and no fault was met
pub record Took (old new : SourceState) (got : List ℕ) : Type 0 where
  pub gave : Gives old.left new.left got
  pub quiet : new.faults ≡ old.faults

-- these bytes were taken, and then a read failed
pub record TookFront (old new : SourceState) (got : List ℕ) : Type 0 where
  pub gave : Gives old.left new.left got
  pub rose : Rose old.faults new.faults

-- what a call that answers this took from a source, where its answer tells the bytes
abbrev pub ReadBy : {T E : Type 0} → Result T E → SourceState → SourceState → (T → List ℕ) → Type 0
ReadBy (Ok x) old new got = Took old new (got x)
ReadBy (Err e) old new got = (some : List ℕ) × TookFront old new some

-- a call that answers this, lent a source whose trait tells this of it, read what its answer tells
abbrev pub Read : {S T E : Type 0} → Ghosts S → Result T E → S → S → (T → List ℕ) → Type 0
Read tells result old new got = ReadBy result (state_of tells old) (state_of tells new) got
