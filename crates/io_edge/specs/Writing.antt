-- What a call does to a sink: it writes all of a text, or it meets a fault and has written a front of the text.
use Rattle.std.specs.Prelude.{◌≡◌, ℕ, List, Option, Result, OnOk, OnErr}
use Rattle.io_edge.specs.declared.sink.Sink.{Ghosts}
use Rattle.io_edge.specs.Faults.{Rose}
use Rattle.io_edge.specs.Bytes.{Gains, GainsPrefix}
use Rattle.io_edge.specs.Behind.{Behind, Passes}

-- a sink at a moment
pub record SinkState : Type 0 where
  -- the bytes that it holds, where it tells them
  pub held : Option (List ℕ)
  -- how many faults it has met
  pub faults : ℕ
  -- what stands behind it
  pub behind : Behind

-- the sink as its trait tells of it
abbrev pub state_of : {S : Type 0} → Ghosts S → S → SinkState
state_of tells sink = record { held = tells.held sink; faults = tells.faults sink; behind = tells.behind sink }

-- all of the text was written, and no fault was met
pub record WroteAll (old new : SinkState) (text : List ℕ) : Type 0 where
  pub whole : Gains old.held new.held text
  pub quiet : new.faults ≡ old.faults
  pub passed : Passes old.behind new.behind

-- a fault was met, and a front of the text was written
pub record WroteFront (old new : SinkState) (text : List ℕ) : Type 0 where
  pub prefix : GainsPrefix old.held new.held text
  pub rose : Rose old.faults new.faults
  pub passed : Passes old.behind new.behind

-- what a call that answers this did to a sink: it wrote the text, or it failed behind a front of it
pub record WroteBy {T E : Type 0} (result : Result T E) (old new : SinkState) (text : List ℕ) : Type 0 where
  pub all : OnOk result (WroteAll old new text)
  pub front : OnErr result (WroteFront old new text)

-- a call that answers this, lent a sink whose trait tells this of it, wrote the text
abbrev pub Wrote : {S T E : Type 0} → Ghosts S → Result T E → S → S → List ℕ → Type 0
Wrote tells result old new text = WroteBy result (state_of tells old) (state_of tells new) text
