-- How a run ends, and what it does to its sink and its picker.
use Rattle.std.specs.Prelude.{◌≡◌, ℕ, List, Option, Some, None, Result, Ok, Err}
use Rattle.io_edge.specs.Writing.{SinkState, WroteAll, WroteFront}
use Rattle.graph_model.specs.declared.edge.Way.{Way}
use Rattle.graph_division.specs.Shares.{Share}
use Rattle.round_packets.specs.Runs.{Run}
use Rattle.run_text.specs.Told.{told_by}
use Rattle.run_text.specs.Text.{Asked, IsRunText}
use Rattle.run_engine.specs.declared.fault.RunFault.{RunFault}
use Rattle.run_engine.specs.declared.fault.RunFault.TheVariants.{Spent, Write, Memory}
use Rattle.run_engine.specs.declared.job.RunJob.{RunJob}
use Rattle.run_engine.specs.Running.{TakesRounds, KeepsChanging}

-- what a job asks for besides the answers
abbrev pub asked_by : RunJob → Asked
asked_by job = record { trace = job.trace; report = job.report }

-- the rounds that were run when a run ended so, if it told its whole text
abbrev pub rounds_at : {X : Type 0} → (rounds_of : X → ℕ) → Result X RunFault → Option ℕ
rounds_at rounds_of (Ok ended) = Some (rounds_of ended)
rounds_at rounds_of (Err (Spent budget)) = Some budget
rounds_at rounds_of (Err Write) = None
rounds_at rounds_of (Err Memory) = None

module _ {Item State Shown : Type 0} (item_bytes : Item → List ℕ) (shown_bytes : Shown → List ℕ) (run : Run Item State Shown) (asked : Asked) (way : Way) (shares : List Share) (budget : ℕ) where
  -- the text of the run, which ends after so many rounds, or is still going on after all that it may have
  abbrev pub IsTextOfRun : Option ℕ → List ℕ → Type 0
  IsTextOfRun rounds text = IsRunText (TakesRounds run) asked way shares (told_by item_bytes shown_bytes run) budget rounds text

  -- the text of the run was written to a sink
  pub record WritesRun (rounds : Option ℕ) (old new : SinkState) : Type 0 where
    pub text : List ℕ
    pub is_text : IsTextOfRun rounds text
    pub wrote : WroteAll old new text

  -- a write failed, and a front of that text was written
  pub record BreaksRun (old new : SinkState) : Type 0 where
    pub rounds : Option ℕ
    pub text : List ℕ
    pub is_text : IsTextOfRun rounds text
    pub wrote : WroteFront old new text

  -- what a run that ended so did to its sink: it wrote its text; it wrote its packets, and each round that it
  -- might have changed something; a write failed behind a front of its text; or nothing was written
  abbrev pub EndsRun : {X : Type 0} → (rounds_of : X → ℕ) → Result X RunFault → (old new : SinkState) → Type 0
  EndsRun rounds_of (Ok ended) old new = WritesRun (Some (rounds_of ended)) old new
  EndsRun rounds_of (Err (Spent spent)) old new = (spent ≡ budget) × KeepsChanging run budget × WritesRun None old new
  EndsRun rounds_of (Err Write) old new = BreaksRun old new
  EndsRun rounds_of (Err Memory) old new = new ≡ old

-- this holds of the rounds that were run, where that is told
abbrev pub IfRan : Option ℕ → (ℕ → Type 0) → Type 0
IfRan None holds = Unit {0}
IfRan (Some rounds) holds = holds rounds
