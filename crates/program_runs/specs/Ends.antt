-- How a run of a program ends, and what it does to its sink.
use Rattle.std.specs.Prelude.{◌≡◌, ℕ, List, Option, Some, None, Result, Ok, Err}
use Rattle.io_edge.specs.Writing.{SinkState, WroteAll, WroteFront}
use Rattle.graph_model.specs.Graph.{Graph}
use Rattle.graph_model.specs.declared.edge.Way.{Way}
use Rattle.graph_division.specs.Shares.{Share}
use Rattle.run_text.specs.Text.{Asked}
use Rattle.run_engine.specs.declared.fault.RunFault.{RunFault}
use Rattle.run_engine.specs.declared.fault.RunFault.TheVariants.{Spent, Write, Memory}
use Rattle.program_runs.specs.declared.program.Program.{Program}
use Rattle.program_runs.specs.Programs.{TellsRun}

module _ (program : Program) (graph : Graph) (asked : Asked) (way : Way) (shares : List Share) (budget : ℕ) where
  -- the text that the graph calls for was written
  pub record WritesRun (rounds : Option ℕ) (old new : SinkState) : Type 0 where
    pub text : List ℕ
    pub tells : TellsRun program graph asked way shares budget rounds text
    pub wrote : WroteAll old new text

  -- a write failed, and a front of that text was written
  pub record BreaksRun (old new : SinkState) : Type 0 where
    pub rounds : Option ℕ
    pub text : List ℕ
    pub tells : TellsRun program graph asked way shares budget rounds text
    pub wrote : WroteFront old new text

  -- What a run that ended so did to its sink: it wrote the text of a run that ends, or of one that goes on after
  -- its budget; a write failed behind a front of the text; or nothing was written.
  abbrev pub EndsRun : {X : Type 0} → (rounds_of : X → ℕ) → Result X RunFault → (old new : SinkState) → Type 0
  EndsRun rounds_of (Ok x) old new = WritesRun (Some (rounds_of x)) old new
  EndsRun rounds_of (Err (Spent spent)) old new = (spent ≡ budget) × WritesRun None old new
  EndsRun rounds_of (Err Write) old new = BreaksRun old new
  EndsRun rounds_of (Err Memory) old new = new ≡ old
