-- What the steps of a run promise each other.
use Rattle.std.specs.Prelude.{◌≡◌, ℕ, List, [], Option, Some, None, Result, Ok, Err}
use Rattle.graph_model.specs.Graph.{Graph}
use Rattle.io_edge.specs.Writing.{SinkState, WroteAll, WroteFront}
use Rattle.command_words.specs.declared.job.RunWords.{RunWords}
use Rattle.program_runs.specs.declared.program.Program.{Program}
use Rattle.program_runs.specs.declared.last_run.LastRun.{LastRun}
use Rattle.gluon_top.specs.declared.runs.Stop.{Stop}
use Rattle.gluon_top.specs.declared.runs.Stop.TheVariants.{Write, Memory}
use Rattle.gluon_top.specs.Meaning.{ran}
use Rattle.gluon_top.specs.Outcome.{Ends, Breaks, RunsOut}
use Rattle.gluon_top.specs.Runs.{IsRunText, IsLast, AsksFor, budget_in}

-- the status of a run that was written to its end: whether there is a last round
abbrev pub status_by : Option LastRun → ℕ
status_by (Some last) = 0
status_by None = 5

module _ (program : Program) (run : RunWords) (graph : Graph) where
  -- the text of the run was written, which means this status
  pub record WritesText (status : ℕ) (old new : SinkState) : Type 0 where
    pub text : List ℕ
    pub is_text : IsRunText program run graph status text
    pub wrote : WroteAll old new text

  -- a write failed, and a front of it was written
  pub record BreaksText (old new : SinkState) : Type 0 where
    pub status : ℕ
    pub text : List ℕ
    pub is_text : IsRunText program run graph status text
    pub wrote : WroteFront old new text

  -- what a run that ended so did to its sink
  abbrev pub WritesRun : Result (Option LastRun) Stop → (old new : SinkState) → Type 0
  WritesRun (Ok last) old new = WritesText (status_by last) old new
  WritesRun (Err Write) old new = BreaksText old new
  WritesRun (Err Memory) old new = new ≡ old

  -- the same in whole pages: all went out, or a front did
  abbrev pub PassesRun : Result (Option LastRun) Stop → (old_faults new_faults : ℕ) (old new : Option (List ℕ)) → Type 0
  PassesRun (Ok last) old_faults new_faults old new = Ends (Ok (ran program run graph [])) old_faults new_faults old new (status_by last)
  PassesRun (Err Write) old_faults new_faults old new = Breaks (Ok (ran program run graph [])) old_faults new_faults old new
  PassesRun (Err Memory) old_faults new_faults old new = RunsOut (Ok (ran program run graph [])) old_faults new_faults old new

  -- and how it asked for picks, and with which cluster it ended
  abbrev pub RunsByHosts : Result (Option LastRun) Stop → (old new : Option ℕ) → Type 0
  RunsByHosts (Ok (Some last)) old new = IsLast program run graph last old new
  RunsByHosts (Ok None) old new = AsksFor program run graph (budget_in program run graph) old new
  RunsByHosts (Err stop) old new = Unit {0}
