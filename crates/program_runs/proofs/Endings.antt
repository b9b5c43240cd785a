-- A run whose text is what its program's graph calls for ends as that says.
use Rattle.std.proofs.Common.{◌≡◌, ℕ, List, Option, Some, None, Result, Err, IsErrAnd, subst}
use Rattle.std.proofs.lemmas.Result.{err_from_is_err_and}
use Rattle.io_edge.specs.Writing.{SinkState}
use Rattle.graph_model.specs.Graph.{Graph}
use Rattle.graph_model.specs.declared.edge.Way.{Way}
use Rattle.graph_division.specs.Shares.{Share}
use Rattle.round_packets.specs.Runs.{Run}
use Rattle.run_text.specs.Text.{Asked}
use Rattle.run_engine.specs.Outcome as engine
use Rattle.run_engine.specs.declared.fault.RunFault.{RunFault}
use Rattle.run_engine.specs.declared.fault.RunFault.TheVariants.{Spent, Write, Memory}
use Rattle.program_runs.specs.declared.program.Program.{Program}
use Rattle.program_runs.specs.Programs.{TellsRun}
use Rattle.program_runs.specs.Ends.{WritesRun, BreaksRun, EndsRun}

module _ (program : Program) {Item State Shown : Type 0} (item_bytes : Item → List ℕ) (shown_bytes : Shown → List ℕ) (run : Run Item State Shown) (graph : Graph) (asked : Asked) (way : Way) (shares : List Share) (budget : ℕ)
    (law : (rounds : Option ℕ) (text : List ℕ) → engine.IsTextOfRun item_bytes shown_bytes run asked way shares budget rounds text → TellsRun program graph asked way shares budget rounds text) where
  -- the text that was written
  writes : (rounds : Option ℕ) (old new : SinkState) → engine.WritesRun item_bytes shown_bytes run asked way shares budget rounds old new → WritesRun program graph asked way shares budget rounds old new
  writes rounds old new written = record {
    text = written.text;
    tells = law rounds written.text written.is_text;
    wrote = written.wrote;
  }

  -- the text of which a front was written
  breaks : (old new : SinkState) → engine.BreaksRun item_bytes shown_bytes run asked way shares budget old new → BreaksRun program graph asked way shares budget old new
  breaks old new broken = record {
    rounds = broken.rounds;
    text = broken.text;
    tells = law broken.rounds broken.text broken.is_text;
    wrote = broken.wrote;
  }

  -- the text of a run that came to its end, where its rounds and the budget are named otherwise
  pub comes_to_end : (rounds last known : ℕ) (old new : SinkState) → rounds ≡ last → budget ≡ known
      → engine.WritesRun item_bytes shown_bytes run asked way shares budget (Some rounds) old new
      → WritesRun program graph asked way shares known (Some last) old new
  comes_to_end rounds last known old new same within written =
      subst (λ (n : ℕ). WritesRun program graph asked way shares n (Some last) old new) within
      (subst (λ (n : ℕ). WritesRun program graph asked way shares budget (Some n) old new) same (writes (Some rounds) old new written))

  -- a run that met a fault
  fails : {X Y : Type 0} (rounds_of : X → ℕ) (last_of : Y → ℕ) (fault : RunFault) (old new : SinkState)
      → engine.EndsRun item_bytes shown_bytes run asked way shares budget rounds_of (Err fault) old new
      → EndsRun program graph asked way shares budget last_of (Err fault) old new
  fails rounds_of last_of (Spent spent) old new ended = (ended.0, writes None old new ended.2)
  fails rounds_of last_of Write old new ended = breaks old new ended
  fails rounds_of last_of Memory old new ended = ended

  -- a fault that is handed on, where the budget is named otherwise
  pub hands_on : {X Y : Type 0} (rounds_of : X → ℕ) (last_of : Y → ℕ) (ran : Result X RunFault) (result : Result Y RunFault) (fault : RunFault) (known : ℕ) (old new : SinkState)
      → ran ≡ Err fault → IsErrAnd result (λ e. e ≡ fault) → budget ≡ known
      → engine.EndsRun item_bytes shown_bytes run asked way shares budget rounds_of ran old new
      → EndsRun program graph asked way shares known last_of result old new
  hands_on {X} {Y} rounds_of last_of ran result fault known old new was handed same ended =
      let p = err_from_is_err_and result handed in
      let failed = subst (λ (r : Result X RunFault). engine.EndsRun item_bytes shown_bytes run asked way shares budget rounds_of r old new) was ended in
      rw (p.1, p.2)
      (subst (λ (n : ℕ). EndsRun program graph asked way shares n last_of (Err fault) old new) same (fails rounds_of last_of fault old new failed))
