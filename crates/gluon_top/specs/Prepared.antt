-- What was prepared for a task: all but the writing, and the run.
use Rattle.std.specs.Prelude.{◌≡◌, ◌≤◌, ℕ, Bool, true, false, List, Option, Some, None, IfSome, Result, Ok, Err}
use Rattle.graph_model.specs.Graph.{Graph, IsGraph}
use Rattle.cusp_rules.specs.Hosts.{IsHostCount}
use Rattle.graph_division.specs.Shares.{Share}
use Rattle.graph_division.specs.Partition.{IsPartition}
use Rattle.command_words.specs.declared.job.RunWords.{RunWords}
use Rattle.program_runs.specs.declared.program.Program.{Program}
use Rattle.program_runs.specs.declared.last_run.LastRun.{LastRun}
use Rattle.graph_maker.specs.MadeGraph.{made_graph}
use Rattle.trial_runs.specs.Trials.{AsksForTrial}
use Rattle.job_text.specs.declared.fault.Fault.{Fault}
use Rattle.gluon_top.specs.declared.task.Task.{Task}
use Rattle.gluon_top.specs.declared.task.Task.TheVariants as task
use Rattle.gluon_top.specs.declared.prepared.Prepared.{Prepared}
use Rattle.gluon_top.specs.declared.prepared.Prepared.TheVariants.{Run, Told}
use Rattle.gluon_top.specs.Answers.{text_of, AreFew}
use Rattle.gluon_top.specs.Meaning.{Answer, ran, generated, owned, divided, tried, IsText}
use Rattle.gluon_top.specs.Runs.{shares_in, GoesByHosts}

-- whether it is a run
abbrev pub is_run : Prepared → Bool
is_run (Run program run graphs) = true
is_run (Told answers) = false

-- a run may have as many rounds as it takes
abbrev pub IsFree : Prepared → Type 0
IsFree (Run program run graphs) = run.rounds ≡ None
IsFree (Told answers) = Unit {0}

-- these are the local graphs of 1 to 64 hosts, which may run for at least a round
pub record CanRun (run : RunWords) (shares : List Share) : Type 0 where
  pub partition : IsPartition shares
  pub hosts : IsHostCount run.hosts
  pub rounds : IfSome run.rounds (λ rounds. 1 ≤ rounds)

-- hosts can run, or what was found can be written
abbrev pub IsGood : Prepared → Type 0
IsGood (Run program run graphs) = CanRun run graphs.items
IsGood (Told answers) = AreFew answers

-- a program is to run on a graph, as words say
pub record IsRunOn (program : Program) (run : RunWords) (shares : List Share) (meant : Program) (words : RunWords) (graph : Graph) : Type 0 where
  pub same_program : program ≡ meant
  pub same_words : run ≡ words
  pub is_graph : IsGraph graph
  pub shared_out : shares ≡ shares_in program run graph

-- it is what an answer asks for
abbrev pub IsReady : Prepared → Answer → Type 0
IsReady (Run program run graphs) (ran meant words graph after) = IsRunOn program run graphs.items meant words graph
IsReady (Run program run graphs) (generated graph) = ⊥
IsReady (Run program run graphs) (owned rules hosts graph after) = ⊥
IsReady (Run program run graphs) (divided way shares after) = ⊥
IsReady (Run program run graphs) (tried rules hosts graph) = ⊥
IsReady (Told answers) answer = IsText answer (text_of answers)

-- it is what is meant, or its fault is
abbrev pub IsMeant : Result Prepared Fault → Result Answer Fault → Type 0
IsMeant (Ok prepared) (Ok answer) = IsReady prepared answer
IsMeant (Ok prepared) (Err fault) = ⊥
IsMeant (Err fault) (Ok answer) = ⊥
IsMeant (Err fault) (Err meant) = meant ≡ fault

-- whether it is a run, and no fault
abbrev pub will_run : Result Prepared Fault → Bool
will_run (Ok prepared) = is_run prepared
will_run (Err fault) = false

-- the picks that were asked for while it was prepared: those of a trial, and none for another task
abbrev pub AsksFirst : Option Task → Result Prepared Fault → (old new : Option ℕ) → Type 0
AsksFirst (Some (task.Selfrun size number hosts rules order)) (Ok prepared) old new = AsksForTrial rules hosts (made_graph size number) old new
AsksFirst (Some (task.Selfrun size number hosts rules order)) (Err fault) old new = Unit {0}
AsksFirst (Some (task.Run program run)) outcome old new = new ≡ old
AsksFirst (Some (task.Make size number)) outcome old new = new ≡ old
AsksFirst (Some (task.Owners hosts rules)) outcome old new = new ≡ old
AsksFirst (Some (task.Proxies hosts rules way)) outcome old new = new ≡ old
AsksFirst None outcome old new = new ≡ old

-- a run that is meant went by hosts, once it was prepared
abbrev pub GoesAs : Result Answer Fault → (status : ℕ) → Option LastRun → (old new : Option ℕ) → Type 0
GoesAs (Ok (ran program run graph after)) status last old new = GoesByHosts program run graph status last old new
GoesAs (Ok (generated graph)) status last old new = Unit {0}
GoesAs (Ok (owned rules hosts graph after)) status last old new = Unit {0}
GoesAs (Ok (divided way shares after)) status last old new = Unit {0}
GoesAs (Ok (tried rules hosts graph)) status last old new = Unit {0}
GoesAs (Err fault) status last old new = Unit {0}

-- a run that is meant went by hosts, and so did a trial
abbrev pub RunsAs : Result Answer Fault → (status : ℕ) → Option LastRun → (old new : Option ℕ) → Type 0
RunsAs (Ok (ran program run graph after)) status last old new = GoesByHosts program run graph status last old new
RunsAs (Ok (generated graph)) status last old new = Unit {0}
RunsAs (Ok (owned rules hosts graph after)) status last old new = Unit {0}
RunsAs (Ok (divided way shares after)) status last old new = Unit {0}
RunsAs (Ok (tried rules hosts graph)) status last old new = status ≡ 0 → AsksForTrial rules hosts graph old new
RunsAs (Err fault) status last old new = Unit {0}
