-- What the words and the bytes of the input together mean: a status and a text.
use Rattle.std.specs.Prelude.{◌≡◌, ℕ, Bool, true, false, List, [], Option, Some, None, IfSome, Result, Ok, Err, nat_lt, if◌then◌else◌}
use Rattle.graph_model.specs.Graph.{Graph}
use Rattle.graph_model.specs.declared.edge.Way.{Way}
use Rattle.graph_division.specs.Shares.{Share}
use Rattle.gr_reader.specs.declared.fault.GrFault.{GrFault}
use Rattle.gr_reader.specs.File.{head_at, rest_at, file_at}
use Rattle.gr_writer.specs.File.{file_of}
use Rattle.graph_maker.specs.MadeGraph.{made_graph}
use Rattle.command_words.specs.declared.job.RunWords.{RunWords}
use Rattle.edge_owner.specs.declared.rules.Rules.{Rules}
use Rattle.partition_build.specs.Meant.{shared}
use Rattle.partition_text.specs.Text.{partition_text}
use Rattle.program_runs.specs.declared.program.Program.{Program}
use Rattle.program_runs.specs.Programs.{root_of}
use Rattle.job_text.specs.declared.fault.Fault.{Fault}
use Rattle.job_text.specs.declared.fault.Fault.TheVariants.{Words, Root, Input}
use Rattle.gluon_top.specs.declared.task.Task.{Task}
use Rattle.gluon_top.specs.declared.task.Task.TheVariants as task
use Rattle.job_text.specs.Fault.{fault_line, status_of}
use Rattle.gluon_top.specs.Tasks.{task_of, reads_input}
use Rattle.job_text.specs.Owners.{owners_text}
use Rattle.job_text.specs.Trials.{trial_text}
use Rattle.trial_runs.specs.declared.trial.Trial.{Trial}
use Rattle.trial_runs.specs.Trials.{IsTrial}
use Rattle.gluon_top.specs.Runs.{IsRunText}

-- what a task comes to
pub data Answer : Type 0 where
  -- a run of a program on the graph of the input, behind whose file these bytes are left
  ran : (program : Program) (run : RunWords) (graph : Graph) (after : List ℕ) → Answer
  -- a made graph
  generated : (graph : Graph) → Answer
  -- who has each vertex and each edge of the graph of the input, behind whose file these bytes are left
  owned : (rules : Rules) (hosts : ℕ) (graph : Graph) (after : List ℕ) → Answer
  -- what hosts hold of the graph of the input, whose edges are followed in a way, behind whose file these bytes are left
  divided : (way : Way) (shares : List Share) (after : List ℕ) → Answer
  -- what the four programs find on a made graph, which hosts share out by rules
  tried : (rules : Rules) (hosts : ℕ) (graph : Graph) → Answer

-- a fault of the file is a fault of the call
abbrev pub of_input : {A : Type 0} → Result A GrFault → Result A Fault
of_input (Ok x) = Ok x
of_input (Err fault) = Err (Input fault)

-- the first fault ends it
infixl 10 ◌>>=◌
abbrev pub ◌>>=◌ : {A B : Type 0} → Result A Fault → (A → Result B Fault) → Result B Fault
(Ok x) >>= f = f x
(Err fault) >>= f = Err fault

-- the task that was found, else the words are refused
abbrev pub demand_task : Option Task → Result Task Fault
demand_task (Some task) = Ok task
demand_task None = Err Words

-- nothing where there is no root or the root is a node, else the fault
abbrev pub demand_node : Option ℕ → (nodes : ℕ) → Result (Unit {0}) Fault
demand_node None nodes = Ok tt
demand_node (Some root) nodes = if nat_lt root nodes then Ok tt else Err (Root root nodes)

-- The graph that the bytes have and the bytes after it, or the first fault: of the head, of the root, of
-- what follows the head.
unfoldable pub graph_of : Option ℕ → List ℕ → Result (Graph × List ℕ) Fault
graph_of root bytes = do
  head ← of_input (head_at bytes)
  _ ← demand_node root head.0.nodes
  of_input (rest_at head.0 head.1)

-- what a task comes to on these bytes, or the first fault
unfoldable pub answer_of : Task → List ℕ → Result Answer Fault
answer_of (task.Run program run) bytes = do
  file ← graph_of (root_of program) bytes
  Ok (ran program run file.0 file.1)
answer_of (task.Make size number) bytes = Ok (generated (made_graph size number))
answer_of (task.Owners hosts rules) bytes = do
  file ← of_input (file_at bytes)
  Ok (owned rules hosts file.0 file.1)
answer_of (task.Proxies hosts rules way) bytes = do
  file ← of_input (shared rules hosts (file_at bytes))
  Ok (divided way file.0 file.1)
answer_of (task.Selfrun size number hosts rules order) bytes = Ok (tried rules hosts (made_graph size number))

-- what the words and the bytes ask for, or the first fault
unfoldable pub meaning_of : List (List ℕ) → List ℕ → Result Answer Fault
meaning_of words bytes = do
  task ← demand_task (task_of words)
  answer_of task bytes

-- the text of an answer that is no run: a file with weights of four bytes, masters and owners, proxies and lists, or
-- what the four programs find
abbrev pub IsText : Answer → List ℕ → Type 0
IsText (ran program run graph after) text = ⊥
IsText (generated graph) text = text ≡ file_of 4 graph
IsText (owned rules hosts graph after) text = text ≡ owners_text rules hosts graph
IsText (divided way shares after) text = text ≡ partition_text way shares
IsText (tried rules hosts graph) text = (trial : Trial) × IsTrial graph trial × (text ≡ trial_text trial)

-- the status and the text of an answer: those of a run, and else 0 and its text
abbrev pub MeansAnswer : Answer → ℕ → List ℕ → Type 0
MeansAnswer (ran program run graph after) status text = IsRunText program run graph status text
MeansAnswer (generated graph) status text = (status ≡ 0) × IsText (generated graph) text
MeansAnswer (owned rules hosts graph after) status text = (status ≡ 0) × IsText (owned rules hosts graph after) text
MeansAnswer (divided way shares after) status text = (status ≡ 0) × IsText (divided way shares after) text
MeansAnswer (tried rules hosts graph) status text = (status ≡ 0) × IsText (tried rules hosts graph) text

-- the status and the text of an answer or of a fault
abbrev pub MeansText : Result Answer Fault → ℕ → List ℕ → Type 0
MeansText (Ok answer) status text = MeansAnswer answer status text
MeansText (Err fault) status text = (status ≡ status_of fault) × (text ≡ fault_line fault)

-- the status and the text that the words and the bytes mean
abbrev pub Meaning : List (List ℕ) → List ℕ → ℕ → List ℕ → Type 0
Meaning words bytes status text = MeansText (meaning_of words bytes) status text

-- this holds of the bytes, as far as they are told and needed
abbrev pub OfBytes : (needed : Bool) → Option (List ℕ) → (List ℕ → Type 0) → Type 0
OfBytes true left holds = IfSome left holds
OfBytes false left holds = holds []

-- this holds of the bytes of the input: of all that the source tells, and of none where the words ask for no input
abbrev pub OfInput : List (List ℕ) → Option (List ℕ) → (List ℕ → Type 0) → Type 0
OfInput words left holds = OfBytes (reads_input (task_of words)) left holds
