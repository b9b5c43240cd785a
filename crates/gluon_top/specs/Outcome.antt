-- What the parts of the top call promise: that a task comes to its answer, and that the text is written.
use Rattle.std.specs.Prelude.{◌≡◌, ◌≢◌, ◌<◌, ℕ, List, Option, Some, IsErrAnd, IsOkAnd, IfErr, Result, Ok, Err, ◌⊎◌, drop}
use Rattle.io_edge.specs.Faults.{Rose}
use Rattle.io_edge.specs.Bytes.{Gains, GainsPrefix}
use Rattle.gr_reader.specs.Reach.{TakesAtMost, file_reach}
use Rattle.gr_reader.specs.declared.fault.GrFault.TheVariants as reading
use Rattle.graph_model.specs.Graph.{Graph}
use Rattle.job_text.specs.declared.fault.Fault.{Fault}
use Rattle.job_text.specs.declared.fault.Fault.TheVariants.{Words, Root, Input, Memory}
use Rattle.job_text.specs.Fault.{Cause, Meant, FailedRead, NoMemory, cause_of, fault_line, status_of}
use Rattle.program_runs.specs.Programs.{TakesRounds}
use Rattle.gluon_top.specs.Runs.{budget_in}
use Rattle.gluon_top.specs.Meaning.{Answer, ran, generated, owned, divided, tried, MeansAnswer, MeansText, Meaning, OfInput}
use Rattle.gluon_top.specs.declared.prepared.Prepared.{Prepared}
use Rattle.gluon_top.specs.Prepared.{IsReady}

-- this holds where words and bytes are the cause
abbrev pub IfMeant : Cause → Type 0 → Type 0
IfMeant Meant holds = holds
IfMeant FailedRead holds = Unit {0}
IfMeant NoMemory holds = Unit {0}

-- the fault is what is meant, and free where a read failed or memory ran out
abbrev pub Stops : {Y : Type 0} → Fault → Result Y Fault → Type 0
Stops fault meaning = IfMeant (cause_of fault) (meaning ≡ Err fault)

-- what the source has left behind a file
abbrev pub Leaves : Answer → Option (List ℕ) → Type 0
Leaves (ran program run graph after) left = left ≡ Some after
Leaves (generated graph) left = Unit {0}
Leaves (owned rules hosts graph after) left = left ≡ Some after
Leaves (divided way shares after) left = left ≡ Some after
Leaves (tried rules hosts graph) left = Unit {0}

-- What was prepared is what is meant, and what the source has left is what its file does not use; or the fault is what
-- is meant, as far as no read failed and memory sufficed.
abbrev pub Finds : Result Prepared Fault → Option (List ℕ) → Result Answer Fault → Type 0
Finds (Ok prepared) left meaning = (answer : Answer) × (meaning ≡ Ok answer) × Leaves answer left × IsReady prepared answer
Finds (Err fault) left meaning = Stops fault meaning

-- the count of a source rose where a read failed, and stayed else
abbrev pub CauseCounts : Cause → ℕ → ℕ → Type 0
CauseCounts FailedRead old new = Rose old new
CauseCounts Meant old new = new ≡ old
CauseCounts NoMemory old new = new ≡ old

-- the same of what a task came to
abbrev pub Counts : {X : Type 0} → Result X Fault → ℕ → ℕ → Type 0
Counts (Ok x) old new = new ≡ old
Counts (Err fault) old new = CauseCounts (cause_of fault) old new

module _ (meaning : Result Answer Fault) (old_faults new_faults : ℕ) (old new : Option (List ℕ)) where
  -- no write failed and memory sufficed: the status is the one that is meant, and the whole text was written
  pub record Ends (status : ℕ) : Type 0 where
    pub text : List ℕ
    pub means : MeansText meaning status text
    pub quiet : new_faults ≡ old_faults
    pub whole : Gains old new text

  -- memory ran out, which a fault says, and nothing was written
  pub record RunsOut : Type 0 where
    pub allowed : IfErr meaning (λ fault. status_of fault ≡ 4)
    pub quiet : new_faults ≡ old_faults
    pub same : new ≡ old

  -- a write failed: a front of the text was written
  pub record Breaks : Type 0 where
    pub meant_status : ℕ
    pub text : List ℕ
    pub means : MeansText meaning meant_status text
    pub memory : meant_status ≢ 4
    pub rose : Rose old_faults new_faults
    pub prefix : GainsPrefix old new text

  -- what the writing of what is meant promises
  pub record Writes (status : ℕ) : Type 0 where
    pub ends : status ≢ 4 → status ≢ 6 → Ends status
    pub memory : status ≡ 4 → RunsOut
    pub breaks : status ≡ 6 → Breaks

-- the text that words and bytes mean was written, and this is the status that they mean
abbrev pub WritesMeaning : List (List ℕ) → List ℕ → ℕ → Option (List ℕ) → Option (List ℕ) → Type 0
WritesMeaning words bytes status old new = (text : List ℕ) × Meaning words bytes status text × Gains old new text

-- the input has a fault, or the root is not a node of its graph
abbrev pub HasInputFault : Result Answer Fault → Type 0
HasInputFault meaning = IsErrAnd meaning (λ fault. status_of fault ≡ 3)

-- the words are refused, or memory ran out
abbrev pub WordsRefused : {X : Type 0} → Result X Fault → Type 0
WordsRefused outcome = (outcome ≡ Err Words) ⊎ (outcome ≡ Err Memory)

-- a run is meant whose budget does not suffice: all numbers of rounds that it takes are above it
abbrev pub GoesOn : Answer → Type 0
GoesOn (ran program run graph after) = (rounds : ℕ) → TakesRounds program graph run.way rounds → budget_in program run graph < rounds
GoesOn (generated graph) = ⊥
GoesOn (owned rules hosts graph after) = ⊥
GoesOn (divided way shares after) = ⊥
GoesOn (tried rules hosts graph) = ⊥

abbrev pub SpendsBudget : Result Answer Fault → Type 0
SpendsBudget meaning = IsOkAnd meaning GoesOn

-- refused words have their line and status, unless a write fails or memory runs out
abbrev pub RefusesWords : ℕ → Option (List ℕ) → Option (List ℕ) → Type 0
RefusesWords status old new =
    ((status ≡ 2) × Gains old new (fault_line Words)) ⊎ ((status ≡ 6) × GainsPrefix old new (fault_line Words)) ⊎ ((status ≡ 4) × (new ≡ old))

-- What the source has left of these bytes after a fault: what follows the head where the root is no node, and of a
-- file with a fault no less than what follows the section that has it.
abbrev pub LeftAfter : List ℕ → Fault → Option (List ℕ) → Type 0
LeftAfter bytes (Input fault) left = TakesAtMost (file_reach {X = Graph} (Some bytes) (Err fault)) (Some bytes) left
LeftAfter bytes (Root root nodes) left = left ≡ Some (drop 32 bytes)
LeftAfter bytes Words left = left ≡ Some bytes
LeftAfter bytes Memory left = Unit {0}

-- the same of a fault that is meant
abbrev pub LeavesAfterFault : Result Answer Fault → List ℕ → Option (List ℕ) → Type 0
LeavesAfterFault meaning bytes left = IsErrAnd meaning (λ fault. LeftAfter bytes fault left)

-- a read failed, and its line alone was written
pub record ReadsFail (old_faults new_faults : ℕ) (old new : Option (List ℕ)) : Type 0 where
  pub rose : Rose old_faults new_faults
  pub line : Gains old new (fault_line (Input reading.Read))

-- The text that a call was to write: the one that words and bytes mean, or the line of a read that failed.
abbrev pub IsToWrite : List (List ℕ) → Option (List ℕ) → ℕ → ℕ → List ℕ → Type 0
IsToWrite words left old_faults new_faults text =
    ((new_faults ≡ old_faults) × OfInput words left (λ bytes. (status : ℕ) × Meaning words bytes status text))
    ⊎ (Rose old_faults new_faults × (text ≡ fault_line (Input reading.Read)))

-- a front of that text was written
pub record WritesFront (words : List (List ℕ)) (left : Option (List ℕ)) (old_faults new_faults : ℕ)
    (old new : Option (List ℕ)) : Type 0 where
  pub text : List ℕ
  pub is_text : IsToWrite words left old_faults new_faults text
  pub front : GainsPrefix old new text

-- The task is done as it is meant, its text is written, and what its file does not use is left; or memory ran out, and
-- nothing is written.
abbrev pub Completes : Result Answer Fault → ℕ → Option (List ℕ) → Option (List ℕ) → Option (List ℕ) → Type 0
Completes (Ok answer) status left old new =
    ((text : List ℕ) × MeansAnswer answer status text × Gains old new text × Leaves answer left)
    ⊎ ((status ≡ 4) × (new ≡ old))
Completes (Err fault) status left old new = Unit {0}
