-- From what was prepared and what was written to what the call promises.
use Rattle.std.proofs.Common.{◌≡◌, ◌≢◌, ◌⊎◌, inl, inr, ℕ, ◌<◌, List, [], Option, None, Some, Result, Ok, Err, IfSome, IfOk, IfErr, IsOk, IsErrAnd, Bool, true, false, refl, ap, sym, ◌∙◌, arith, ◌∷◌, Contains, lit<, subst}
use Rattle.std.specs.Prelude.{◌≤◌, ◌+◌, ◌&&◌, max, nat_eq, OnOk, OnErr, is_some}
use Rattle.std.proofs.lemmas.Option.{IfSome_then}
use Rattle.std.proofs.lemmas.Bool.{cases_eq, ne_eqb}
use Rattle.std.proofs.Math.Nat.{max-le}
use Rattle.io_edge.specs.Faults.{Rose, IsQuiet}
use Rattle.io_edge.specs.Bytes.{Gains, GainsPrefix}
use Rattle.io_edge.proofs.Moves.{IsQuiet-Rose, Gains-[]}
use Rattle.gr_reader.specs.declared.fault.GrFault.TheVariants.{Ends, Version, EdgeSize, Nodes, Edges, IndexFalls, IndexEnds, Destination, Read}
use Rattle.gr_reader.specs.declared.fault.GrFault.TheVariants as reading
use Rattle.job_text.specs.declared.fault.Fault.{Fault}
use Rattle.job_text.specs.declared.fault.Fault.TheVariants.{Words, Root, Input, Memory}
use Rattle.gluon_top.specs.declared.prepared.Prepared.{Prepared}
use Rattle.gluon_top.specs.declared.task.Task.{Task}
use Rattle.gluon_top.specs.declared.task.Task.TheVariants as task
use Rattle.job_text.specs.Fault.{Cause, Meant, FailedRead, NoMemory, cause_of, fault_line, status_by, status_of}
use Rattle.gluon_top.specs.Tasks.{task_of, reads_input, runs_program}
use Rattle.graph_model.specs.Graph.{Graph, IsGraph}
use Rattle.graph_model.specs.declared.edge.Way.{Way}
use Rattle.command_words.specs.declared.job.RunWords.{RunWords}
use Rattle.program_runs.specs.declared.program.Program.{Program}
use Rattle.program_runs.specs.declared.last_run.LastRun.{LastRun}
use Rattle.run_text.specs.Text as texts
use Rattle.gluon_top.specs.declared.prepared.Prepared.TheVariants.{Run, Told as Found}
use Rattle.program_runs.specs.Programs.{TakesRounds, ProgramEnds}
use Rattle.gluon_top.specs.Runs.{status_at, budget_in}
use Rattle.gluon_top.proofs.Rounds.{goes_on_above, above_goes_on}
use Rattle.gluon_top.proofs.Asking.{went_as}
use Rattle.gluon_top.specs.Meaning.{Answer, ran, generated, owned, divided, tried, answer_of, MeansAnswer, MeansText, IsText, OfBytes, OfInput, meaning_of}
use Rattle.gluon_top.specs.declared.answers.Answers.{Answers}
use Rattle.gluon_top.specs.Answers.{text_of}
use Rattle.gluon_top.specs.Prepared.{IsReady, IsMeant, IsFree, AsksFirst, GoesAs, RunsAs, is_run, will_run}
use Rattle.gluon_top.specs.Outcome.{IfMeant, Stops, Finds, CauseCounts, Counts, LeftAfter, LeavesAfterFault, WordsRefused, RefusesWords, WritesFront, ReadsFail, SpendsBudget, GoesOn, Writes, Completes}

-- what holds of the bytes gives what follows from it
pub OfBytes-map : (needed : Bool) (left : Option (List ℕ)) (P Q : List ℕ → Type 0) → OfBytes needed left P → ((bytes : List ℕ) → P bytes → Q bytes) → OfBytes needed left Q
OfBytes-map true left P Q holds follows = IfSome_then left holds follows
OfBytes-map false left P Q holds follows = follows [] holds

-- ---- faults by their cause

-- what a fault comes to by its cause: want of memory, a read that failed, or a fault that words and bytes have
pub data Kind (old new : ℕ) (fault : Fault) : Type 0 where
  no_memory : cause_of fault ≡ NoMemory → status_of fault ≡ 4 → fault_line fault ≡ [] → new ≡ old → Kind old new fault
  read_fails : fault ≡ Input Read → Rose old new → Kind old new fault
  meant : cause_of fault ≡ Meant → (status_of fault ≡ 2) ⊎ (status_of fault ≡ 3) → new ≡ old →
      ((meaning : Result Answer Fault) → Stops fault meaning → meaning ≡ Err fault) → Kind old new fault

-- which kind a fault is
pub kind : (old new : ℕ) (fault : Fault) → CauseCounts (cause_of fault) old new → Kind old new fault
kind old new Words counts = meant refl (inl refl) counts (λ m s. s)
kind old new (Root root nodes) counts = meant refl (inr refl) counts (λ m s. s)
kind old new (Input (Ends section got)) counts = meant refl (inr refl) counts (λ m s. s)
kind old new (Input (Version version)) counts = meant refl (inr refl) counts (λ m s. s)
kind old new (Input (EdgeSize size)) counts = meant refl (inr refl) counts (λ m s. s)
kind old new (Input (Nodes nodes)) counts = meant refl (inr refl) counts (λ m s. s)
kind old new (Input (Edges edges)) counts = meant refl (inr refl) counts (λ m s. s)
kind old new (Input (IndexFalls node)) counts = meant refl (inr refl) counts (λ m s. s)
kind old new (Input (IndexEnds got want)) counts = meant refl (inr refl) counts (λ m s. s)
kind old new (Input (Destination edge dst)) counts = meant refl (inr refl) counts (λ m s. s)
kind old new (Input Read) counts = read_fails refl counts
kind old new (Input reading.Memory) counts = no_memory refl refl refl counts
kind old new Memory counts = no_memory refl refl refl counts

-- a status that is 2 or 3 is no other
neither : {n : ℕ} (other : ℕ) → (n ≡ 2) ⊎ (n ≡ 3) → other ≢ 2 → other ≢ 3 → n ≢ other
neither other (inl two) a b same = a (sym same ∙ two)
neither other (inr three) a b same = b (sym same ∙ three)

-- what is written where no text is
same_held : (old new : Option (List ℕ)) (text : List ℕ) → text ≡ [] → Gains old new text → new ≡ old
same_held old new text empty gains = rw empty at gains ∙ sym (Gains-[] old old refl)

-- ---- the statuses of answers

-- a run that ends has status 0, and one that goes on 5
status_at_known : (rounds : Option ℕ) → (status_at rounds ≡ 0) ⊎ (status_at rounds ≡ 5)
status_at_known (Some rounds) = inl refl
status_at_known None = inr refl

-- the status of an answer is 0 or 5
answer_status : (answer : Answer) (status : ℕ) (text : List ℕ) → MeansAnswer answer status text → (status ≡ 0) ⊎ (status ≡ 5)
answer_status (ran program run graph after) status text means =
    elim (status_at_known means.rounds) [
      | inl zero ↦ inl (means.status_is ∙ zero)
      | inr five ↦ inr (means.status_is ∙ five)
    ]
answer_status (generated graph) status text means = inl means.0
answer_status (owned rules hosts graph after) status text means = inl means.0
answer_status (divided way shares after) status text means = inl means.0
answer_status (tried rules hosts graph) status text means = inl means.0

-- so it is no other
answer_not : (answer : Answer) (status other : ℕ) (text : List ℕ) → MeansAnswer answer status text → other ≢ 0 → other ≢ 5 → status ≢ other
answer_not answer status other text means not0 not5 same =
    elim (answer_status answer status text means) [
      | inl zero ↦ not0 (sym same ∙ zero)
      | inr five ↦ not5 (sym same ∙ five)
    ]

-- ---- what was written of what was prepared

-- what was prepared, and what was written for each answer or fault that it may mean
pub record Came (outcome : Result Prepared Fault) (held held' : Option (List ℕ)) (fs fs' fk fk' status : ℕ) : Type 0 where
  pub answered : IfOk outcome (λ prepared. (answer : Answer) × IsReady prepared answer)
  pub counts : Counts outcome fs fs'
  pub written : (meaning : Result Answer Fault) → IsMeant outcome meaning → Writes meaning fk fk' held held' status

-- some answer or fault is meant
some_meaning : (outcome : Result Prepared Fault) → IfOk outcome (λ prepared. (answer : Answer) × IsReady prepared answer) → (meaning : Result Answer Fault) × IsMeant outcome meaning
some_meaning (Ok prepared) (answer, ready) = (Ok answer, ready)
some_meaning (Err fault) answered = (Err fault, refl)

-- no write failed where the sink's count did not rise
not_broken : (meaning : Result Answer Fault) (held held' : Option (List ℕ)) (fk fk' status : ℕ) → Writes meaning fk fk' held held' status → IsQuiet fk fk' → status ≢ 6
not_broken meaning held held' fk fk' status writes quiet six = IsQuiet-Rose fk fk' quiet (writes.breaks six).rose

-- the status and the text are what is meant
pub headline : (meaning : Result Answer Fault) (left : Option (List ℕ)) (held held' : Option (List ℕ)) (fs fs' fk fk' status : ℕ) (outcome : Result Prepared Fault) →
    Finds outcome left meaning → Came outcome held held' fs fs' fk fk' status →
    status ≢ 4 → IsQuiet fs fs' → IsQuiet fk fk' → (text : List ℕ) × MeansText meaning status text × Gains held held' text
headline meaning left held held' fs fs' fk fk' status (Ok prepared) (answer, is, leaves, ready) came memory source sink =
    let w = came.written (Ok answer) ready in
    let e = w.ends memory (not_broken (Ok answer) held held' fk fk' status w sink) in
    (e.text, rw is e.means, e.whole)
headline meaning left held held' fs fs' fk fk' status (Err fault) stops came memory source sink =
    let w = came.written (Err fault) refl in
    let e = w.ends memory (not_broken (Err fault) held held' fk fk' status w sink) in
    elim (kind fs fs' fault came.counts) [
      | no_memory cause four line same ↦ absurd (memory (e.means.0 ∙ four))
      | read_fails is rose ↦ absurd (IsQuiet-Rose fs fs' source rose)
      | meant cause refused same means ↦ (e.text, rw (means meaning stops) e.means, e.whole)
    ]

-- a task that is meant is done, unless memory ran out
pub complete : (meaning : Result Answer Fault) (left : Option (List ℕ)) (held held' : Option (List ℕ)) (fs fs' fk fk' status : ℕ) (outcome : Result Prepared Fault) →
    Finds outcome left meaning → Came outcome held held' fs fs' fk fk' status →
    IsOk meaning → IsQuiet fs fs' → IsQuiet fk fk' → Completes meaning status left held held'
complete meaning left held held' fs fs' fk fk' status (Ok prepared) (answer, is, leaves, ready) came ok source sink =
    let w = came.written (Ok answer) ready in
    elim (cases_eq status 4) [
      | inl four ↦ rw is (inr (four, (w.memory four).same))
      | inr memory ↦ let e = w.ends memory (not_broken (Ok answer) held held' fk fk' status w sink) in rw is (inl (e.text, e.means, e.whole, leaves))
    ]
complete (Err other) left held held' fs fs' fk fk' status (Err fault) stops came ok source sink = tt
complete (Ok found) left held held' fs fs' fk fk' status (Err fault) stops came ok source sink =
    let w = came.written (Err fault) refl in
    elim (cases_eq status 4) [
      | inl four ↦ inr (four, (w.memory four).same)
      | inr memory ↦
          let e = w.ends memory (not_broken (Err fault) held held' fk fk' status w sink) in
          elim (kind fs fs' fault came.counts) [
            | no_memory cause four line same ↦ absurd (memory (e.means.0 ∙ four))
            | read_fails is rose ↦ absurd (IsQuiet-Rose fs fs' source rose)
            | meant cause refused same means ↦ absurd (let wrong : Ok found ≡ Err fault = means (Ok found) stops in cc)
          ]
    ]

-- the statuses of faults
cause_known : (cause : Cause) → Contains (0 ∷ 2 ∷ 3 ∷ 4 ∷ 5 ∷ 6 ∷ 7 ∷ []) (status_by cause)
cause_known Meant = (2, lit< tt, refl)
cause_known FailedRead = (6, lit< tt, refl)
cause_known NoMemory = (3, lit< tt, refl)

fault_known : (fault : Fault) → Contains (0 ∷ 2 ∷ 3 ∷ 4 ∷ 5 ∷ 6 ∷ 7 ∷ []) (status_of fault)
fault_known Words = (1, lit< tt, refl)
fault_known (Root root nodes) = (2, lit< tt, refl)
fault_known (Input fault) = cause_known (cause_of (Input fault))
fault_known Memory = (3, lit< tt, refl)

-- the statuses that are meant
meaning_known : (meaning : Result Answer Fault) (status : ℕ) (text : List ℕ) → MeansText meaning status text → Contains (0 ∷ 2 ∷ 3 ∷ 4 ∷ 5 ∷ 6 ∷ 7 ∷ []) status
meaning_known (Ok answer) status text means =
    let all : List ℕ = 0 ∷ 2 ∷ 3 ∷ 4 ∷ 5 ∷ 6 ∷ 7 ∷ [] in
    elim (answer_status answer status text means) [
      | inl zero ↦ subst (λ (n : ℕ). Contains all n) (sym zero) (0, lit< tt, refl)
      | inr five ↦ subst (λ (n : ℕ). Contains all n) (sym five) (4, lit< tt, refl)
    ]
meaning_known (Err fault) status text means =
    subst (λ (n : ℕ). Contains (0 ∷ 2 ∷ 3 ∷ 4 ∷ 5 ∷ 6 ∷ 7 ∷ []) n) (sym means.0) (fault_known fault)

-- no other status comes
pub known : (held held' : Option (List ℕ)) (fs fs' fk fk' status : ℕ) (outcome : Result Prepared Fault) → Came outcome held held' fs fs' fk fk' status → Contains (0 ∷ 2 ∷ 3 ∷ 4 ∷ 5 ∷ 6 ∷ 7 ∷ []) status
known held held' fs fs' fk fk' status outcome came =
    let all : List ℕ = 0 ∷ 2 ∷ 3 ∷ 4 ∷ 5 ∷ 6 ∷ 7 ∷ [] in
    let some = some_meaning outcome came.answered in
    let w = came.written some.0 some.1 in
    elim (cases_eq status 6) [
      | inl six ↦ subst (λ (n : ℕ). Contains all n) (sym six) (5, lit< tt, refl)
      | inr not6 ↦ elim (cases_eq status 4) [
        | inl four ↦ subst (λ (n : ℕ). Contains all n) (sym four) (3, lit< tt, refl)
        | inr not4 ↦ let e = w.ends not4 not6 in meaning_known some.0 status e.text e.means
      ]
    ]

-- status 2 is that of refused words alone
cause_not_two : (cause : Cause) → status_by cause ≢ 2
cause_not_two Meant two = absurd (omega (arith, two))
cause_not_two FailedRead two = absurd (omega (arith, two))
cause_not_two NoMemory two = absurd (omega (arith, two))

two_words : (fault : Fault) → status_of fault ≡ 2 → fault ≡ Words
two_words Words two = refl
two_words (Root root nodes) two = absurd (omega (arith, two))
two_words (Input fault) two = absurd (cause_not_two (cause_of (Input fault)) two)
two_words Memory two = absurd (omega (arith, two))

-- 2 comes only where the words are refused
pub words_only : (task : Option Task) (held held' : Option (List ℕ)) (fs fs' fk fk' status : ℕ) (outcome : Result Prepared Fault) →
    (outcome ≡ Err Words → task ≡ None) → Came outcome held held' fs fs' fk fk' status → status ≡ 2 → task ≡ None
words_only task held held' fs fs' fk fk' status (Ok prepared) words came two =
    let some = some_meaning (Ok prepared) came.answered in
    let e = (came.written (Ok came.answered.0) came.answered.1).ends (λ four. absurd (omega (arith, four, two))) (λ six. absurd (omega (arith, six, two))) in
    absurd (answer_not came.answered.0 status 2 e.text e.means (λ e. omega (arith, e)) (λ e. omega (arith, e)) two)
words_only task held held' fs fs' fk fk' status (Err fault) words came two =
    let e = (came.written (Err fault) refl).ends (λ four. absurd (omega (arith, four, two))) (λ six. absurd (omega (arith, six, two))) in
    words (ap Err (two_words fault (sym e.means.0 ∙ two)))

-- 2 comes where they are, unless a write fails or memory runs out
pub words_refused : (held held' : Option (List ℕ)) (fs fs' fk fk' status : ℕ) (outcome : Result Prepared Fault) →
    WordsRefused outcome → Came outcome held held' fs fs' fk fk' status → RefusesWords status held held'
words_refused held held' fs fs' fk fk' status outcome (inl is) came =
    let w = came.written (Err Words) (rw is refl) in
    elim (cases_eq status 6) [
      | inl six ↦ let b = w.breaks six in inr (inl (six, rw b.means.1 at b.prefix))
      | inr not6 ↦ elim (cases_eq status 4) [
        | inl four ↦ inr (inr (four, (w.memory four).same))
        | inr not4 ↦ let e = w.ends not4 not6 in inl (e.means.0, rw e.means.1 at e.whole)
      ]
    ]
words_refused held held' fs fs' fk fk' status outcome (inr is) came =
    let w = came.written (Err Memory) (rw is refl) in
    elim (cases_eq status 6) [
      | inl six ↦ let b = w.breaks six in absurd (b.memory b.means.0)
      | inr not6 ↦ elim (cases_eq status 4) [
        | inl four ↦ inr (inr (four, (w.memory four).same))
        | inr not4 ↦ let e = w.ends not4 not6 in absurd (not4 e.means.0)
      ]
    ]

-- 3 comes only where the input has a fault
pub input_only : (meaning : Result Answer Fault) (left : Option (List ℕ)) (held held' : Option (List ℕ)) (fs fs' fk fk' status : ℕ) (outcome : Result Prepared Fault) →
    Finds outcome left meaning → Came outcome held held' fs fs' fk fk' status →
    status ≡ 3 → IsErrAnd meaning (λ fault. status_of fault ≡ 3)
input_only meaning left held held' fs fs' fk fk' status (Ok prepared) (answer, is, leaves, ready) came three =
    let e = (came.written (Ok answer) ready).ends (λ four. absurd (omega (arith, four, three))) (λ six. absurd (omega (arith, six, three))) in
    absurd (answer_not answer status 3 e.text e.means (λ e. omega (arith, e)) (λ e. omega (arith, e)) three)
input_only meaning left held held' fs fs' fk fk' status (Err fault) stops came three =
    let e = (came.written (Err fault) refl).ends (λ four. absurd (omega (arith, four, three))) (λ six. absurd (omega (arith, six, three))) in
    let is_three : status_of fault ≡ 3 = sym e.means.0 ∙ three in
    elim (kind fs fs' fault came.counts) [
      | no_memory cause four line same ↦ absurd (omega (arith, four, is_three))
      | read_fails is rose ↦ absurd (let seven : 7 ≡ 3 = rw is at is_three in omega (arith, seven))
      | meant cause refused same means ↦ rw (means meaning stops) is_three
    ]

-- 3 comes where it has, if no read or write fails and memory suffices
pub input_fault : (meaning : Result Answer Fault) (left : Option (List ℕ)) (held held' : Option (List ℕ)) (fs fs' fk fk' status : ℕ) (outcome : Result Prepared Fault) →
    Finds outcome left meaning → Came outcome held held' fs fs' fk fk' status →
    IsErrAnd meaning (λ fault. status_of fault ≡ 3) → status ≢ 4 → status ≢ 6 → status ≢ 7 → status ≡ 3
input_fault meaning left held held' fs fs' fk fk' status (Ok prepared) (answer, is, leaves, ready) came faulty not4 not6 not7 = absurd (rw is at faulty)
input_fault meaning left held held' fs fs' fk fk' status (Err fault) stops came faulty not4 not6 not7 =
    let e = (came.written (Err fault) refl).ends not4 not6 in
    elim (kind fs fs' fault came.counts) [
      | no_memory cause four line same ↦ absurd (not4 (e.means.0 ∙ four))
      | read_fails is rose ↦ absurd (not7 (rw is at e.means.0))
      | meant cause refused same means ↦ e.means.0 ∙ (rw (means meaning stops) at faulty)
    ]

-- 5 is no status of a fault
fault_not_five : (fault : Fault) → status_of fault ≢ 5
fault_not_five Words five = absurd (omega (arith, five))
fault_not_five (Root root nodes) five = absurd (omega (arith, five))
fault_not_five (Input fault) five = cause_not_five (cause_of (Input fault)) five
  where
    cause_not_five : (cause : Cause) → status_by cause ≢ 5
    cause_not_five Meant five = absurd (omega (arith, five))
    cause_not_five FailedRead five = absurd (omega (arith, five))
    cause_not_five NoMemory five = absurd (omega (arith, five))
fault_not_five Memory five = absurd (omega (arith, five))

-- nor is 0
fault_not_zero : (fault : Fault) → status_of fault ≢ 0
fault_not_zero Words zero = absurd (omega (arith, zero))
fault_not_zero (Root root nodes) zero = absurd (omega (arith, zero))
fault_not_zero (Input fault) zero = cause_not_zero (cause_of (Input fault)) zero
  where
    cause_not_zero : (cause : Cause) → status_by cause ≢ 0
    cause_not_zero Meant zero = absurd (omega (arith, zero))
    cause_not_zero FailedRead zero = absurd (omega (arith, zero))
    cause_not_zero NoMemory zero = absurd (omega (arith, zero))
fault_not_zero Memory zero = absurd (omega (arith, zero))

-- so it is of an answer
goes_on : (answer : Answer) (status : ℕ) (text : List ℕ) → MeansAnswer answer status text → status ≡ 5 → GoesOn answer
goes_on (ran program run graph after) status text means five = goes_on_above program run graph means five
goes_on (generated graph) status text means five = absurd (let zero = means.0 in omega (arith, five))
goes_on (owned rules hosts graph after) status text means five = absurd (let zero = means.0 in omega (arith, five))
goes_on (divided way shares after) status text means five = absurd (let zero = means.0 in omega (arith, five))
goes_on (tried rules hosts graph) status text means five = absurd (let zero = means.0 in omega (arith, five))

is_spent : (answer : Answer) (status : ℕ) (text : List ℕ) → MeansAnswer answer status text → GoesOn answer → status ≡ 5
is_spent (ran program run graph after) status text means above = above_goes_on program run graph means above
is_spent (generated graph) status text means above = absurd above
is_spent (owned rules hosts graph after) status text means above = absurd above
is_spent (divided way shares after) status text means above = absurd above
is_spent (tried rules hosts graph) status text means above = absurd above

-- every program ends
abbrev pub EachEnds : Type 0
EachEnds = (program : Program) (graph : Graph) (way : Way) → IsGraph graph → ProgramEnds program graph way

-- so it ends within one round more than there are nodes
ends_within : EachEnds → (program : Program) (run : RunWords) (graph : Graph) → IsGraph graph → run.rounds ≡ None → ((count : ℕ) → TakesRounds program graph run.way count → budget_in program run graph < count) → ⊥
ends_within each program run graph is_graph free above =
    let end = each program graph run.way is_graph in
    let over = above end.0 end.2 in
    let max_fits : max 1 graph.nodes ≤ graph.nodes + 1 = max-le (omega arith) (omega arith) in
    let budget : budget_in program run graph ≡ graph.nodes + 1 = ap (λ (rounds : Option ℕ). texts.budget_of rounds graph.nodes) free in
    omega (arith, end.1, over, budget, max_fits)

-- so a run without a number of rounds does not go on
never_goes_on : EachEnds → (prepared : Prepared) (answer : Answer) → IsFree prepared → IsReady prepared answer → GoesOn answer → ⊥
never_goes_on each (Run program run graphs) (ran other words graph after) free ready above =
    ends_within each other words graph ready.is_graph (ap (λ (w : RunWords). w.rounds) (sym ready.same_words) ∙ free) above
never_goes_on each (Run program run graphs) (generated graph) free ready above = above
never_goes_on each (Run program run graphs) (owned rules hosts graph after) free ready above = above
never_goes_on each (Run program run graphs) (divided way shares after) free ready above = above
never_goes_on each (Run program run graphs) (tried rules hosts graph) free ready above = above
never_goes_on each (Found answers) (ran other words graph after) free ready above = ready
never_goes_on each (Found answers) (generated graph) free ready above = above
never_goes_on each (Found answers) (owned rules hosts graph after) free ready above = above
never_goes_on each (Found answers) (divided way shares after) free ready above = above
never_goes_on each (Found answers) (tried rules hosts graph) free ready above = above

-- 5 comes only where the graph calls for more rounds than a run may have
pub spent_only : (meaning : Result Answer Fault) (left : Option (List ℕ)) (held held' : Option (List ℕ)) (fs fs' fk fk' status : ℕ) (outcome : Result Prepared Fault) →
    Finds outcome left meaning → Came outcome held held' fs fs' fk fk' status →
    status ≡ 5 → SpendsBudget meaning
spent_only meaning left held held' fs fs' fk fk' status (Ok prepared) (answer, is, leaves, ready) came five =
    let e = (came.written (Ok answer) ready).ends (λ four. absurd (omega (arith, four, five))) (λ six. absurd (omega (arith, six, five))) in
    rw is (goes_on answer status e.text e.means five)
spent_only meaning left held held' fs fs' fk fk' status (Err fault) stops came five =
    let e = (came.written (Err fault) refl).ends (λ four. absurd (omega (arith, four, five))) (λ six. absurd (omega (arith, six, five))) in
    absurd (fault_not_five fault (sym e.means.0 ∙ five))

-- 5 comes where they do, if no read or write fails and memory suffices
pub spent : (meaning : Result Answer Fault) (left : Option (List ℕ)) (held held' : Option (List ℕ)) (fs fs' fk fk' status : ℕ) (outcome : Result Prepared Fault) →
    Finds outcome left meaning → Came outcome held held' fs fs' fk fk' status →
    SpendsBudget meaning → status ≢ 4 → status ≢ 6 → status ≢ 7 → status ≡ 5
spent meaning left held held' fs fs' fk fk' status (Ok prepared) (answer, is, leaves, ready) came spends not4 not6 not7 =
    let e = (came.written (Ok answer) ready).ends not4 not6 in
    is_spent answer status e.text e.means (rw is at spends)
spent meaning left held held' fs fs' fk fk' status (Err fault) stops came spends not4 not6 not7 =
    let e = (came.written (Err fault) refl).ends not4 not6 in
    elim (kind fs fs' fault came.counts) [
      | no_memory cause four line same ↦ absurd (not4 (e.means.0 ∙ four))
      | read_fails is rose ↦ absurd (not7 (rw is at e.means.0))
      | meant cause refused same means ↦ absurd (rw (means meaning stops) at spends)
    ]

-- a run that is given no number of rounds comes to its end
pub free : EachEnds → (held held' : Option (List ℕ)) (fs fs' fk fk' status : ℕ) (outcome : Result Prepared Fault) →
    IfOk outcome IsFree → Came outcome held held' fs fs' fk fk' status → status ≢ 5
free each held held' fs fs' fk fk' status (Ok prepared) given came five =
    let e = (came.written (Ok came.answered.0) came.answered.1).ends (λ four. absurd (omega (arith, four, five))) (λ six. absurd (omega (arith, six, five))) in
    never_goes_on each prepared came.answered.0 given came.answered.1 (goes_on came.answered.0 status e.text e.means five)
free each held held' fs fs' fk fk' status (Err fault) given came five =
    let e = (came.written (Err fault) refl).ends (λ four. absurd (omega (arith, four, five))) (λ six. absurd (omega (arith, six, five))) in
    absurd (fault_not_five fault (sym e.means.0 ∙ five))

-- where memory ran out, nothing was written
pub memory_held : (held held' : Option (List ℕ)) (fs fs' fk fk' status : ℕ) (outcome : Result Prepared Fault) → Came outcome held held' fs fs' fk fk' status → status ≡ 4 → held' ≡ held
memory_held held held' fs fs' fk fk' status outcome came four =
    let some = some_meaning outcome came.answered in
    ((came.written some.0 some.1).memory four).same

-- 6 comes only where a write failed
pub write_rose : (held held' : Option (List ℕ)) (fs fs' fk fk' status : ℕ) (outcome : Result Prepared Fault) → Came outcome held held' fs fs' fk fk' status → status ≡ 6 → Rose fk fk'
write_rose held held' fs fs' fk fk' status outcome came six =
    let some = some_meaning outcome came.answered in
    ((came.written some.0 some.1).breaks six).rose

-- and where one failed
pub write_quiet : (held held' : Option (List ℕ)) (fs fs' fk fk' status : ℕ) (outcome : Result Prepared Fault) → Came outcome held held' fs fs' fk fk' status → status ≢ 6 → fk' ≡ fk
write_quiet held held' fs fs' fk fk' status outcome came not6 =
    let some = some_meaning outcome came.answered in
    let w = came.written some.0 some.1 in
    elim (cases_eq status 4) [
      | inl four ↦ (w.memory four).quiet
      | inr not4 ↦ (w.ends not4 not6).quiet
    ]

-- the answer that is meant, as far as the bytes tell it
told : (prepared : Prepared) (left' : Option (List ℕ)) (meaning : List ℕ → Result Answer Fault) (needed : Bool) (left : Option (List ℕ)) →
    OfBytes needed left (λ bytes. Finds (Ok prepared) left' (meaning bytes)) → (answer : Answer) × IsReady prepared answer → (answer : Answer) × IsReady prepared answer × OfBytes needed left (λ bytes. meaning bytes ≡ Ok answer)
told prepared left' meaning true None finds (answer, ready) = (answer, ready, tt)
told prepared left' meaning true (Some bytes) (answer, is, leaves, ready) some = (answer, ready, is)
told prepared left' meaning false left (answer, is, leaves, ready) some = (answer, ready, is)

-- where a write failed, a front of the text was written
pub front : (words : List (List ℕ)) (left left' : Option (List ℕ)) (held held' : Option (List ℕ)) (fs fs' fk fk' status : ℕ) (outcome : Result Prepared Fault) →
    OfInput words left (λ bytes. Finds outcome left' (meaning_of words bytes)) → Came outcome held held' fs fs' fk fk' status →
    status ≡ 6 → WritesFront words left fs fs' held held'
front words left left' held held' fs fs' fk fk' status (Ok prepared) finds came six =
    let t = told prepared left' (meaning_of words) (reads_input (task_of words)) left finds came.answered in
    let b = (came.written (Ok t.0) t.1).breaks six in
    record {
      text = b.text;
      is_text = inl (came.counts, OfBytes-map (reads_input (task_of words)) left _ _ t.2 (λ bytes is. (b.meant_status, rw is b.means)));
      front = b.prefix;
    }
front words left left' held held' fs fs' fk fk' status (Err fault) stops came six =
    let b = (came.written (Err fault) refl).breaks six in
    elim (kind fs fs' fault came.counts) [
      | no_memory cause four line same ↦ absurd (b.memory (b.means.0 ∙ four))
      | read_fails is rose ↦ record { text = b.text; is_text = inr (rose, b.means.1 ∙ ap fault_line is); front = b.prefix }
      | meant cause refused same means ↦ record {
        text = b.text;
        is_text = inl (same, OfBytes-map (reads_input (task_of words)) left _ _ stops (λ bytes stop. (b.meant_status, rw (means (meaning_of words bytes) stop) b.means)));
        front = b.prefix;
      }
    ]

-- 7 comes only where a read failed
pub read_only : (held held' : Option (List ℕ)) (fs fs' fk fk' status : ℕ) (outcome : Result Prepared Fault) → Came outcome held held' fs fs' fk fk' status → status ≡ 7 → ReadsFail fs fs' held held'
read_only held held' fs fs' fk fk' status (Ok prepared) came seven =
    let e = (came.written (Ok came.answered.0) came.answered.1).ends (λ four. absurd (omega (arith, four, seven))) (λ six. absurd (omega (arith, six, seven))) in
    absurd (answer_not came.answered.0 status 7 e.text e.means (λ e. omega (arith, e)) (λ e. omega (arith, e)) seven)
read_only held held' fs fs' fk fk' status (Err fault) came is7 =
    let e = (came.written (Err fault) refl).ends (λ four. absurd (omega (arith, four, is7))) (λ six. absurd (omega (arith, six, is7))) in
    elim (kind fs fs' fault came.counts) [
      | no_memory cause four line same ↦ absurd (let is4 = e.means.0 in omega (arith, is4, four, is7))
      | read_fails is rose ↦ record { rose = rose; line = rw (e.means.1 ∙ ap fault_line is) at e.whole }
      | meant cause refused same means ↦ absurd (neither 7 refused (λ e. omega (arith, e)) (λ e. omega (arith, e)) (sym e.means.0 ∙ is7))
    ]

-- 7 comes where one failed, unless a write fails
pub read_quiet : (held held' : Option (List ℕ)) (fs fs' fk fk' status : ℕ) (outcome : Result Prepared Fault) → Came outcome held held' fs fs' fk fk' status → status ≢ 6 → status ≢ 7 → fs' ≡ fs
read_quiet held held' fs fs' fk fk' status (Ok prepared) came not6 not7 = came.counts
read_quiet held held' fs fs' fk fk' status (Err fault) came not6 not7 =
    let w = came.written (Err fault) refl in
    elim (kind fs fs' fault came.counts) [
      | no_memory cause four line same ↦ same
      | read_fails is rose ↦ elim (cases_eq status 4) [
        | inl four ↦ absurd (let seven : 7 ≡ 4 = rw is at ((w.memory four).allowed) in omega (arith, seven))
        | inr not4 ↦ absurd (not7 (rw is at (w.ends not4 not6).means.0))
      ]
      | meant cause refused same means ↦ same
    ]

-- after 3, what follows the section with the fault is left
pub taken : (meaning : Result Answer Fault) (bytes : List ℕ) (left' : Option (List ℕ)) (held held' : Option (List ℕ)) (fs fs' fk fk' status : ℕ) (outcome : Result Prepared Fault) →
    Finds outcome left' meaning → Came outcome held held' fs fs' fk fk' status →
    IfErr outcome (λ fault. IfMeant (cause_of fault) (LeftAfter bytes fault left')) → status ≡ 3 → LeavesAfterFault meaning bytes left'
taken meaning bytes left' held held' fs fs' fk fk' status (Ok prepared) (answer, is, leaves, ready) came after three =
    let e = (came.written (Ok answer) ready).ends (λ four. absurd (omega (arith, four, three))) (λ six. absurd (omega (arith, six, three))) in
    absurd (answer_not answer status 3 e.text e.means (λ e. omega (arith, e)) (λ e. omega (arith, e)) three)
taken meaning bytes left' held held' fs fs' fk fk' status (Err fault) stops came after three =
    let e = (came.written (Err fault) refl).ends (λ four. absurd (omega (arith, four, three))) (λ six. absurd (omega (arith, six, three))) in
    let is_three : status_of fault ≡ 3 = sym e.means.0 ∙ three in
    elim (kind fs fs' fault came.counts) [
      | no_memory cause four line same ↦ absurd (omega (arith, four, is_three))
      | read_fails is rose ↦ absurd (let seven : 7 ≡ 3 = rw is at is_three in omega (arith, seven))
      | meant cause refused same means ↦ rw (means meaning stops) (rw cause at after)
    ]

-- the input has no fault where none is asked for
no_input_fault : (words : List (List ℕ)) (asked : Option Task) → task_of words ≡ asked → reads_input asked ≡ false → IsErrAnd (meaning_of words []) (λ fault. status_of fault ≡ 3) → ⊥
unfolding meaning_of answer_of
no_input_fault words None is none faulty = let three : 2 ≡ 3 = rw is at faulty in absurd (omega (arith, three))
no_input_fault words (Some (task.Run program run)) is none faulty = cc
no_input_fault words (Some (task.Make size number)) is none faulty = absurd (rw is at faulty)
no_input_fault words (Some (task.Owners hosts rules)) is none faulty = cc
no_input_fault words (Some (task.Proxies hosts rules way)) is none faulty = cc
no_input_fault words (Some (task.Selfrun size number hosts rules order)) is none faulty = absurd (rw is at faulty)

-- the same of the input, as far as words ask for it and it is told
pub taken_of_input : (words : List (List ℕ)) (left left' : Option (List ℕ)) (held held' : Option (List ℕ)) (fs fs' fk fk' status : ℕ) (outcome : Result Prepared Fault) →
    OfInput words left (λ bytes. Finds outcome left' (meaning_of words bytes)) → Came outcome held held' fs fs' fk fk' status →
    IfErr outcome (λ fault. IfMeant (cause_of fault) (IfSome left (λ bytes. LeftAfter bytes fault left'))) → status ≡ 3 →
    OfInput words left (λ bytes. LeavesAfterFault (meaning_of words bytes) bytes left')
taken_of_input words left left' held held' fs fs' fk fk' status outcome finds came leaves three = asked (reads_input (task_of words)) refl left finds leaves
  where
    asked : (needed : Bool) → reads_input (task_of words) ≡ needed → (left : Option (List ℕ)) → OfBytes needed left (λ bytes. Finds outcome left' (meaning_of words bytes)) →
        IfErr outcome (λ fault. IfMeant (cause_of fault) (IfSome left (λ bytes. LeftAfter bytes fault left'))) → OfBytes needed left (λ bytes. LeavesAfterFault (meaning_of words bytes) bytes left')
    asked true is None finds leaves = tt
    asked true is (Some bytes) finds leaves = taken (meaning_of words bytes) bytes left' held held' fs fs' fk fk' status outcome finds came leaves three
    asked false is left finds leaves =
        absurd (no_input_fault words (task_of words) refl is (input_only (meaning_of words []) left' held held' fs fs' fk fk' status outcome finds came three))

-- ---- what is no run

-- its status is 0
means_done : (answer : Answer) (text : List ℕ) → IsText answer text → MeansAnswer answer 0 text
means_done (ran program run graph after) text is = absurd is
means_done (generated graph) text is = (refl, is)
means_done (owned rules hosts graph after) text is = (refl, is)
means_done (divided way shares after) text is = (refl, is)
means_done (tried rules hosts graph) text is = (refl, is)

-- its text was written, or a front of it where a write failed
pub told_written : {T E : Type 0} (r : Result T E) (answers : Answers) (answer : Answer) {held held' : Option (List ℕ)} {fk fk' status : ℕ} → IsText answer (text_of answers)
    → OnOk r (Gains held held' (text_of answers)) → OnOk r (fk' ≡ fk) → OnErr r (Rose fk fk') → OnErr r (GainsPrefix held held' (text_of answers)) → OnOk r (status ≡ 0) → OnErr r (status ≡ 6)
    → Writes (Ok answer) fk fk' held held' status
told_written (Ok x) answers answer is whole quiet rose prefix zero six = record {
  ends = λ not4 not6. record { text = text_of answers; means = rw zero (means_done answer (text_of answers) is); quiet = quiet; whole = whole };
  memory = λ four. absurd (omega (arith, zero, four));
  breaks = λ broken. absurd (omega (arith, zero, broken));
}
told_written (Err e) answers answer is whole quiet rose prefix zero six = record {
  ends = λ not4 not6. absurd (not6 six);
  memory = λ four. absurd (omega (arith, six, four));
  breaks = λ broken. record { meant_status = 0; text = text_of answers; means = means_done answer (text_of answers) is; memory = λ four. omega (arith, four); rose = rose; prefix = prefix };
}

-- ---- hosts and picks

-- what a fault that was met ends with is no run that is done or spent
not_run : (meaning : Result Answer Fault) (status : ℕ) (last : Option LastRun) (old new : Option ℕ) → status ≢ 0 → status ≢ 5 → RunsAs meaning status last old new
not_run (Ok (ran program run graph after)) status last old new not0 not5 = record { done = λ zero. absurd (not0 zero); spent = λ five. absurd (not5 five) }
not_run (Ok (generated graph)) status last old new not0 not5 = tt
not_run (Ok (owned rules hosts graph after)) status last old new not0 not5 = tt
not_run (Ok (divided way shares after)) status last old new not0 not5 = tt
not_run (Ok (tried rules hosts graph)) status last old new not0 not5 = λ zero. absurd (not0 zero)
not_run (Err fault) status last old new not0 not5 = tt

-- a fault does not end with 0 or 5
pub fault_ends : (held held' : Option (List ℕ)) (fs fs' fk fk' status : ℕ) (fault : Fault) → Came (Err fault) held held' fs fs' fk fk' status → (status ≢ 0) × (status ≢ 5)
fault_ends held held' fs fs' fk fk' status fault came =
    let w = came.written (Err fault) refl in (
      λ zero. fault_not_zero fault (let e = w.ends (λ four. absurd (omega (arith, four, zero))) (λ six. absurd (omega (arith, six, zero))) in sym e.means.0 ∙ zero),
      λ five. fault_not_five fault (let e = w.ends (λ four. absurd (omega (arith, four, five))) (λ six. absurd (omega (arith, six, five))) in sym e.means.0 ∙ five),
    )

-- a run that is meant goes by hosts, and so does a trial
pub runs_as : (words : List (List ℕ)) (bytes : List ℕ) (left : Option (List ℕ)) (held held' : Option (List ℕ)) (fs fs' fk fk' status : ℕ) (outcome : Result Prepared Fault) (last : Option LastRun) (old mid new : Option ℕ) →
    Finds outcome left (meaning_of words bytes) → Came outcome held held' fs fs' fk fk' status →
    AsksFirst (task_of words) outcome old mid → IfOk outcome (λ prepared. is_run prepared ≡ runs_program (task_of words)) → (will_run outcome ≡ false → new ≡ mid) →
    ((meant : Result Answer Fault) → IsMeant outcome meant → GoesAs meant status last mid new) → RunsAs (meaning_of words bytes) status last old new
runs_as words bytes left held held' fs fs' fk fk' status (Ok prepared) last old mid new (answer, is, leaves, ready) came first kind still hosts =
    rw is (went_as words bytes (task_of words) refl prepared answer status last old mid new is first kind still (hosts (Ok answer) ready))
runs_as words bytes left held held' fs fs' fk fk' status (Err fault) last old mid new stops came first kind still hosts =
    let other = fault_ends held held' fs fs' fk fk' status fault came in not_run (meaning_of words bytes) status last old new other.0 other.1

-- whether a cluster is handed back
pub last_comes : (held held' : Option (List ℕ)) (fs fs' fk fk' status : ℕ) (outcome : Result Prepared Fault) (last : Option LastRun) (runs : Bool) →
    IfOk outcome (λ prepared. is_run prepared ≡ runs) → Came outcome held held' fs fs' fk fk' status →
    is_some last ≡ (nat_eq status 0 && will_run outcome) → is_some last ≡ (nat_eq status 0 && runs)
last_comes held held' fs fs' fk fk' status (Ok prepared) last runs kind came is = rw (← kind) is
last_comes held held' fs fs' fk fk' status (Err fault) last runs kind came is =
    let not0 = (fault_ends held held' fs fs' fk fk' status fault came).0 in
    let none : nat_eq status 0 ≡ false = ne_eqb status 0 not0 in
    rw none (rw none at is)

-- no run is prepared for a task that is none
pub no_run : (outcome : Result Prepared Fault) (runs : Bool) → IfOk outcome (λ prepared. is_run prepared ≡ runs) → runs ≡ false → will_run outcome ≡ false
no_run (Ok prepared) runs kind none = kind ∙ none
no_run (Err fault) runs kind none = refl

-- a run without a number of rounds was prepared for a task without one
pub free_of : (outcome : Result Prepared Fault) {none : Type 0} → IfOk outcome (λ prepared. none → IsFree prepared) → none → IfOk outcome IsFree
free_of (Ok prepared) free given = free given
free_of (Err fault) free given = tt

-- memory ran out only where the status says so
pub not_memory : (held held' : Option (List ℕ)) (fs fs' fk fk' status : ℕ) (outcome : Result Prepared Fault) → Came outcome held held' fs fs' fk fk' status → status ≢ 4 → outcome ≢ Err Memory
not_memory held held' fs fs' fk fk' status outcome came not4 is =
    let w = came.written (Err Memory) (rw is refl) in
    elim (cases_eq status 6) [
      | inl six ↦ let b = w.breaks six in b.memory b.means.0
      | inr not6 ↦ not4 (w.ends not4 not6).means.0
    ]
