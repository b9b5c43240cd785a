-- The picks that were asked for while a task was prepared, and those after that.
use Rattle.std.proofs.Common.{◌≡◌, ℕ, List, Option, None, Some, Result, Ok, Err, false, refl, sym, subst}
use Rattle.gr_reader.specs.File.{file_at}
use Rattle.graph_maker.specs.MadeGraph.{made_graph}
use Rattle.partition_build.specs.Meant.{shared}
use Rattle.program_runs.specs.declared.last_run.LastRun.{LastRun}
use Rattle.program_runs.specs.Programs.{root_of}
use Rattle.trial_runs.specs.Trials.{AsksForTrial}
use Rattle.job_text.specs.declared.fault.Fault.{Fault}
use Rattle.job_text.specs.declared.fault.Fault.TheVariants.{Words}
use Rattle.gluon_top.specs.declared.prepared.Prepared.{Prepared}
use Rattle.gluon_top.specs.declared.task.Task.{Task}
use Rattle.gluon_top.specs.declared.task.Task.TheVariants as task
use Rattle.gluon_top.specs.Tasks.{task_of, runs_program, has_order}
use Rattle.gluon_top.specs.Runs.{GoesByHosts}
use Rattle.gluon_top.specs.Meaning.{◌>>=◌, Answer, ran, generated, owned, divided, tried, of_input, graph_of, answer_of, meaning_of}
use Rattle.gluon_top.specs.Prepared.{AsksFirst, GoesAs, RunsAs, is_run}

-- no run is asked for where no order is
pub no_program : (asked : Option Task) → has_order asked ≡ false → runs_program asked ≡ false
no_program None none = refl
no_program (Some (task.Run program run)) none = none
no_program (Some (task.Make size number)) none = refl
no_program (Some (task.Owners hosts rules)) none = refl
no_program (Some (task.Proxies hosts rules way)) none = refl
no_program (Some (task.Selfrun size number hosts rules order)) none = refl

-- and no picks are asked for
pub asks_none : (asked : Option Task) (outcome : Result Prepared Fault) (old new : Option ℕ) → has_order asked ≡ false → AsksFirst asked outcome old new → new ≡ old
asks_none None outcome old new none first = first
asks_none (Some (task.Run program run)) outcome old new none first = first
asks_none (Some (task.Make size number)) outcome old new none first = first
asks_none (Some (task.Owners hosts rules)) outcome old new none first = first
asks_none (Some (task.Proxies hosts rules way)) outcome old new none first = first
asks_none (Some (task.Selfrun size number hosts rules order)) outcome old new none first = absurd (let wrong : has_order (Some (task.Selfrun size number hosts rules order)) ≡ false = none in cc)

-- an answer that is no trial
abbrev IsNoTrial : Answer → Type 0
IsNoTrial (ran program run graph after) = Unit {0}
IsNoTrial (generated graph) = Unit {0}
IsNoTrial (owned rules hosts graph after) = Unit {0}
IsNoTrial (divided way shares after) = Unit {0}
IsNoTrial (tried rules hosts graph) = ⊥

-- so it is where each answer is none
no_trial : {A : Type 0} (r : Result A Fault) (f : A → Answer) → ((x : A) → IsNoTrial (f x)) → (answer : Answer) → (r >>= λ x. Ok (f x)) ≡ Ok answer → IsNoTrial answer
no_trial (Ok x) f each answer is = let same : f x ≡ answer = cc in subst IsNoTrial same (each x)
no_trial (Err fault) f each answer is = absurd (let wrong : Err fault ≡ Ok answer = is in cc)

-- its run goes as it does once it was prepared
stays : (answer : Answer) (status : ℕ) (last : Option LastRun) (old mid new : Option ℕ) → IsNoTrial answer → mid ≡ old → GoesAs (Ok answer) status last mid new → RunsAs (Ok answer) status last old new
stays (ran program run graph after) status last old mid new apart same goes = subst (λ (asked : Option ℕ). GoesByHosts program run graph status last asked new) same goes
stays (generated graph) status last old mid new apart same goes = tt
stays (owned rules hosts graph after) status last old mid new apart same goes = tt
stays (divided way shares after) status last old mid new apart same goes = tt
stays (tried rules hosts graph) status last old mid new apart same goes = absurd apart

-- what is meant goes by hosts: a run does once it was prepared, and a trial before
pub went_as : (words : List (List ℕ)) (bytes : List ℕ) (asked : Option Task) → task_of words ≡ asked → (prepared : Prepared) (answer : Answer) (status : ℕ) (last : Option LastRun) (old mid new : Option ℕ) →
    meaning_of words bytes ≡ Ok answer → AsksFirst asked (Ok prepared) old mid → is_run prepared ≡ runs_program asked → (is_run prepared ≡ false → new ≡ mid) →
    GoesAs (Ok answer) status last mid new → RunsAs (Ok answer) status last old new
unfolding meaning_of answer_of
went_as words bytes None is prepared answer status last old mid new means first kind still goes = absurd (let wrong : Err Words ≡ Ok answer = rw is at means in cc)
went_as words bytes (Some (task.Run program run)) is prepared answer status last old mid new means first kind still goes =
    stays answer status last old mid new (no_trial (graph_of (root_of program) bytes) (λ file. ran program run file.0 file.1) (λ file. tt) answer (rw is at means)) first goes
went_as words bytes (Some (task.Make size number)) is prepared answer status last old mid new means first kind still goes =
    stays answer status last old mid new (no_trial (Ok (made_graph size number)) (λ graph. generated graph) (λ graph. tt) answer (rw is at means)) first goes
went_as words bytes (Some (task.Owners hosts rules)) is prepared answer status last old mid new means first kind still goes =
    stays answer status last old mid new (no_trial (of_input (file_at bytes)) (λ file. owned rules hosts file.0 file.1) (λ file. tt) answer (rw is at means)) first goes
went_as words bytes (Some (task.Proxies hosts rules way)) is prepared answer status last old mid new means first kind still goes =
    stays answer status last old mid new (no_trial (of_input (shared rules hosts (file_at bytes))) (λ file. divided way file.0 file.1) (λ file. tt) answer (rw is at means)) first goes
went_as words bytes (Some (task.Selfrun size number hosts rules order)) is prepared answer status last old mid new means first kind still goes =
    let known : Ok (tried rules hosts (made_graph size number)) ≡ Ok answer = rw is at means in
    let asks : AsksForTrial rules hosts (made_graph size number) old new = subst (λ (asked : Option ℕ). AsksForTrial rules hosts (made_graph size number) old asked) (sym (still kind)) first in
    subst (λ (meaning : Result Answer Fault). RunsAs meaning status last old new) known (λ zero. asks)
