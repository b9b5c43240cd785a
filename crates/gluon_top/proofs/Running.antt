-- From what a run of a program did to what the call promises of it.
use Rattle.std.proofs.Common.{◌≡◌, ◌≢◌, ◌∙◌, ℕ, List, [], ◌++◌, Option, Some, None, Result, Err, refl, sym, ap, subst, arith}
use Rattle.std.specs.Prelude.{option_map}
use Rattle.std.proofs.lemmas.List.{append-nil}
use Rattle.io_edge.specs.Faults.{Rose}
use Rattle.io_edge.specs.declared.sink.Sink.{Ghosts}
use Rattle.io_edge.specs.declared.paged_sink.PagedSink.{PagedSink}
use Rattle.io_edge.specs.Paged.{waiting, paged_held, paged_state}
use Rattle.io_edge.specs.Writing.{SinkState, WroteAll, WroteFront, WroteBy, state_of}
use Rattle.io_edge.proofs.Writings.{WroteAll-++, WroteFront-++, WroteFront-more}
use Rattle.io_edge.proofs.Flushes.{flush-writes, flush-front, WroteFront-below}
use Rattle.graph_model.specs.Graph.{Graph, IsGraph}
use Rattle.cusp_rules.specs.Hosts.{IsHostCount}
use Rattle.graph_division.specs.DivisionOf.{IsDivisionOf}
use Rattle.graph_division.specs.Partition.{division_of}
use Rattle.graph_division.specs.Shares.{Share}
use Rattle.command_words.specs.declared.job.RunWords.{RunWords}
use Rattle.memo_exchange.specs.Asks.{asked_after}
use Rattle.run_text.specs.Asks.{asks}
use Rattle.run_text.specs.Text as texts
use Rattle.run_engine.specs.declared.fault.RunFault.{RunFault}
use Rattle.run_engine.specs.declared.fault.RunFault.TheVariants.{Spent}
use Rattle.run_engine.specs.Outcome.{rounds_at, IfRan}
use Rattle.program_runs.specs.declared.program.Program.{Program}
use Rattle.program_runs.specs.declared.last_run.LastRun.{LastRun}
use Rattle.program_runs.specs.LastRuns.{round_of, IsLastRun}
use Rattle.program_runs.specs.Ends.{EndsRun}
use Rattle.program_runs.specs.Ends as ends
use Rattle.gluon_top.specs.declared.runs.Stop.{Stop}
use Rattle.gluon_top.specs.declared.runs.Stop.TheVariants.{Write, Memory}
use Rattle.job_text.specs.Fault.{spent_line}
use Rattle.gluon_top.specs.Runs.{IsLast, AsksFor, asked_in, budget_in, shares_in, status_at, end_line}
use Rattle.gluon_top.specs.Running.{WritesText, BreaksText, WritesRun, PassesRun, status_by}
use Rattle.share_plan.proofs.Divisions.{is_division_of}
use Rattle.gluon_top.proofs.Rounds.{ends_takes}

-- a run that ends or goes on does not run out of memory
status_not_four : (rounds : Option ℕ) → status_at rounds ≢ 4
status_not_four (Some rounds) four = absurd (omega (arith, four))
status_not_four None four = absurd (omega (arith, four))

module _ (program : Program) (run : RunWords) (graph : Graph) where
  -- what was done by hosts that share the graph out by its rules
  pub divided_as : (result : Result LastRun RunFault) (old new : SinkState) (shares : List Share) → IsHostCount run.hosts → IsGraph graph → shares ≡ shares_in program run graph
      → ((any : Graph) → IsGraph any → IsDivisionOf any run.way (division_of run.way shares) → EndsRun program any (asked_in run) run.way shares (texts.budget_of run.rounds any.nodes) round_of result old new)
      → EndsRun program graph (asked_in run) run.way (shares_in program run graph) (budget_in program run graph) round_of result old new
  divided_as result old new shares counted fact shared walks =
      subst (λ (held : List Share). EndsRun program graph (asked_in run) run.way held (budget_in program run graph) round_of result old new) shared
      (walks graph fact (subst (λ (held : List Share). IsDivisionOf graph run.way (division_of run.way held)) (sym shared) (is_division_of run.way run.rules run.hosts graph counted fact)))

  -- the same of a fault that is known
  pub divided_fault : (fault known : RunFault) (old new : SinkState) (shares : List Share) → fault ≡ known → IsHostCount run.hosts → IsGraph graph → shares ≡ shares_in program run graph
      → ((any : Graph) → IsGraph any → IsDivisionOf any run.way (division_of run.way shares) → EndsRun program any (asked_in run) run.way shares (texts.budget_of run.rounds any.nodes) round_of (Err fault) old new)
      → EndsRun program graph (asked_in run) run.way (shares_in program run graph) (budget_in program run graph) round_of (Err known) old new
  divided_fault fault known old new shares is counted fact shared walks =
      subst (λ (fault : RunFault). EndsRun program graph (asked_in run) run.way (shares_in program run graph) (budget_in program run graph) round_of (Err fault) old new) is
      (divided_as (Err fault) old new shares counted fact shared walks)

  -- the text of a run that ended was written
  pub ended_text : {old new : SinkState} (rounds : ℕ) → ends.WritesRun program graph (asked_in run) run.way (shares_in program run graph) (budget_in program run graph) (Some rounds) old new → WritesText program run graph 0 old new
  ended_text rounds wrote = record {
    text = wrote.text;
    is_text = record { rounds = Some rounds; told = wrote.text; tells = wrote.tells; status_is = refl; text_is = sym (append-nil wrote.text) };
    wrote = wrote.wrote;
  }

  -- its cluster is that of the last round, and it asked for the picks of all rounds
  pub ended_last : {old new : SinkState} (asked asked' : Option ℕ) (shares : List Share) (last : LastRun) → ends.WritesRun program graph (asked_in run) run.way (shares_in program run graph) (budget_in program run graph) (Some (round_of last)) old new
      → shares ≡ shares_in program run graph → IsLastRun program run.way shares last → asked' ≡ option_map (asked_after (asks (division_of run.way shares) (round_of last))) asked → IsLast program run graph last asked asked'
  ended_last asked asked' shares last wrote shared is_last picks = record {
    is_last = subst (λ (held : List Share). IsLastRun program run.way held last) shared is_last;
    takes = ends_takes program run graph (round_of last) wrote.text wrote.tells;
    asked = subst (λ (held : List Share). asked' ≡ option_map (asked_after (asks (division_of run.way held) (round_of last))) asked) shared picks;
  }

  -- a run whose budget is spent asked for the picks of all these rounds
  pub spent_asks : (asked asked' : Option ℕ) (shares : List Share) (fault : RunFault) (spent : ℕ) → fault ≡ Spent spent → spent ≡ budget_in program run graph
      → shares ≡ shares_in program run graph → IfRan (rounds_at round_of (Err fault)) (λ rounds. asked' ≡ option_map (asked_after (asks (division_of run.way shares) rounds)) asked) → AsksFor program run graph (budget_in program run graph) asked asked'
  spent_asks asked asked' shares fault spent is all shared picks =
      let known = subst (λ (fault : RunFault). IfRan (rounds_at round_of (Err fault)) (λ rounds. asked' ≡ option_map (asked_after (asks (division_of run.way shares) rounds)) asked)) is picks in
      subst (λ (budget : ℕ). asked' ≡ option_map (asked_after (asks (division_of run.way (shares_in program run graph)) budget)) asked) all
      (subst (λ (held : List Share). asked' ≡ option_map (asked_after (asks (division_of run.way held) spent)) asked) shared known)

  -- the packets of a run that goes on were written, and then the line of its fault
  pub spent_text : {old new last : SinkState} {spent : ℕ} → spent ≡ budget_in program run graph → ends.WritesRun program graph (asked_in run) run.way (shares_in program run graph) (budget_in program run graph) None old new → WroteAll new last (spent_line spent) → WritesText program run graph 5 old last
  spent_text {old} {new} {last} all wrote line = record {
    text = wrote.text ++ spent_line (budget_in program run graph);
    is_text = record { rounds = None; told = wrote.text; tells = wrote.tells; status_is = refl; text_is = refl };
    wrote = WroteAll-++ wrote.wrote (subst (λ (budget : ℕ). WroteAll new last (spent_line budget)) all line);
  }

  -- the packets were written, and then a front of that line
  pub spent_front : {old new last : SinkState} {spent : ℕ} → spent ≡ budget_in program run graph → ends.WritesRun program graph (asked_in run) run.way (shares_in program run graph) (budget_in program run graph) None old new → WroteFront new last (spent_line spent) → BreaksText program run graph old last
  spent_front {old} {new} {last} all wrote line = record {
    status = 5;
    text = wrote.text ++ spent_line (budget_in program run graph);
    is_text = record { rounds = None; told = wrote.text; tells = wrote.tells; status_is = refl; text_is = refl };
    wrote = WroteFront-++ wrote.wrote (subst (λ (budget : ℕ). WroteFront new last (spent_line budget)) all line);
  }

  -- a front of the text of a run was written
  pub broken_text : {old new : SinkState} → ends.BreaksRun program graph (asked_in run) run.way (shares_in program run graph) (budget_in program run graph) old new → BreaksText program run graph old new
  broken_text broke = record {
    status = status_at broke.rounds;
    text = broke.text ++ end_line (budget_in program run graph) broke.rounds;
    is_text = record { rounds = broke.rounds; told = broke.text; tells = broke.tells; status_is = refl; text_is = refl };
    wrote = WroteFront-more (end_line (budget_in program run graph) broke.rounds) broke.wrote;
  }

  -- what a run that stopped did to the sink below its page
  pub passes_stop : {K : Type 0} (tells : Ghosts K) (sink last : K) (p q : PagedSink K) → p.below.now ≡ sink → waiting p ≡ [] → last ≡ q.below.now → (stop : Stop)
      → WritesRun program run graph (Err stop) (paged_state tells p) (paged_state tells q) → PassesRun program run graph (Err stop) (tells.faults sink) (tells.faults last) (tells.held sink) (tells.held last)
  passes_stop tells sink last p q made none left Write broke = record {
    meant_status = broke.status;
    text = broke.text;
    means = broke.is_text;
    memory = λ four. status_not_four broke.is_text.rounds (sym broke.is_text.status_is ∙ four);
    rose = rw (← made, left) broke.wrote.rose;
    prefix = WroteFront-below tells sink last p q broke.text made none left broke.wrote;
  }
  passes_stop tells sink last p q made none left Memory same = record {
    allowed = tt;
    quiet = ap tells.faults left ∙ ap (λ (state : SinkState). state.faults) same ∙ ap tells.faults made;
    same = ap tells.held left ∙ ap (λ (state : SinkState). state.behind.arrived) same ∙ ap tells.held made;
  }

  -- and where the page did not go out
  pub passes_broken_flush : {K E : Type 0} (tells : Ghosts K) (sink last : K) (p q s : PagedSink K) (error : E) (come : Option LastRun) → p.below.now ≡ sink → waiting p ≡ [] → last ≡ s.below.now
      → WritesText program run graph (status_by come) (paged_state tells p) (paged_state tells q)
      → s.below.ghost_name ≡ q.below.ghost_name → WroteBy {T = Unit {0}} (Err error) (state_of tells q.below.now) (state_of tells s.below.now) (waiting q) → paged_held tells s ≡ paged_held tells q
      → PassesRun program run graph (Err Write) (tells.faults sink) (tells.faults last) (tells.held sink) (tells.held last)
  passes_broken_flush tells sink last p q s error come made none left wrote same below kept =
      let flushed = flush-writes {T = Unit {0}} (Err error) tells q s same below kept in record {
        meant_status = status_by come;
        text = wrote.text;
        means = wrote.is_text;
        memory = λ four. status_not_four wrote.is_text.rounds (sym wrote.is_text.status_is ∙ four);
        rose = rose (tells.faults sink) (tells.faults q.below.now) (tells.faults last) (sym (ap tells.faults made) ∙ sym wrote.wrote.quiet) (rw left below.front.rose);
        prefix = flush-front {T = Unit {0}} (Err error) tells sink last p q s wrote.text made none wrote.wrote flushed left;
      }
    where
      rose : (old mid new : ℕ) → old ≡ mid → Rose mid new → Rose old new
      rose old mid new is up = rw is up
