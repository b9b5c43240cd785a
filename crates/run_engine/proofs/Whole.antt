-- The text of a whole run.
use Rattle.std.proofs.Common.{◌≡◌, ℕ, ◌+◌, ◌≤◌, Bool, true, false, List, Option, Some, None, Result, inl, inr, sym, ap, subst, ◌∙◌, arith}
use Rattle.std.specs.Prelude.{is_some}
use Rattle.io_edge.specs.Writing.{SinkState, WroteAll, WroteFront}
use Rattle.io_edge.proofs.Writings.{WroteAll-++, WroteFront-++, WroteFront-more}
use Rattle.reduce_laws.specs.ReductionLaws.{Reducer, ReductionLaws}
use Rattle.reduce_laws.specs.ProgramLaws.{Steps, ProgramLaws}
use Rattle.graph_division.specs.Shares.{Share}
use Rattle.graph_division.specs.Partition.{IsPartition, division_of}
use Rattle.round_packets.specs.Runs.{Run, IsRun}
use Rattle.round_driver.specs.ClusterState.{ClusterState, shares_of}
use Rattle.run_text.specs.Told.{Told, told_by}
use Rattle.run_text.specs.Text.{Asked, IsRunText, packets_text, whole_text}
use Rattle.run_text.specs.Text.IsRunText.{ends, goes_on}
use Rattle.run_engine.specs.declared.finished.Finished.{Finished}
use Rattle.run_engine.specs.declared.ending.Probe.{Probe}
use Rattle.run_engine.specs.Running.{TakesRounds, KeepsChanging, HasRun, HasFinished}
use Rattle.run_engine.specs.Outcome.{WritesRun, BreaksRun}
use Rattle.run_engine.specs.Rounds.{Plan, plan_of, BreaksRounds, EndsRounds, rounds_text}
use Rattle.run_engine.specs.Ending.{probed, end_text}
use Rattle.run_engine.proofs.Deciding.{takes_more, EndsOrKeeps, ends_or_keeps}
use Rattle.run_engine.proofs.Going.{run_in, is_run, plan_by}
use Rattle.run_engine.proofs.Lines.{told_more}

-- what was probed tells whether a report was asked for
pub report_told : (report : Bool) (shares : List Share) (probe : Option Probe) → probe ≡ probed report shares → is_some probe ≡ report
report_told true shares probe is = ap is_some is
report_told false shares probe is = ap is_some is

pub probe_told : (report : Bool) (shares there : List Share) (probe : Option Probe) → probe ≡ probed report shares → there ≡ shares → probe ≡ probed (is_some probe) there
probe_told report shares there probe is same = is ∙ ap (λ b. probed b shares) (sym (report_told report shares probe is)) ∙ ap (probed (is_some probe)) (sym same)

module _ {Program Item State Shown : Type 0} (item_bytes : Item → List ℕ) (shown_bytes : Shown → List ℕ) (reducer : Reducer Item) (steps : Program → Steps Item State Shown) (item_size shown_size : ℕ) (plan : Plan Program) where
  abbrev the_run : Run Item State Shown
  the_run = run_in reducer steps item_size shown_size plan

  abbrev the_told : Told
  the_told = told_by item_bytes shown_bytes the_run

  -- a cluster tells its plan
  pub plan_there : (cluster : ClusterState Program Item State Shown) (finished : Finished) → HasRun item_bytes shown_bytes the_run plan.program plan.way plan.shares cluster finished → plan_of cluster ≡ plan
  plan_there cluster finished is =
      ap (λ program. plan_by program cluster.way (shares_of cluster)) is.same_program
      ∙ ap (λ way. plan_by plan.program way (shares_of cluster)) is.same_way
      ∙ ap (plan_by plan.program plan.way) is.same_shares

  pub run_as_told : (cluster : ClusterState Program Item State Shown) (finished : Finished) → HasRun item_bytes shown_bytes the_run plan.program plan.way plan.shares cluster finished
      → HasRun item_bytes shown_bytes (run_in reducer steps item_size shown_size (plan_of cluster)) (plan_of cluster).program (plan_of cluster).way (plan_of cluster).shares cluster finished
  run_as_told cluster finished is =
      subst (λ (told : Plan Program). HasRun item_bytes shown_bytes (run_in reducer steps item_size shown_size told) told.program told.way told.shares cluster finished) (sym (plan_there cluster finished is)) is

  -- how rounds ended, said of this plan and budget
  pub ends_as : {Fault : Type 0} (there : Plan Program) (trace : Bool) (budget allowed : ℕ) (result other : Result (Option Finished) Fault) (cluster : ClusterState Program Item State Shown) (old new : SinkState) → there ≡ plan → budget ≡ allowed → result ≡ other
      → EndsRounds item_bytes shown_bytes (run_in reducer steps item_size shown_size there) trace there budget result cluster old new → EndsRounds item_bytes shown_bytes the_run trace plan allowed other cluster old new
  ends_as {Fault} there trace budget allowed result other cluster old new same_plan same_budget same_result ended =
      subst (λ (r : Result (Option Finished) Fault). EndsRounds item_bytes shown_bytes the_run trace plan allowed r cluster old new) same_result
      (subst (λ n. EndsRounds item_bytes shown_bytes the_run trace plan n result cluster old new) same_budget
      (subst (λ (told : Plan Program). EndsRounds item_bytes shown_bytes (run_in reducer steps item_size shown_size told) trace told budget result cluster old new) same_plan ended))

  -- what is told at the end is the same with the plan that a cluster tells
  pub end_as : (asked : Asked) (there : Plan Program) (report : Bool) (rounds : ℕ) → there ≡ plan → report ≡ asked.report
      → end_text (record { trace = false; report = report }) there (told_by item_bytes shown_bytes (run_in reducer steps item_size shown_size there)) rounds ≡ end_text asked plan the_told rounds
  end_as asked there report rounds same_plan same_report =
      ap (λ (told : Plan Program). end_text (record { trace = false; report = report }) told (told_by item_bytes shown_bytes (run_in reducer steps item_size shown_size told)) rounds) same_plan
      ∙ ap (λ b. end_text (record { trace = false; report = b }) plan the_told rounds) same_report

  module _ {IsItem : Item → Type 0} {IsShown : Shown → Type 0} {IsState : State → Type 0} (reduction : ReductionLaws IsItem reducer) (laws : (program : Program) → ProgramLaws IsItem IsShown IsState reducer (steps program)) (partition : IsPartition plan.shares) (asked : Asked) (budget : ℕ) where
    fact : IsRun IsItem IsShown IsState the_run
    fact = is_run item_bytes shown_bytes reducer steps item_size shown_size plan reduction laws partition

    text_of_end : (cluster : ClusterState Program Item State Shown) (finished : Finished) → HasFinished item_bytes shown_bytes the_run plan.program plan.way plan.shares budget cluster finished
        → IsRunText (TakesRounds the_run) asked plan.way plan.shares the_told budget (Some finished.rounds) (whole_text asked plan.way plan.shares the_told finished.rounds)
    text_of_end cluster finished is =
        ends finished.rounds (subst (TakesRounds the_run) (sym is.has_run.rounds) is.takes) (let within = is.within in let same = is.has_run.rounds in omega arith)

    -- the packets, and then the end
    pub whole_written : (cluster : ClusterState Program Item State Shown) (finished : Finished) (old between new : SinkState)
        → HasFinished item_bytes shown_bytes the_run plan.program plan.way plan.shares budget cluster finished
        → WroteAll old between (rounds_text item_bytes shown_bytes the_run asked.trace finished.rounds) → WroteAll between new (end_text asked plan the_told finished.rounds)
        → WritesRun item_bytes shown_bytes the_run asked plan.way plan.shares budget (Some finished.rounds) old new
    whole_written cluster finished old between new is first then = record {
      text = whole_text asked plan.way plan.shares the_told finished.rounds;
      is_text = text_of_end cluster finished is;
      wrote = WroteAll-++ first then;
    }

    -- the packets, and then a front of the end
    pub end_broken : (cluster : ClusterState Program Item State Shown) (finished : Finished) (old between new : SinkState)
        → HasFinished item_bytes shown_bytes the_run plan.program plan.way plan.shares budget cluster finished
        → WroteAll old between (rounds_text item_bytes shown_bytes the_run asked.trace finished.rounds) → WroteFront between new (end_text asked plan the_told finished.rounds)
        → BreaksRun item_bytes shown_bytes the_run asked plan.way plan.shares budget old new
    end_broken cluster finished old between new is first then = record {
      rounds = Some finished.rounds;
      text = whole_text asked plan.way plan.shares the_told finished.rounds;
      is_text = text_of_end cluster finished is;
      wrote = WroteFront-++ first then;
    }

    -- a front of the packets of rounds is a front of those of more
    front_of_more : (old new : SinkState) (some all : ℕ) → some ≤ all → WroteFront old new (rounds_text item_bytes shown_bytes the_run asked.trace some) → WroteFront old new (rounds_text item_bytes shown_bytes the_run asked.trace all)
    front_of_more old new some all fewer front =
        let more = told_more asked.trace (division_of plan.way plan.shares) the_told some all fewer in
        subst (λ text. WroteFront old new text) (sym more.1) (WroteFront-more more.0 front)

    -- a front of the packets
    pub rounds_broken : (old new : SinkState) → BreaksRounds item_bytes shown_bytes the_run asked.trace budget old new → BreaksRun item_bytes shown_bytes the_run asked plan.way plan.shares budget old new
    rounds_broken old new broken = decided (ends_or_keeps the_run fact budget)
      where
        decided : EndsOrKeeps the_run fact budget → BreaksRun item_bytes shown_bytes the_run asked plan.way plan.shares budget old new
        decided (inl ended) = record {
          rounds = Some ended.0;
          text = whole_text asked plan.way plan.shares the_told ended.0;
          is_text = ends ended.0 ended.2 ended.1;
          wrote = WroteFront-more (end_text asked plan the_told ended.0)
              (front_of_more old new (broken.before + 1) ended.0 (let later = takes_more the_run fact broken.before broken.keeps ended.0 ended.2 in omega arith) broken.wrote);
        }
        decided (inr keeps) = record {
          rounds = None;
          text = packets_text asked plan.way plan.shares the_told budget;
          is_text = goes_on (takes_more the_run fact budget keeps);
          wrote = front_of_more old new (broken.before + 1) budget (let early = broken.early in omega arith) broken.wrote;
        }

    -- all packets of all rounds
    pub all_spent : (old new : SinkState) → KeepsChanging the_run budget → WroteAll old new (rounds_text item_bytes shown_bytes the_run asked.trace budget) → WritesRun item_bytes shown_bytes the_run asked plan.way plan.shares budget None old new
    all_spent old new keeps wrote = record {
      text = packets_text asked plan.way plan.shares the_told budget;
      is_text = goes_on (takes_more the_run fact budget keeps);
      wrote = wrote;
    }
