-- What is told after the last round.
use Rattle.std.proofs.Common.{◌≡◌, ℕ, ◌*◌, Bool, true, false, List, ◌++◌, Some, None, refl, sym, ap, subst, ◌∙◌, append-nil}
use Rattle.reduce_laws.specs.ReductionLaws.{Reducer}
use Rattle.reduce_laws.specs.ProgramLaws.{Steps}
use Rattle.answer_writer.specs.declared.report.Report.{Report}
use Rattle.answer_writer.specs.Report.{report_lines}
use Rattle.graph_division.specs.Partition.{division_of}
use Rattle.graph_division.specs.Shares.{Share}
use Rattle.graph_division.specs.Classes.{has_out, has_in, has_both, no_mirror, mirror_count}
use Rattle.host_state.specs.Serving.{run_of}
use Rattle.round_packets.specs.Runs.{Run}
use Rattle.cluster_laws.specs.Tally.{packets_of}
use Rattle.round_driver.specs.ClusterState.{ClusterState, StandsNow, shares_of, division_in}
use Rattle.run_text.specs.Told.{Told, told_by}
use Rattle.run_text.specs.Text.{Asked, if_asked, answer_lines, report_of, bytes_sent}
use Rattle.run_engine.specs.declared.finished.Finished.{Finished}
use Rattle.run_engine.specs.declared.ending.Probe.{Probe}
use Rattle.run_engine.specs.Running.{HasRun}
use Rattle.run_engine.specs.Rounds.{Plan}
use Rattle.run_engine.specs.Ending.{probed, report_with, end_text}
use Rattle.run_engine.proofs.Going.{run_in}

-- what was probed is what is asked for
pub some_probe : (report : Bool) (shares : List Share) (probe : Probe) → Some probe ≡ probed report shares → (report ≡ true) × (Some probe ≡ probed true shares)
some_probe true shares probe is = (refl, is)
some_probe false shares probe is = absurd (cc)

pub no_probe : (report : Bool) (shares : List Share) → None ≡ probed report shares → report ≡ false
no_probe true shares is = absurd (cc)
no_probe false shares is = refl

module _ {Program Item State Shown : Type 0} (item_bytes : Item → List ℕ) (shown_bytes : Shown → List ℕ) (reducer : Reducer Item) (steps : Program → Steps Item State Shown) (item_size shown_size : ℕ) (plan : Plan Program) where
  abbrev the_told : Told
  the_told = told_by item_bytes shown_bytes (run_in reducer steps item_size shown_size plan)

  module _ (cluster : ClusterState Program Item State Shown) (finished : Finished) (is : HasRun item_bytes shown_bytes (run_in reducer steps item_size shown_size plan) plan.program plan.way plan.shares cluster finished) where
    -- its answers may be told
    pub may_tell : StandsNow reducer (steps cluster.program) item_size shown_size item_bytes shown_bytes cluster
    may_tell = subst (λ program. StandsNow reducer (steps program) item_size shown_size item_bytes shown_bytes cluster) (sym is.same_program) is.stands

    division_there : division_in cluster ≡ division_of plan.way plan.shares
    division_there = ap (λ way. division_of way (shares_of cluster)) is.same_way ∙ ap (division_of plan.way) is.same_shares

    run_there : run_of reducer (steps cluster.program) item_size shown_size (division_in cluster) ≡ run_in reducer steps item_size shown_size plan
    run_there = ap (λ program. run_of reducer (steps program) item_size shown_size (division_in cluster)) is.same_program ∙ ap (run_of reducer (steps plan.program) item_size shown_size) division_there

    -- they are those of the run
    pub answers_are : answer_lines (division_in cluster) (told_by item_bytes shown_bytes (run_of reducer (steps cluster.program) item_size shown_size (division_in cluster))) cluster.round ≡ answer_lines (division_of plan.way plan.shares) the_told finished.rounds
    answers_are =
        ap (λ (run : Run Item State Shown). answer_lines run.division (told_by item_bytes shown_bytes run) cluster.round) run_there
        ∙ ap (answer_lines (division_of plan.way plan.shares) the_told) (sym is.rounds)

    report_is : (asked : Asked) → report_with finished (record {
      mirrors = mirror_count plan.shares;
      classes = record { no_out = no_mirror has_out plan.shares; no_in = no_mirror has_in plan.shares; no_both = no_mirror has_both plan.shares };
    }) ≡ report_of asked plan.way plan.shares the_told finished.rounds
    report_is asked =
        let packets : finished.packets ≡ finished.rounds * packets_of (division_of plan.way plan.shares) = is.packets ∙ ap (λ n. n * packets_of (division_of plan.way plan.shares)) (sym is.rounds) in
        let bytes : finished.bytes ≡ bytes_sent (division_of plan.way plan.shares) the_told finished.rounds = is.bytes ∙ ap (bytes_sent (division_of plan.way plan.shares) the_told) (sym is.rounds) in
        ap (λ n. with_counts n finished.bytes) packets ∙ ap (with_counts (finished.rounds * packets_of (division_of plan.way plan.shares))) bytes
      where
        with_counts : (packets bytes : ℕ) → Report
        with_counts packets bytes = record {
          rounds = finished.rounds;
          packets = packets;
          bytes = bytes;
          mirrors = mirror_count plan.shares;
          no_out = no_mirror has_out plan.shares;
          no_in = no_mirror has_in plan.shares;
          no_both = no_mirror has_both plan.shares;
        }

    -- the answers and a report
    pub end_with_report : (asked : Asked) (probe : Probe) → Some probe ≡ probed asked.report plan.shares
        → answer_lines (division_in cluster) (told_by item_bytes shown_bytes (run_of reducer (steps cluster.program) item_size shown_size (division_in cluster))) cluster.round ++ report_lines (report_with finished probe) ≡ end_text asked plan the_told finished.rounds
    end_with_report asked probe same =
        let both = some_probe asked.report plan.shares probe same in
        let probe_is : probe ≡ record {
          mirrors = mirror_count plan.shares;
          classes = record { no_out = no_mirror has_out plan.shares; no_in = no_mirror has_in plan.shares; no_both = no_mirror has_both plan.shares };
        } = cc (both.1) in
        ap (λ text. text ++ report_lines (report_with finished probe)) answers_are
        ∙ ap (λ p. answer_lines (division_of plan.way plan.shares) the_told finished.rounds ++ report_lines (report_with finished p)) probe_is
        ∙ ap (λ r. answer_lines (division_of plan.way plan.shares) the_told finished.rounds ++ report_lines r) (report_is asked)
        ∙ ap (λ b. answer_lines (division_of plan.way plan.shares) the_told finished.rounds ++ if_asked b (report_lines (report_of asked plan.way plan.shares the_told finished.rounds))) (sym both.0)

    -- the answers alone
    pub end_with_answers : (asked : Asked) → None ≡ probed asked.report plan.shares
        → answer_lines (division_in cluster) (told_by item_bytes shown_bytes (run_of reducer (steps cluster.program) item_size shown_size (division_in cluster))) cluster.round ≡ end_text asked plan the_told finished.rounds
    end_with_answers asked same =
        answers_are
        ∙ sym (append-nil (answer_lines (division_of plan.way plan.shares) the_told finished.rounds))
        ∙ ap (λ b. answer_lines (division_of plan.way plan.shares) the_told finished.rounds ++ if_asked b (report_lines (report_of asked plan.way plan.shares the_told finished.rounds))) (sym (no_probe asked.report plan.shares same))
