-- What a run tells after its last round.
use Rattle.std.specs.Prelude.{ℕ, Bool, true, false, List, ◌++◌, Option, Some, None}
use Rattle.answer_writer.specs.declared.report.Report.{Report}
use Rattle.answer_writer.specs.Report.{report_lines}
use Rattle.graph_division.specs.Shares.{Share}
use Rattle.graph_division.specs.Classes.{has_out, has_in, has_both, no_mirror, mirror_count}
use Rattle.run_text.specs.Told.{Told}
use Rattle.run_text.specs.Text.{Asked, if_asked, answer_lines, report_of}
use Rattle.run_engine.specs.declared.finished.Finished.{Finished}
use Rattle.run_engine.specs.declared.ending.Probe.{Probe}
use Rattle.run_engine.specs.Rounds.{Plan}
use Rattle.graph_division.specs.Partition.{division_of}

-- what is run, and what is asked for besides the answers
pub record Telling (Program : Type 0) : Type 0 where
  pub plan : Plan Program
  pub asked : Asked

-- what a partition's mirrors lack, where it is asked for
abbrev pub probed : (report : Bool) → List Share → Option Probe
probed true shares = Some (record {
  mirrors = mirror_count shares;
  classes = record { no_out = no_mirror has_out shares; no_in = no_mirror has_in shares; no_both = no_mirror has_both shares };
})
probed false shares = None

-- the report of what all rounds came to, and of what was probed
abbrev pub report_with : Finished → Probe → Report
report_with finished probe = record {
  rounds = finished.rounds;
  packets = finished.packets;
  bytes = finished.bytes;
  mirrors = probe.mirrors;
  no_out = probe.classes.no_out;
  no_in = probe.classes.no_in;
  no_both = probe.classes.no_both;
}

-- the answers after so many rounds, and the report, where it is asked for
abbrev pub end_text : {Program : Type 0} → Asked → Plan Program → Told → (rounds : ℕ) → List ℕ
end_text asked plan told rounds =
    answer_lines (division_of plan.way plan.shares) told rounds ++ if_asked asked.report (report_lines (report_of asked plan.way plan.shares told rounds))
