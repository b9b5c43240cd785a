use Rattle.std.proofs.Common.{◌≡◌, ℕ, ◌-◌, ◌*◌, ◌≤◌, ◌+◌, List, length, min}
use Rattle.list_laws.specs.LittleEndian.{whole_numbers}
use Rattle.io_edge.specs.Bytes.{Gives}
use Rattle.gr_reader.proofs.intake.read_section.Given as goal

abbrev pub invariant-loop-got : goal.invariant-loop-got
invariant-loop-got g l = record {
  bytes : List ℕ;
  pieces : ℕ;
  gives : Gives (g.S.Source.left l.fn.source) (g.S.Source.left l.source) bytes;
  count : length bytes ≡ l.got;
  aligned : l.got ≡ min l.want (65536 * pieces);
  taken : g.T.Intake.took l.intake (whole_numbers g.T.Intake.size bytes);
  fixed : g.T.Intake.fixed l.intake ≡ g.T.Intake.fixed l.fn.intake;
  ready : g.T.Intake.ready l.intake;
  room : l.want ≤ g.T.Intake.room l.intake + l.got;
  quiet : g.S.Source.faults l.source ≡ g.S.Source.faults l.fn.source;
}

abbrev pub decreases-loop-got : goal.decreases-loop-got
decreases-loop-got g l = l.want - l.got
