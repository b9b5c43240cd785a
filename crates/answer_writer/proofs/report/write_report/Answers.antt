use Rattle.io_edge.proofs.Writings.{WroteFront-more, WroteBy-++, WroteBy-err}
use Rattle.answer_writer.specs.Report.{class_lines}
use Rattle.answer_writer.proofs.report.write_report.Goals as goal

pub returns-in_err-write_counts : goal.returns-in_err-write_counts
returns-in_err-write_counts g c = record {
  written = WroteBy-err c.from_residual.ensures.0 (WroteFront-more (class_lines c.args.report.now) c.in_err-write_counts.ensures.written.front);
}

pub returns : goal.returns
returns g c = record { written = WroteBy-++ c.in_ok-write_counts.ensures.written.all c.write_classes.ensures.written }
