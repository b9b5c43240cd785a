use Rattle.std.proofs.Common.{◌++◌, codes}
use Rattle.io_edge.proofs.Writings.{WroteFront-++, WroteFront-more, WroteBy-++, WroteBy-err}
use Rattle.answer_writer.specs.Report.{class_line}
use Rattle.answer_writer.proofs.report.write_classes.Goals as goal

pub returns-in_err-write_class : goal.returns-in_err-write_class
returns-in_err-write_class g c =
    let report = c.args.report.now in
    record {
      written = WroteBy-err c.from_residual.ensures.0
          (WroteFront-more (class_line (codes "no-in") report.no_in ++ class_line (codes "no-both") report.no_both) c.in_err-write_class.ensures.written.front);
    }

pub returns-in_err-write_class-2 : goal.returns-in_err-write_class-2
returns-in_err-write_class-2 g c =
    record {
      written = WroteBy-err c.from_residual-in_err-write_class-2.ensures.0
          (WroteFront-++ c.in_ok-write_class.ensures.written.all
          (WroteFront-more (class_line (codes "no-both") c.args.report.now.no_both) c.in_err-write_class-2.ensures.written.front));
    }

pub returns : goal.returns
returns g c = record {
  written = WroteBy-++ c.in_ok-write_class.ensures.written.all (WroteBy-++ c.in_ok-write_class-2.ensures.written.all c.write_class-3.ensures.written);
}
