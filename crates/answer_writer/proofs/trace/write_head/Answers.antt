use Rattle.std.proofs.Common.{◌++◌}
use Rattle.std.specs.Prelude.{codes}
use Rattle.io_edge.proofs.Writings.{WroteFront-++, WroteFront-more, WroteBy-++, WroteBy-err}
use Rattle.answer_writer.specs.Lines.{spaced_number}
use Rattle.answer_writer.specs.Trace.{leg_word}
use Rattle.answer_writer.proofs.trace.write_head.Goals as goal

pub returns-in_err-write_whole : goal.returns-in_err-write_whole
returns-in_err-write_whole g c = record {
  written = WroteBy-err c.from_residual.ensures.0 (WroteFront-more (spaced_number c.args.round ++ (leg_word c.args.spec.leg ++ (spaced_number c.args.spec.from ++ (spaced_number c.args.spec.to ++ codes " ")))) c.in_err-write_whole.ensures.written.front);
}

pub returns-in_err-write_spaced_number : goal.returns-in_err-write_spaced_number
returns-in_err-write_spaced_number g c = record {
  written = WroteBy-err c.from_residual-in_err-write_spaced_number.ensures.0
      (WroteFront-++ c.in_ok-write_whole.ensures.written.all
      (WroteFront-more (leg_word c.args.spec.leg ++ (spaced_number c.args.spec.from ++ (spaced_number c.args.spec.to ++ codes " "))) c.in_err-write_spaced_number.ensures.written.front));
}

pub returns-in_err-write_leg : goal.returns-in_err-write_leg
returns-in_err-write_leg g c = record {
  written = WroteBy-err c.from_residual-in_err-write_leg.ensures.0
      (WroteFront-++ c.in_ok-write_whole.ensures.written.all (WroteFront-++ c.in_ok-write_spaced_number.ensures.written.all
      (WroteFront-more (spaced_number c.args.spec.from ++ (spaced_number c.args.spec.to ++ codes " ")) c.in_err-write_leg.ensures.written.front)));
}

pub returns-in_err-write_spaced_number-2 : goal.returns-in_err-write_spaced_number-2
returns-in_err-write_spaced_number-2 g c = record {
  written = WroteBy-err c.from_residual-in_err-write_spaced_number-2.ensures.0
      (WroteFront-++ c.in_ok-write_whole.ensures.written.all (WroteFront-++ c.in_ok-write_spaced_number.ensures.written.all (WroteFront-++ c.in_ok-write_leg.ensures.written.all
      (WroteFront-more (spaced_number c.args.spec.to ++ codes " ") c.in_err-write_spaced_number-2.ensures.written.front))));
}

pub returns-in_err-write_spaced_number-3 : goal.returns-in_err-write_spaced_number-3
returns-in_err-write_spaced_number-3 g c = record {
  written = WroteBy-err c.from_residual-in_err-write_spaced_number-3.ensures.0
      (WroteFront-++ c.in_ok-write_whole.ensures.written.all (WroteFront-++ c.in_ok-write_spaced_number.ensures.written.all (WroteFront-++ c.in_ok-write_leg.ensures.written.all (WroteFront-++ c.in_ok-write_spaced_number-2.ensures.written.all
      (WroteFront-more (codes " ") c.in_err-write_spaced_number-3.ensures.written.front)))));
}

pub returns : goal.returns
returns g c = record {
  written = WroteBy-++ c.in_ok-write_whole.ensures.written.all (WroteBy-++ c.in_ok-write_spaced_number.ensures.written.all (WroteBy-++ c.in_ok-write_leg.ensures.written.all (WroteBy-++ c.in_ok-write_spaced_number-2.ensures.written.all (WroteBy-++ c.in_ok-write_spaced_number-3.ensures.written.all c.write_whole-2.ensures.written))));
}
