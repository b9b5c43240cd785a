use Rattle.std.proofs.Common.{[], ◌∷◌}
use Rattle.io_edge.proofs.Writings.{WroteAll-++, WroteFront-++, WroteFront-more, WroteBy-++, WroteBy-err}
use Rattle.answer_writer.specs.Lines.{spaced_numbers}
use Rattle.answer_writer.proofs.words.write_long_line.Goals as goal

pub returns-in_err-write_whole : goal.returns-in_err-write_whole
returns-in_err-write_whole g c = record {
  written = WroteBy-err c.from_residual.ensures.0
      (WroteFront-more (10 ∷ []) (WroteFront-more (spaced_numbers c.args.numbers.now) c.in_err-write_whole.ensures.written.front));
}

pub returns-in_err-write_spaced_numbers : goal.returns-in_err-write_spaced_numbers
returns-in_err-write_spaced_numbers g c = record {
  written = WroteBy-err c.from_residual-in_err-write_spaced_numbers.ensures.0
      (WroteFront-more (10 ∷ []) (WroteFront-++ c.in_ok-write_whole.ensures.written.all c.in_err-write_spaced_numbers.ensures.written.front));
}

pub returns : goal.returns
returns g c = record {
  written = WroteBy-++ (WroteAll-++ c.in_ok-write_whole.ensures.written.all c.in_ok-write_spaced_numbers.ensures.written.all) c.write_whole-2.ensures.written;
}
