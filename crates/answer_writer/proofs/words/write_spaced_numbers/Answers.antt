use Rattle.io_edge.proofs.Writings.{WroteBy-err}
use Rattle.answer_writer.proofs.Spaced.{WroteAll-spaced, WroteFront-spaced}
use Rattle.answer_writer.proofs.words.write_spaced_numbers.Goals as goal

pub returns-in_err-write_spaced_number : goal.returns-in_err-write_spaced_number
returns-in_err-write_spaced_number g c = record {
  written = WroteBy-err c.from_residual.ensures.0
      (WroteFront-spaced c.args.numbers.now c.loop-n.n-index c.loop-n-test.true c.loop-n.invariant c.in_err-write_spaced_number.ensures.written.front);
}

pub loop-n-preserved : goal.loop-n-preserved
loop-n-preserved g c =
    WroteAll-spaced c.args.numbers.now c.loop-n.n-index c.loop-n-test.true c.loop-n.invariant c.in_ok-write_spaced_number.ensures.written.all
