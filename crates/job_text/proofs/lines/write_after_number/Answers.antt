use Rattle.io_edge.specs.Writing.{WroteAll, state_of}
use Rattle.io_edge.proofs.Writings.{WroteAll-++, WroteFront-++, WroteFront-more, WroteBy-++, WroteBy-err}
use Rattle.job_text.proofs.lines.write_after_number.Goals as goal

pub returns-in_err-write_whole : goal.returns-in_err-write_whole
returns-in_err-write_whole g c = record {
  written = WroteBy-err c.from_residual.ensures.0
      (WroteFront-more _ (WroteFront-more _ (rw c.as_bytes.ensures.value at c.in_err-write_whole.ensures.written.front)));
}

pub returns-in_err-write_number : goal.returns-in_err-write_number
returns-in_err-write_number g c =
    let text : WroteAll (state_of g.K.Sink c.args.sink.now) (state_of g.K.Sink c.write_whole.new.sink) c.args.before.now = rw c.as_bytes.ensures.value at c.in_ok-write_whole.ensures.written.all in
    record { written = WroteBy-err c.from_residual-in_err-write_number.ensures.0 (WroteFront-more _ (WroteFront-++ text c.in_err-write_number.ensures.written.front)) }

pub returns : goal.returns
returns g c =
    let text : WroteAll (state_of g.K.Sink c.args.sink.now) (state_of g.K.Sink c.write_whole.new.sink) c.args.before.now = rw c.as_bytes.ensures.value at c.in_ok-write_whole.ensures.written.all in
    record { written = WroteBy-++ (WroteAll-++ text c.in_ok-write_number.ensures.written.all) c.write_words.ensures.written }
