use Rattle.std.proofs.Common.{[], ◌∷◌}
use Rattle.std.specs.Prelude.{codes}
use Rattle.io_edge.proofs.Writings.{WroteFront-more, WroteBy-++, WroteBy-err}
use Rattle.answer_writer.specs.Lines.{words_line}
use Rattle.job_text.proofs.trial_lines.write_size.Goals as goal

pub returns-in_err-write_words : goal.returns-in_err-write_words
returns-in_err-write_words g c =
    let first = rw c.from.ensures at c.in_err-write_words.ensures.written.front in
    record { written = WroteBy-err c.from_residual.ensures.0 (WroteFront-more (words_line (codes "edges") (c.args.trial.edges ∷ [])) first) }

pub returns : goal.returns
returns g c =
    let first = rw c.from.ensures at c.in_ok-write_words.ensures.written.all in
    let second = rw c.from-2.ensures at c.write_words-2.ensures.written in
    record { written = WroteBy-++ first second }
