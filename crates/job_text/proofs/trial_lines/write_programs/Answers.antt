use Rattle.std.proofs.Common.{[], ◌∷◌, ◌++◌}
use Rattle.std.specs.Prelude.{codes}
use Rattle.io_edge.proofs.Writings.{WroteFront-++, WroteFront-more, WroteBy-++, WroteBy-err}
use Rattle.answer_writer.specs.Lines.{words_line}
use Rattle.job_text.specs.Trials.{summary_line}
use Rattle.job_text.proofs.trial_lines.write_programs.Goals as goal

pub returns-in_err-write_summary : goal.returns-in_err-write_summary
returns-in_err-write_summary g c =
    let trial = c.args.trial in
    let rest = summary_line (codes "sssp reached ") trial.costs ++ (words_line (codes "cc labels") (trial.labels ∷ []) ++ words_line (codes "core 8 members") (trial.members ∷ [])) in
    record { written = WroteBy-err c.from_residual.ensures.0 (WroteFront-more rest c.in_err-write_summary.ensures.written.front) }

pub returns-in_err-write_summary-2 : goal.returns-in_err-write_summary-2
returns-in_err-write_summary-2 g c =
    let trial = c.args.trial in
    let rest = words_line (codes "cc labels") (trial.labels ∷ []) ++ words_line (codes "core 8 members") (trial.members ∷ []) in
    record { written = WroteBy-err c.from_residual-in_err-write_summary-2.ensures.0 (WroteFront-++ c.in_ok-write_summary.ensures.written.all (WroteFront-more rest c.in_err-write_summary-2.ensures.written.front)) }

pub returns-in_err-write_words : goal.returns-in_err-write_words
returns-in_err-write_words g c =
    let rest = words_line (codes "core 8 members") (c.args.trial.members ∷ []) in
    record {
      written = WroteBy-err c.from_residual-in_err-write_words.ensures.0
          (WroteFront-++ c.in_ok-write_summary.ensures.written.all (WroteFront-++ c.in_ok-write_summary-2.ensures.written.all (WroteFront-more rest c.in_err-write_words.ensures.written.front)));
    }

pub returns : goal.returns
returns g c = record {
  written = WroteBy-++ c.in_ok-write_summary.ensures.written.all
      (WroteBy-++ c.in_ok-write_summary-2.ensures.written.all (WroteBy-++ c.in_ok-write_words.ensures.written.all c.write_words-2.ensures.written));
}
