use Rattle.std.proofs.Common.{ℕ, [], ◌∷◌, subst}
use Rattle.std.specs.Prelude.{codes}
use Rattle.io_edge.specs.Writing.{WroteBy, state_of}
use Rattle.answer_writer.specs.Lines.{words_line}
use Rattle.job_text.proofs.owner_lines.write_master.Goals as goal

pub returns : goal.returns
returns g c =
    let old = state_of g.K.Sink c.args.sink.now in
    let new = state_of g.K.Sink c.write_words.new.sink in
    let first = subst (λ (v : ℕ). WroteBy c.write_words.result old new (words_line (codes "master") (v ∷ c.from-master.result ∷ []))) c.from-v.ensures c.write_words.ensures.written in
    record { written = subst (λ (master : ℕ). WroteBy c.write_words.result old new (words_line (codes "master") (c.args.v ∷ master ∷ []))) c.from-master.ensures first }
