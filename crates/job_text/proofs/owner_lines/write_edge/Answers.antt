use Rattle.std.proofs.Common.{ℕ, [], ◌∷◌, subst}
use Rattle.std.specs.Prelude.{codes}
use Rattle.io_edge.specs.Writing.{WroteBy, state_of}
use Rattle.answer_writer.specs.Lines.{words_line}
use Rattle.job_text.proofs.owner_lines.write_edge.Goals as goal

pub returns : goal.returns
returns g c =
    let old = state_of g.K.Sink c.args.sink.now in
    let new = state_of g.K.Sink c.write_words.new.sink in
    let one = subst (λ (i : ℕ). WroteBy c.write_words.result old new (words_line (codes "edge") (i ∷ c.from-src.result ∷ c.from-dst.result ∷ c.from-owner.result ∷ []))) c.from-i.ensures c.write_words.ensures.written in
    let two = subst (λ (src : ℕ). WroteBy c.write_words.result old new (words_line (codes "edge") (c.args.i ∷ src ∷ c.from-dst.result ∷ c.from-owner.result ∷ []))) c.from-src.ensures one in
    let three = subst (λ (dst : ℕ). WroteBy c.write_words.result old new (words_line (codes "edge") (c.args.i ∷ c.args.edge.src ∷ dst ∷ c.from-owner.result ∷ []))) c.from-dst.ensures two in
    record { written = subst (λ (owner : ℕ). WroteBy c.write_words.result old new (words_line (codes "edge") (c.args.i ∷ c.args.edge.src ∷ c.args.edge.dst ∷ owner ∷ []))) c.from-owner.ensures three }
