use Rattle.std.proofs.Common.{◌≡◌, ◌*◌, length, ap, ◌∙◌, arith}
use Rattle.std.proofs.lemmas.List.FromFn.{length-range_with_len}
use Rattle.field_encodings.proofs.readers.read_all.Goals as goal

pub new-requires-clause-enough : goal.new-requires-clause-enough
new-requires-clause-enough g c =
    let whole : length c.args.text.now ≡ c.args.count * g.W.Word.WIDTH = c.if-text-wanted.false ∙ ap (λ w. c.args.count * w) c.WIDTH.ensures in
    rw (length-range_with_len 0 c.args.count) (omega arith)
