use Rattle.std.proofs.Common.{arith}
use Rattle.field_encodings.proofs.ReaderLemmas.{ids_enough, stand_from_check}
use Rattle.field_encodings.proofs.readers.read_ids.Goals as goal

pub new-requires-clause-enough : goal.new-requires-clause-enough
new-requires-clause-enough g c =
    ids_enough c.WIDTH.result g.W.Word.WIDTH c.WIDTH.ensures c.args.text.now c.args.ids.now c.if-text-left.false

pub new-requires-clause-ready : goal.new-requires-clause-ready
new-requires-clause-ready g c =
    (omega (arith, c.if-text-left.false), omega (arith, c.requires.short), c.requires.rising, stand_from_check c.args.ids.now _ c.in_ok-check_ids.ensures)
