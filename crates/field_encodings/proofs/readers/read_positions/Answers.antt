use Rattle.field_encodings.proofs.ReaderLemmas.{positions_enough}
use Rattle.field_encodings.proofs.readers.read_positions.Goals as goal

pub new-requires-clause-enough : goal.new-requires-clause-enough
new-requires-clause-enough g c =
    positions_enough c.WIDTH.result g.W.Word.WIDTH c.WIDTH.ensures c.in-Some.text.now c.in-Some.width.now c.if-text-left.false
