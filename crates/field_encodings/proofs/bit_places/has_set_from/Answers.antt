use Rattle.std.proofs.Common.{◌∙◌}
use Rattle.field_encodings.proofs.BitPlaces.{any_from}
use Rattle.field_encodings.proofs.bit_places.has_set_from.Goals as goal

pub returns : goal.returns
returns c = c.is_some.ensures ∙ any_from c.args.bits.now c.args.first c.next_bit.result c.next_bit.ensures.first
