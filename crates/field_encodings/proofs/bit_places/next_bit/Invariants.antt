use Rattle.std.proofs.Common.{◌≡◌, ◌*◌}
use Rattle.field_encodings.specs.Places.{set_from}
use Rattle.field_encodings.proofs.bit_places.next_bit.Given as goal

-- no bit of the bytes that were passed is set
abbrev pub invariant-loop-later : goal.invariant-loop-later
invariant-loop-later l = set_from l.bits l.next ≡ set_from l.bits (l.later * 8)
