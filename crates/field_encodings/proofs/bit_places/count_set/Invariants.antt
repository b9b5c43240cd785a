use Rattle.std.proofs.Common.{◌≡◌, length, take}
use Rattle.list_laws.specs.Bits.{unpacked}
use Rattle.list_laws.specs.Members.{members_from}
use Rattle.field_encodings.proofs.bit_places.count_set.Given as goal

-- the count is that of the bytes so far
abbrev pub invariant-loop-byte : goal.invariant-loop-byte
invariant-loop-byte l = l.count ≡ length (members_from 0 (unpacked 8 (take l.byte-index l.bits)))
