use Rattle.std.proofs.Common.{ap, length, arith}
use Rattle.list_laws.specs.Bits.{unpacked}
use Rattle.list_laws.specs.Members.{count_of}
use Rattle.list_laws.proofs.Members.{count_of-count_by, count_of-le-length}
use Rattle.update_bits.proofs.Held.{count-unpacked}
use Rattle.update_bits.proofs.Ranked.{AreCountsBefore-set}
use Rattle.update_bits.proofs.ranked_bits.RankedBits.new.Goals as goal

pub ones_before-requires : goal.ones_before-requires
ones_before-requires c =
    omega (arith, c.words.ensures.words.short, count-unpacked (length c.args.bits) c.words.result.now c.words.ensures.words, ap count_of c.words.ensures.set, count_of-count_by (unpacked 64 c.words.result.now), count_of-le-length c.args.bits)

pub invariant_of-result : goal.invariant_of-result
invariant_of-result c =
    AreCountsBefore-set (length c.args.bits) c.words.result.now c.in_ok-before.before.items c.args.bits c.words.ensures.words c.words.ensures.set c.in_ok-before.ensures
