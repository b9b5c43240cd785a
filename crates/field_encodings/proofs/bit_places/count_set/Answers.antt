use Rattle.std.proofs.Common.{◌<◌, ◌+◌, ap, sym, ◌∙◌, get_or, arith}
use Rattle.std.specs.Prelude.{count_ones}
use Rattle.field_encodings.proofs.BitPlaces.{count_more, count_bound, count_all}
use Rattle.field_encodings.proofs.bit_places.count_set.Goals as goal

pub overflow_add-count : goal.overflow_add-count
overflow_add-count c =
    let small : get_or c.args.bits.now c.loop-byte.byte-index 0 < 256 = omega (arith, c.type_inv.bits c.loop-byte.byte-index) in
    omega (arith, count_more c.args.bits.now c.loop-byte.byte-index c.loop-byte-test.true small, count_bound c.args.bits.now (c.loop-byte.byte-index + 1))

pub loop-byte-preserved : goal.loop-byte-preserved
loop-byte-preserved c =
    let small : get_or c.args.bits.now c.loop-byte.byte-index 0 < 256 = omega (arith, c.type_inv.bits c.loop-byte.byte-index) in
    ap (λ n. n + count_ones (get_or c.args.bits.now c.loop-byte.byte-index 0)) c.loop-byte.invariant
    ∙ sym (count_more c.args.bits.now c.loop-byte.byte-index c.loop-byte-test.true small)

pub returns : goal.returns
returns c = c.loop-byte.invariant ∙ count_all c.args.bits.now c.loop-byte.byte-index c.loop-byte-test.false
