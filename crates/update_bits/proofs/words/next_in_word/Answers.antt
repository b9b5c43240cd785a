use Rattle.std.proofs.Common.{◌/◌, arith}
use Rattle.update_bits.proofs.FirstBits.{first_from, none_from}
use Rattle.update_bits.proofs.words.next_in_word.Goals as goal

pub overflow_add-result : goal.overflow_add-result
overflow_add-result c =
    let found = first_from c.args.words.now c.args.i (omega (arith, c.type_inv.words (c.args.i / 64))) (omega arith) in
    omega (arith, found.0)

pub returns-then-rest-eq0 : goal.returns-then-rest-eq0
returns-then-rest-eq0 c k since same = none_from c.args.words.now c.args.i k (omega arith) since same

pub returns : goal.returns
returns c = (first_from c.args.words.now c.args.i (omega (arith, c.type_inv.words (c.args.i / 64))) (omega arith)).1
