use Rattle.std.proofs.Common.{◌%◌, ◌-◌, ap, arith}
use Rattle.std.proofs.lemmas.Nat.{one_shl}
use Rattle.update_bits.proofs.LastBits.{none_below, greatest_in_word}
use Rattle.update_bits.proofs.last_bit.last_in_word.Goals as goal

pub returns-then-below-eq0 : goal.returns-then-below-eq0
returns-then-below-eq0 c k before same =
    none_below c.args.words.now c.args.i _ k (ap (λ n. n - 1) (one_shl (c.args.i % 64) 64 (omega arith))) c.if-below-eq0.true before same

pub returns : goal.returns
returns c =
    greatest_in_word c.args.words.now c.args.i _ c.highest_bit.result (ap (λ n. n - 1) (one_shl (c.args.i % 64) 64 (omega arith))) c.highest_bit.ensures
