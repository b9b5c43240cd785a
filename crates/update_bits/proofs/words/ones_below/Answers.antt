use Rattle.std.proofs.Common.{◌/◌, ◌%◌, ◌-◌, ap, arith}
use Rattle.std.proofs.lemmas.Nat.{one_shl}
use Rattle.update_bits.proofs.Ranked.{count_of-below}
use Rattle.update_bits.proofs.words.ones_below.Goals as goal

pub returns : goal.returns
returns c =
    count_of-below c.args.words.now c.args.i _ c.requires (omega (arith, c.type_inv.words (c.args.i / 64))) (ap (λ n. n - 1) (one_shl (c.args.i % 64) 64 (omega arith)))
