use Rattle.std.proofs.Common.{ℕ, ◌*◌, ◌/◌, ◌%◌, ◌^◌, ◌-◌, ◌∙◌, ap, arith, replicate, length}
use Rattle.std.specs.Prelude.{slice_set}
use Rattle.std.proofs.lemmas.Nat.{one_shl}
use Rattle.list_laws.specs.Bits.{bit_in}
use Rattle.update_bits.proofs.Filled.{filled_whole, filled_part}
use Rattle.update_bits.proofs.words.fill_bits.Goals as goal

pub returns-then-last-ne0 : goal.returns-then-last-ne0
returns-then-last-ne0 c k =
    let place : ℕ = c.args.count / 64 in
    ap (λ words. bit_in (slice_set words place (1 * 2 ^ (c.args.count % 64) % 18446744073709551616 - 1)) k) (c.fill.ensures.after (λ y same. same))
    ∙ ap (λ word. bit_in (slice_set (replicate (length c.args.words.now) 18446744073709551615) place (word - 1)) k) (one_shl (c.args.count % 64) 64 (omega arith))
    ∙ filled_part (length c.args.words.now) c.args.count k c.requires c.if-last-ne0.true

pub returns-else-last-ne0 : goal.returns-else-last-ne0
returns-else-last-ne0 c k =
    ap (λ words. bit_in words k) (c.fill.ensures.after (λ y same. same)) ∙ filled_whole (length c.args.words.now) c.args.count k c.requires c.if-last-ne0.false
