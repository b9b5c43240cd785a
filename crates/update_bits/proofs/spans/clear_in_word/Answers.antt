use Rattle.std.proofs.Common.{◌≡◌, ℕ, ◌+◌, ◌-◌, ◌*◌, ◌/◌, ◌%◌, ◌^◌, ◌∙◌, ap, arith}
use Rattle.std.proofs.Math.Nat.{div-le_self}
use Rattle.std.proofs.lemmas.Nat.{one_shl}
use Rattle.std.proofs.lemmas.Nat.Bits.{ones_shr}
use Rattle.update_bits.proofs.Cleared.{cleared_in_word}
use Rattle.update_bits.proofs.spans.clear_in_word.Goals as goal

pub returns : goal.returns
returns c =
    let last : ℕ = (c.args.end - 1) % 64 in
    let shift : 64 - (63 - last) ≡ last + 1 = omega arith in
    cleared_in_word c.args.words.now c.args.start c.args.end (1 * 2 ^ (c.args.start % 64) % 18446744073709551616 - 1) (18446744073709551615 / 2 ^ (63 - last))
    c.requires.some c.requires.one_word c.requires.within
    (ap (λ n. n - 1) (one_shl (c.args.start % 64) 64 (omega arith)))
    (ones_shr 64 (63 - last) (omega arith) ∙ ap (λ n. 2 ^ n - 1) shift)
    (omega (arith, div-le_self 18446744073709551615 (2 ^ (63 - last))))
