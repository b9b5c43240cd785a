use Rattle.std.proofs.Common.{◌≡◌, ◌<◌, ◌^◌, ap, arith, take, sum_by, count_ones}
use Rattle.std.specs.Prelude.{All}
use Rattle.std.proofs.lemmas.List.{get_or_default, take_all}
use Rattle.std.proofs.lemmas.List.Elements.{All-take}
use Rattle.list_laws.proofs.Words.{ones-unpacked}
use Rattle.update_bits.proofs.words.word_of_nth.Goals as goal

pub returns-then-left-ones-clause-before : goal.returns-then-left-ones-clause-before
returns-then-left-ones-clause-before c =
    let fit : All (λ w. w < 2 ^ 64) c.args.words.now = λ k d inside. omega (arith, c.type_inv.words k, get_or_default c.args.words.now k d 0 inside) in
    let front = take c.loop-number.number c.args.words.now in
    omega (arith, c.loop-number.invariant, ones-unpacked front (All-take (λ w. w < 2 ^ 64) c.loop-number.number c.args.words.now fit))

pub unreachable-requires : goal.unreachable-requires
unreachable-requires c =
    let fit : All (λ w. w < 2 ^ 64) c.args.words.now = λ k d inside. omega (arith, c.type_inv.words k, get_or_default c.args.words.now k d 0 inside) in
    let whole : take c.loop-number.number c.args.words.now ≡ c.args.words.now = take_all c.loop-number.number c.args.words.now c.loop-number-test.false in
    omega (arith, c.requires.within, c.loop-number.invariant, ap (sum_by count_ones) whole, ones-unpacked c.args.words.now fit)
