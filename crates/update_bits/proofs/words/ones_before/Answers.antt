use Rattle.std.proofs.Common.{◌≡◌, ◌<◌, ◌^◌, ◌∙◌, sym, arith, sum_by, count_ones}
use Rattle.std.specs.Prelude.{All}
use Rattle.std.proofs.lemmas.List.{get_or_default}
use Rattle.std.proofs.lemmas.List.Sums.{sum_by_more_le}
use Rattle.list_laws.specs.Bits.{unpacked}
use Rattle.list_laws.specs.Members.{count_of}
use Rattle.list_laws.proofs.Members.{count_of-count_by}
use Rattle.list_laws.proofs.Words.{ones-unpacked}
use Rattle.update_bits.proofs.Ranked.{AreCountsBefore-sums}
use Rattle.update_bits.proofs.words.ones_before.Goals as goal

pub overflow_add-passed : goal.overflow_add-passed
overflow_add-passed c =
    let fit : All (λ w. w < 2 ^ 64) c.args.words.now = λ k d inside. omega (arith, c.type_inv.words k, get_or_default c.args.words.now k d 0 inside) in
    let all : sum_by count_ones c.args.words.now ≡ count_of (unpacked 64 c.args.words.now) = ones-unpacked c.args.words.now fit ∙ sym (count_of-count_by (unpacked 64 c.args.words.now)) in
    omega (arith, c.requires, all, c.loop-word.invariant.0, sum_by_more_le count_ones c.args.words.now c.loop-word.word-index 0 c.loop-word-test.true)

pub returns : goal.returns
returns c =
    let fit : All (λ w. w < 2 ^ 64) c.args.words.now = λ k d inside. omega (arith, c.type_inv.words k, get_or_default c.args.words.now k d 0 inside) in
    AreCountsBefore-sums c.args.words.now c.loop-word.before.items fit (omega (arith, c.loop-word.invariant.1)) (λ w inside. c.loop-word.invariant.2 w (omega arith))
