use Rattle.std.proofs.Common.{◌<◌, ◌^◌, arith, count_ones}
use Rattle.std.specs.Prelude.{All}
use Rattle.std.proofs.lemmas.List.{get_or_default}
use Rattle.update_bits.proofs.Between.{sum_by-between}
use Rattle.update_bits.proofs.Ranked.{count_of-front}
use Rattle.update_bits.proofs.words.ones_of_words.Goals as goal

pub returns : goal.returns
returns c =
    let fit : All (λ w. w < 2 ^ 64) c.args.words.now = λ k d inside. omega (arith, c.type_inv.words k, get_or_default c.args.words.now k d 0 inside) in
    omega (
      arith,
      c.sum_ones.ensures,
      sum_by-between count_ones c.args.words.now c.args.first c.args.last c.requires.order,
      count_of-front c.args.words.now c.args.first fit (omega (arith, c.requires.order, c.requires.within)),
      count_of-front c.args.words.now c.args.last fit c.requires.within,
    )
