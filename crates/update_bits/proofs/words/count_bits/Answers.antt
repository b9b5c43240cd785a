use Rattle.std.proofs.Common.{◌∙◌, arith}
use Rattle.std.proofs.lemmas.List.{get_or_default}
use Rattle.list_laws.proofs.Words.{ones-unpacked}
use Rattle.update_bits.proofs.words.count_bits.Goals as goal

pub returns : goal.returns
returns c =
    c.sum_ones.ensures
    ∙ ones-unpacked c.args.words.now (λ k d inside. omega (arith, c.type_inv.words k, get_or_default c.args.words.now k d 0 inside))
