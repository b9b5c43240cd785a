use Rattle.std.proofs.Common.{◌∙◌, ap, sym, arith, false, length, slice_index_or}
use Rattle.std.proofs.lemmas.List.{length-set}
use Rattle.std.proofs.lemmas.List.Sums.{fold_more}
use Rattle.list_laws.specs.Members.{without_member}
use Rattle.update_bits.proofs.update_bits.UpdateBits.clear_each.Goals as goal

pub clear-requires : goal.clear-requires
clear-requires c = omega (arith, c.requires c.loop-number.number-index 0 (omega arith), c.loop-number.invariant.1)

pub loop-number-preserved : goal.loop-number-preserved
loop-number-preserved c =
    let number = slice_index_or c.args.numbers.now c.loop-number.number-index 0 in (
      c.clear.ensures
          ∙ ap (λ bits. without_member bits number) c.loop-number.invariant.0
          ∙ sym (fold_more without_member c.args.self.now c.args.numbers.now c.loop-number.number-index 0 (omega arith)),
      ap length c.clear.ensures ∙ length-set c.loop-number.self number false ∙ c.loop-number.invariant.1,
    )
