use Rattle.std.proofs.Common.{ap, ◌∙◌}
use Rattle.std.proofs.lemmas.List.{length-replicate}
use Rattle.update_bits.specs.Words.{set_in}
use Rattle.update_bits.proofs.Held.{bit_in-zeros, set_in-none}
use Rattle.update_bits.proofs.update_bits.UpdateBits.new.Goals as goal

pub returns : goal.returns
returns c =
    ap (set_in c.args.n) (c.in_ok-vec.ensures.items_if_clones_equal (λ y same. same))
    ∙ set_in-none c.args.n _ (length-replicate c.words_for-words.result 0 ∙ c.words_for-words.ensures) (bit_in-zeros c.words_for-words.result)
