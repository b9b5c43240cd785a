use Rattle.std.proofs.Common.{sym, ap, ◌∙◌, length}
use Rattle.update_bits.proofs.Held.{length-set_in}
use Rattle.update_bits.proofs.update_bits.UpdateBits.len.Goals as goal

pub returns : goal.returns
returns c = sym (length-set_in c.self.inside.count c.self.inside.words.items c.self.invariant.0.enough) ∙ ap length c.self.view_is
