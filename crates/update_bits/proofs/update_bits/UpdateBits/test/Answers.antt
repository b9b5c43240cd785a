use Rattle.std.proofs.Common.{sym, ap, ◌∙◌, ◌<◌, length, arith}
use Rattle.list_laws.specs.Bits.{bit_in}
use Rattle.list_laws.specs.Members.{has_member}
use Rattle.update_bits.proofs.Held.{length-set_in, has_member-set_in}
use Rattle.update_bits.proofs.update_bits.UpdateBits.test.Goals as goal

pub returns : goal.returns
returns c =
    let below : c.args.i < c.self.inside.count = omega (arith, c.requires, ap length c.self.view_is, length-set_in c.self.inside.count c.self.inside.words.items c.self.invariant.0.enough) in
    c.test_bit.ensures
    ∙ ap (λ words. bit_in words c.args.i) c.deref.ensures.value
    ∙ sym (has_member-set_in c.self.inside.count c.self.inside.words.items c.args.i below)
    ∙ ap (λ bits. has_member bits c.args.i) c.self.view_is
