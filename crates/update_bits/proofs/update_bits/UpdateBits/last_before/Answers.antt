use Rattle.std.proofs.Common.{◌≤◌, ap, subst, length, arith}
use Rattle.update_bits.specs.LastBits.{IsLastBit}
use Rattle.update_bits.specs.Members.{IsLastMember}
use Rattle.update_bits.proofs.Held.{length-set_in}
use Rattle.update_bits.proofs.LastBits.{last_member}
use Rattle.update_bits.proofs.update_bits.UpdateBits.last_before.Goals as goal

pub returns : goal.returns
returns c =
    let within : c.args.end ≤ c.self.inside.count = omega (arith, c.requires, ap length c.self.view_is, length-set_in c.self.inside.count c.self.inside.words.items c.self.invariant.0.enough) in
    subst (λ bits. IsLastMember bits c.args.end c.last_bit.result) c.self.view_is
    (last_member c.self.inside.count c.self.inside.words.items c.args.end c.last_bit.result within
    (subst (λ words. IsLastBit words c.args.end c.last_bit.result) c.deref.ensures.value c.last_bit.ensures))
