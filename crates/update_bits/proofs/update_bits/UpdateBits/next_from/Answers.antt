use Rattle.std.proofs.Common.{◌<◌, ◌∙◌, ap, sym, length, subst}
use Rattle.std.specs.Prelude.{IfSome}
use Rattle.list_laws.specs.Members.{IsNextMember}
use Rattle.update_bits.specs.Words.{IsNextBit}
use Rattle.update_bits.proofs.Held.{length-set_in, next_member}
use Rattle.update_bits.proofs.update_bits.UpdateBits.next_from.Goals as goal

pub returns-clause-next : goal.returns-clause-next
returns-clause-next c =
    let next = next_member c.self.inside.count c.self.inside.words.items c.args.i c.next_marked.result c.self.invariant.0
    (subst (λ words. IsNextBit words c.args.i c.next_marked.result) c.deref.ensures.value c.next_marked.ensures) in
    subst (λ bits. IsNextMember bits c.args.i c.next_marked.result) c.self.view_is next.0

pub returns-clause-below : goal.returns-clause-below
returns-clause-below c =
    let next = next_member c.self.inside.count c.self.inside.words.items c.args.i c.next_marked.result c.self.invariant.0
    (subst (λ words. IsNextBit words c.args.i c.next_marked.result) c.deref.ensures.value c.next_marked.ensures) in
    subst (λ n. IfSome c.next_marked.result (λ m. m < n)) (sym (length-set_in c.self.inside.count c.self.inside.words.items c.self.invariant.0.enough) ∙ ap length c.self.view_is) next.1
