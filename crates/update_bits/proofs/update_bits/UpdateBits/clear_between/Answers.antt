use Rattle.std.proofs.Common.{◌≡◌, ap, sym, subst, ◌∙◌, length, arith}
use Rattle.std.specs.Prelude.{◌&&◌, not, nat_le, nat_lt}
use Rattle.list_laws.specs.Members.{has_member}
use Rattle.std.proofs.lemmas.List.{with_items_is}
use Rattle.update_bits.specs.Words.{set_in, AreWords, AreMarks, AreClearedBetween}
use Rattle.update_bits.proofs.Held.{length-set_in}
use Rattle.update_bits.proofs.Cleared.{AreWords-cleared, AreMarks-between, has_member-between}
use Rattle.update_bits.proofs.update_bits.UpdateBits.clear_between.Goals as goal

pub clear_bits-requires-clause-within : goal.clear_bits-requires-clause-within
clear_bits-requires-clause-within c =
    omega (arith, c.requires.within, ap length c.self.view_is, length-set_in c.self.inside.count c.self.inside.words.items c.self.invariant.0.enough, c.self.invariant.0.enough, ap length c.deref_mut.ensures.value)

pub returns-clause-length : goal.returns-clause-length
returns-clause-length c =
    let len : length c.clear_bits.new.words ≡ length c.self.inside.words.items = omega (arith, ap length c.deref_mut.ensures.value, c.clear_bits.auto.words) in
    ap (λ words. length (set_in c.self.inside.count words)) (with_items_is c.self.inside.words c.clear_bits.new.words (omega (arith, c.self.inside.words.ok.0, len)))
    ∙ length-set_in c.self.inside.count c.clear_bits.new.words (len ∙ c.self.invariant.0.enough)
    ∙ sym (length-set_in c.self.inside.count c.self.inside.words.items c.self.invariant.0.enough)
    ∙ ap length c.self.view_is

pub returns-clause-members : goal.returns-clause-members
returns-clause-members c k =
    let len : length c.clear_bits.new.words ≡ length c.self.inside.words.items = omega (arith, ap length c.deref_mut.ensures.value, c.clear_bits.auto.words) in
    let cleared : AreClearedBetween c.self.inside.words.items c.clear_bits.new.words c.args.start c.args.end
    = subst (λ own. AreClearedBetween own c.clear_bits.new.words c.args.start c.args.end) c.deref_mut.ensures.value c.clear_bits.ensures in
    ap (λ words. has_member (set_in c.self.inside.count words) k) (with_items_is c.self.inside.words c.clear_bits.new.words (omega (arith, c.self.inside.words.ok.0, len)))
    ∙ has_member-between c.self.inside.count c.self.inside.words.items c.clear_bits.new.words c.args.start c.args.end k c.self.invariant.0.enough len cleared
    ∙ ap (λ bits. has_member bits k && not (nat_le c.args.start k && nat_lt k c.args.end)) c.self.view_is

pub invariant_of-self : goal.invariant_of-self
invariant_of-self c =
    let len : length c.clear_bits.new.words ≡ length c.self.inside.words.items = omega (arith, ap length c.deref_mut.ensures.value, c.clear_bits.auto.words) in
    let cleared : AreClearedBetween c.self.inside.words.items c.clear_bits.new.words c.args.start c.args.end
    = subst (λ own. AreClearedBetween own c.clear_bits.new.words c.args.start c.args.end) c.deref_mut.ensures.value c.clear_bits.ensures in
    subst (λ now. AreWords c.self.inside.count now × AreMarks now c.self.inside.marks.items)
    (sym (with_items_is c.self.inside.words c.clear_bits.new.words (omega (arith, c.self.inside.words.ok.0, len)))) (
      AreWords-cleared c.self.inside.count c.self.inside.words.items c.clear_bits.new.words c.args.start c.args.end c.self.invariant.0 len cleared,
      AreMarks-between c.self.inside.words.items c.clear_bits.new.words c.self.inside.marks.items c.args.start c.args.end c.self.invariant.1 len cleared,
    )
