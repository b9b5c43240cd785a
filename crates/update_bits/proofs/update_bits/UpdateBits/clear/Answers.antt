use Rattle.std.proofs.Common.{ap, sym, subst, ◌∙◌, ◌<◌, length, arith, false}
use Rattle.std.specs.Prelude.{slice_set}
use Rattle.std.proofs.lemmas.List.{with_items_is}
use Rattle.update_bits.specs.Words.{set_in, AreWords, AreMarks}
use Rattle.update_bits.proofs.Held.{length-set_in, OneBit, OneBit-lent, set_in-one, AreWords-one}
use Rattle.update_bits.proofs.Marked.{AreMarks-cleared}
use Rattle.update_bits.proofs.update_bits.UpdateBits.clear.Goals as goal

pub returns : goal.returns
returns c =
    let below : c.args.i < c.self.inside.count = omega (arith, c.requires, ap length c.self.view_is, length-set_in c.self.inside.count c.self.inside.words.items c.self.invariant.0.enough) in
    let one : OneBit c.self.inside.words.items c.clear_bit.new.words c.args.i false
    = OneBit-lent c.self.inside.words.items c.deref_mut.result.now c.clear_bit.new.words c.args.i false c.deref_mut.ensures.value c.clear_bit.auto.words c.clear_bit.ensures.cleared c.clear_bit.ensures.others in
    ap (set_in c.self.inside.count) (with_items_is c.self.inside.words c.clear_bit.new.words (omega (arith, c.self.inside.words.ok.0, one.len)))
    ∙ set_in-one c.self.inside.count c.self.inside.words.items c.clear_bit.new.words c.args.i false c.self.invariant.0 below one
    ∙ ap (λ bits. slice_set bits c.args.i false) c.self.view_is

pub invariant_of-self : goal.invariant_of-self
invariant_of-self c =
    let below : c.args.i < c.self.inside.count = omega (arith, c.requires, ap length c.self.view_is, length-set_in c.self.inside.count c.self.inside.words.items c.self.invariant.0.enough) in
    let one : OneBit c.self.inside.words.items c.clear_bit.new.words c.args.i false
    = OneBit-lent c.self.inside.words.items c.deref_mut.result.now c.clear_bit.new.words c.args.i false c.deref_mut.ensures.value c.clear_bit.auto.words c.clear_bit.ensures.cleared c.clear_bit.ensures.others in
    subst (λ now. AreWords c.self.inside.count now × AreMarks now c.self.inside.marks.items)
    (sym (with_items_is c.self.inside.words c.clear_bit.new.words (omega (arith, c.self.inside.words.ok.0, one.len)))) (
      AreWords-one c.self.inside.count c.self.inside.words.items c.clear_bit.new.words c.args.i false c.self.invariant.0 below one,
      AreMarks-cleared c.self.inside.words.items c.clear_bit.new.words c.self.inside.marks.items c.args.i c.self.invariant.1 one,
    )
