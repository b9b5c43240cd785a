use Rattle.std.proofs.Common.{ap, sym, subst, ◌∙◌, ◌≡◌, ◌<◌, ◌/◌, length, arith, true}
use Rattle.std.specs.Prelude.{slice_set}
use Rattle.std.specs.Vec.{with_items}
use Rattle.std.proofs.lemmas.List.{with_items_is}
use Rattle.update_bits.specs.Words.{set_in, AreWords, AreMarks}
use Rattle.update_bits.proofs.Held.{length-set_in, OneBit, OneBit-lent, set_in-one, AreWords-one}
use Rattle.update_bits.proofs.Marked.{AreMarks-set}
use Rattle.update_bits.proofs.update_bits.UpdateBits.set.Goals as goal

pub returns : goal.returns
returns c =
    let below : c.args.i < c.self.inside.count = omega (arith, c.requires, ap length c.self.view_is, length-set_in c.self.inside.count c.self.inside.words.items c.self.invariant.0.enough) in
    let one : OneBit c.self.inside.words.items c.set_bit.new.words c.args.i true
    = OneBit-lent c.self.inside.words.items c.deref_mut-2.result.now c.set_bit.new.words c.args.i true c.deref_mut-2.ensures.value c.set_bit.auto.words c.set_bit.ensures.set c.set_bit.ensures.others in
    ap (set_in c.self.inside.count) (with_items_is c.self.inside.words c.set_bit.new.words (omega (arith, c.self.inside.words.ok.0, one.len)))
    ∙ set_in-one c.self.inside.count c.self.inside.words.items c.set_bit.new.words c.args.i true c.self.invariant.0 below one
    ∙ ap (λ bits. slice_set bits c.args.i true) c.self.view_is

pub invariant_of-self : goal.invariant_of-self
invariant_of-self c =
    let below : c.args.i < c.self.inside.count = omega (arith, c.requires, ap length c.self.view_is, length-set_in c.self.inside.count c.self.inside.words.items c.self.invariant.0.enough) in
    let one : OneBit c.self.inside.words.items c.set_bit.new.words c.args.i true
    = OneBit-lent c.self.inside.words.items c.deref_mut-2.result.now c.set_bit.new.words c.args.i true c.deref_mut-2.ensures.value c.set_bit.auto.words c.set_bit.ensures.set c.set_bit.ensures.others in
    let mark : OneBit c.self.inside.marks.items c.mark_word.new.marks (c.args.i / 64) true
    = OneBit-lent c.self.inside.marks.items c.deref_mut.result.now c.mark_word.new.marks (c.args.i / 64) true c.deref_mut.ensures.value c.mark_word.auto.marks c.mark_word.ensures.set c.mark_word.ensures.others in
    let inside : c.args.i / 64 < length c.self.inside.words.items = omega (arith, c.self.invariant.0.enough) in
    let words_now : (with_items c.self.inside.words c.set_bit.new.words).items ≡ c.set_bit.new.words
    = with_items_is c.self.inside.words c.set_bit.new.words (omega (arith, c.self.inside.words.ok.0, one.len)) in
    let marks_now : (with_items c.self.inside.marks c.mark_word.new.marks).items ≡ c.mark_word.new.marks
    = with_items_is c.self.inside.marks c.mark_word.new.marks (omega (arith, c.self.inside.marks.ok.0, mark.len)) in (
      subst (λ now. AreWords c.self.inside.count now) (sym words_now) (AreWords-one c.self.inside.count c.self.inside.words.items c.set_bit.new.words c.args.i true c.self.invariant.0 below one),
      subst (λ now. AreMarks now (with_items c.self.inside.marks c.mark_word.new.marks).items) (sym words_now)
          (subst (λ now. AreMarks c.set_bit.new.words now) (sym marks_now)
          (AreMarks-set c.self.inside.words.items c.set_bit.new.words c.self.inside.marks.items c.mark_word.new.marks c.args.i c.self.invariant.1 inside one mark)),
    )
