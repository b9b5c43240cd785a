use Rattle.std.proofs.Common.{◌≡◌, sym, ap, subst, ◌∙◌, length, arith}
use Rattle.list_laws.specs.Members.{no_members}
use Rattle.std.specs.Vec.{with_items}
use Rattle.std.proofs.lemmas.List.{with_items_is}
use Rattle.update_bits.proofs.Held.{length-set_in, set_in-none, AreWords-none}
use Rattle.update_bits.specs.Words.{set_in, AreWords, AreMarks}
use Rattle.update_bits.proofs.update_bits.UpdateBits.clear_all.Goals as goal

pub returns : goal.returns
returns c =
    let len : length c.clear_marked.new.words ≡ length c.self.inside.words.items = omega (arith, ap length c.deref_mut.ensures.value, c.clear_marked.auto.words) in
    ap (set_in c.self.inside.count) (with_items_is c.self.inside.words c.clear_marked.new.words (omega (arith, c.self.inside.words.ok.0, len)))
    ∙ set_in-none c.self.inside.count c.clear_marked.new.words (len ∙ c.self.invariant.0.enough) c.clear_marked.ensures.cleared
    ∙ ap no_members (sym (length-set_in c.self.inside.count c.self.inside.words.items c.self.invariant.0.enough) ∙ ap length c.self.view_is)

pub invariant_of-self : goal.invariant_of-self
invariant_of-self c =
    let len : length c.clear_marked.new.words ≡ length c.self.inside.words.items = omega (arith, ap length c.deref_mut.ensures.value, c.clear_marked.auto.words) in
    let words : (with_items c.self.inside.words c.clear_marked.new.words).items ≡ c.clear_marked.new.words
    = with_items_is c.self.inside.words c.clear_marked.new.words (omega (arith, c.self.inside.words.ok.0, len)) in
    let marks : (with_items c.self.inside.marks c.clear_marked.new.marks).items ≡ c.clear_marked.new.marks
    = with_items_is c.self.inside.marks c.clear_marked.new.marks (omega (arith, c.self.inside.marks.ok.0, ap length c.deref_mut-2.ensures.value, c.clear_marked.auto.marks)) in (
      subst (λ now. AreWords c.self.inside.count now) (sym words) (AreWords-none c.self.inside.count c.clear_marked.new.words c.self.invariant.0.short (len ∙ c.self.invariant.0.enough) c.clear_marked.ensures.cleared),
      subst (λ now. AreMarks now (with_items c.self.inside.marks c.clear_marked.new.marks).items) (sym words) (subst (λ now. AreMarks c.clear_marked.new.words now) (sym marks) c.clear_marked.ensures.marks),
    )
