use Rattle.std.proofs.Common.{◌≡◌, sym, ap, subst, ◌∙◌, length, arith, ℕ}
use Rattle.std.specs.Prelude.{nat_lt}
use Rattle.list_laws.specs.Bits.{bit_in}
use Rattle.list_laws.specs.Members.{all_members}
use Rattle.std.specs.Vec.{with_items}
use Rattle.std.proofs.lemmas.List.{with_items_is}
use Rattle.update_bits.specs.Words.{set_in, AreWords, AreMarks}
use Rattle.update_bits.proofs.Held.{length-set_in, set_in-all, AreWords-all}
use Rattle.update_bits.proofs.Marked.{AreMarks-all}
use Rattle.update_bits.proofs.update_bits.UpdateBits.set_all.Goals as goal

pub returns : goal.returns
returns c =
    let len : length c.fill_bits.new.words ≡ length c.self.inside.words.items = omega (arith, ap length c.deref_mut.ensures.value, c.fill_bits.auto.words) in
    ap (set_in c.self.inside.count) (with_items_is c.self.inside.words c.fill_bits.new.words (omega (arith, c.self.inside.words.ok.0, len)))
    ∙ set_in-all c.self.inside.count c.self.inside.words.items c.fill_bits.new.words c.self.invariant.0 len c.fill_bits.ensures
    ∙ ap all_members (sym (length-set_in c.self.inside.count c.self.inside.words.items c.self.invariant.0.enough) ∙ ap length c.self.view_is)

pub invariant_of-self : goal.invariant_of-self
invariant_of-self c =
    let len : length c.fill_bits.new.words ≡ length c.self.inside.words.items = omega (arith, ap length c.deref_mut.ensures.value, c.fill_bits.auto.words) in
    let marks_len : length c.fill_bits-2.new.words ≡ length c.self.inside.marks.items = omega (arith, ap length c.deref_mut-2.ensures.value, c.fill_bits-2.auto.words) in
    let words_now : (with_items c.self.inside.words c.fill_bits.new.words).items ≡ c.fill_bits.new.words
    = with_items_is c.self.inside.words c.fill_bits.new.words (omega (arith, c.self.inside.words.ok.0, len)) in
    let marks_now : (with_items c.self.inside.marks c.fill_bits-2.new.words).items ≡ c.fill_bits-2.new.words
    = with_items_is c.self.inside.marks c.fill_bits-2.new.words (omega (arith, c.self.inside.marks.ok.0, marks_len)) in
    let each : (k : ℕ) → bit_in c.fill_bits-2.new.words k ≡ nat_lt k (length c.fill_bits.new.words)
    = λ k. c.fill_bits-2.ensures k ∙ ap (nat_lt k) (omega (arith, c.len.ensures, c.self.inside.words.ok.0, len)) in (
      subst (λ now. AreWords c.self.inside.count now) (sym words_now) (AreWords-all c.self.inside.count c.self.inside.words.items c.fill_bits.new.words c.self.invariant.0 len c.fill_bits.ensures),
      subst (λ now. AreMarks now (with_items c.self.inside.marks c.fill_bits-2.new.words).items) (sym words_now)
          (subst (λ now. AreMarks c.fill_bits.new.words now) (sym marks_now)
          (AreMarks-all c.self.inside.words.items c.fill_bits.new.words c.self.inside.marks.items c.fill_bits-2.new.words c.self.invariant.1 len marks_len each)),
    )
