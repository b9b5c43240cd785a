use Rattle.std.proofs.Common.{◌≡◌, sym, ap, subst, ◌∙◌, length}
use Rattle.update_bits.specs.Words.{set_in, AreWords}
use Rattle.update_bits.proofs.Held.{length-set_in}
use Rattle.update_bits.proofs.update_bits.UpdateBits.words.Goals as goal

pub returns-clause-words : goal.returns-clause-words
returns-clause-words c =
    let len : c.self.inside.count ≡ length c.args.self.now = sym (length-set_in c.self.inside.count c.self.inside.words.items c.self.invariant.0.enough) ∙ ap length c.self.view_is in
    subst (λ count. AreWords count c.deref.result.now) len (subst (λ words. AreWords c.self.inside.count words) (sym c.deref.ensures.value) c.self.invariant.0)

pub returns-clause-set : goal.returns-clause-set
returns-clause-set c =
    let len : c.self.inside.count ≡ length c.args.self.now = sym (length-set_in c.self.inside.count c.self.inside.words.items c.self.invariant.0.enough) ∙ ap length c.self.view_is in
    ap (λ count. set_in count c.deref.result.now) (sym len) ∙ ap (set_in c.self.inside.count) c.deref.ensures.value ∙ c.self.view_is
