use Rattle.std.proofs.Common.{ap, ◌∙◌, ◌≡◌, length, arith}
use Rattle.std.specs.Prelude.{count_by}
use Rattle.list_laws.specs.Bits.{unpacked}
use Rattle.list_laws.specs.Members.{count_of}
use Rattle.list_laws.proofs.Members.{count_of-le-length}
use Rattle.update_bits.proofs.Held.{length-set_in, count-unpacked}
use Rattle.update_bits.proofs.update_bits.UpdateBits.count.Goals as goal

pub returns : goal.returns
returns c =
    c.count_bits.ensures
    ∙ ap (λ words. count_by (λ b. b) (unpacked 64 words)) c.deref.ensures.value
    ∙ count-unpacked c.self.inside.count c.self.inside.words.items c.self.invariant.0
    ∙ ap count_of c.self.view_is

pub overflow_cast-result : goal.overflow_cast-result
overflow_cast-result c =
    let counted : c.count_bits.result ≡ count_of c.args.self.now =
    c.count_bits.ensures
    ∙ ap (λ words. count_by (λ b. b) (unpacked 64 words)) c.deref.ensures.value
    ∙ count-unpacked c.self.inside.count c.self.inside.words.items c.self.invariant.0
    ∙ ap count_of c.self.view_is in
    omega (arith, counted, count_of-le-length c.args.self.now, ap length c.self.view_is, length-set_in c.self.inside.count c.self.inside.words.items c.self.invariant.0.enough, c.self.invariant.0.short)
