use Rattle.std.proofs.Common.{◌≡◌, ◌+◌, ◌/◌, ◌<◌, ◌∙◌, ap, arith, get_or, take, length}
use Rattle.std.proofs.lemmas.List.{get_or_default, length-take}
use Rattle.list_laws.specs.Members.{count_of}
use Rattle.list_laws.proofs.Members.{count_of-le-length}
use Rattle.update_bits.proofs.Ranked.{count_of-rank}
use Rattle.update_bits.proofs.ranked_bits.RankedBits.rank.Goals as goal

pub overflow_add-result : goal.overflow_add-result
overflow_add-result c =
    let bits = c.self.inside.bits in
    let inside : c.args.i < length bits = omega (arith, c.requires, ap length c.self.view_is) in
    let at : c.index.result.now ≡ get_or c.self.inside.before.items (c.args.i / 64) 0
    = c.index.ensures ∙ get_or_default c.self.inside.before.items (c.args.i / 64) c.index.result.now 0 (omega (arith, c.self.invariant.each)) in
    let all = count_of-rank (length bits) c.args.i c.ones_below.result c.words.result.now c.self.inside.before.items bits c.words.ensures.words c.words.ensures.set c.self.invariant inside c.ones_below.ensures in
    omega (arith, at, all, count_of-le-length (take c.args.i bits), length-take c.args.i bits)

pub returns : goal.returns
returns c =
    let bits = c.self.inside.bits in
    let inside : c.args.i < length bits = omega (arith, c.requires, ap length c.self.view_is) in
    let at : c.index.result.now ≡ get_or c.self.inside.before.items (c.args.i / 64) 0
    = c.index.ensures ∙ get_or_default c.self.inside.before.items (c.args.i / 64) c.index.result.now 0 (omega (arith, c.self.invariant.each)) in
    ap (λ n. n + c.ones_below.result) at
    ∙ count_of-rank (length bits) c.args.i c.ones_below.result c.words.result.now c.self.inside.before.items bits c.words.ensures.words c.words.ensures.set c.self.invariant inside c.ones_below.ensures
    ∙ ap (λ own. count_of (take c.args.i own)) c.self.view_is
