use Rattle.std.proofs.Common.{◌+◌, ◌++◌, ◌∷◌, [], ◌∙◌, sym, ap, arith, append_assoc, append-nil}
use Rattle.list_laws.specs.Members.{members}
use Rattle.list_laws.proofs.Members.{members_since, members_since-next, members_since-none}
use Rattle.proxy_graph.proofs.numbering.Numbering.mirrors.Goals as goal

pub loop-v-preserved : goal.loop-v-preserved
loop-v-preserved c = record {
  within = omega (arith, c.in-Some.ensures.below);
  written =
      let mirrored = c.bits-mirrored.result.now in
      let rest = members_since mirrored (c.in-Some.v + 1) in
      ap (λ items. items ++ rest) c.in_ok-push.ensures.items
      ∙ append_assoc c.loop-v.mirrors.items (c.in-Some.v ∷ []) rest
      ∙ ap (λ more. c.loop-v.mirrors.items ++ more) (sym (members_since-next mirrored c.loop-v.from c.in-Some.v c.in-Some.ensures.next))
      ∙ c.loop-v.invariant.written;
}

pub returns : goal.returns
returns c =
    let mirrored = c.bits-mirrored.result.now in
    sym (append-nil c.loop-v.mirrors.items)
    ∙ ap (λ more. c.loop-v.mirrors.items ++ more) (sym (members_since-none mirrored c.loop-v.from c.in_default.ensures.next))
    ∙ c.loop-v.invariant.written
    ∙ ap members c.bits-mirrored.ensures
