use Rattle.std.proofs.Common.{◌≡◌, suc, ◌+◌, [], ◌∷◌, ◌++◌, length, vec_len, refl, sym, ap, ◌∙◌, subst, arith}
use Rattle.std.specs.List.{All}
use Rattle.std.specs.Vec.Iter.{into_iter_items}
use Rattle.std.proofs.lemmas.List.{length-append}
use Rattle.partition_build.specs.Rooms.{IsRoom, shares_from}
use Rattle.partition_build.proofs.SharesMade.{shares_more}
use Rattle.partition_build.proofs.assembly.assemble_each.Goals as goal

pub loop-edges-preserved : goal.loop-edges-preserved
loop-edges-preserved c =
    let done = c.loop-edges.graphs.items in
    let rest = into_iter_items c.next.new.self in
    let before = c.loop-edges.invariant in
    let parted = c.in-Some.ensures.steps.0 in
    let pushed = c.in_ok-push.ensures.items in
    let longer : length (done ++ c.in_ok-assemble_for.field-0 ∷ []) ≡ length done + 1 = length-append done (c.in_ok-assemble_for.field-0 ∷ []) in
    let fewer = ap length parted in
    let counted : vec_len c.loop-edges.graphs ≡ length done = c.loop-edges.graphs.ok.0 in
    let rooms = subst (λ xs. All (IsRoom c.args.nodes) xs) parted before.rooms in
    record {
      all = rw (pushed, longer) (shares_more c.args.plan.now c.args.nodes done c.in-Some.edges rest c.in_ok-assemble_for.field-0
          (rw (c.in_ok-assemble_for.ensures, c.len-host.ensures, counted, c.masters.ensures.hosts, c.masters.ensures.masters, c.deref.ensures.value) refl)
          ∙ ap (λ xs. done ++ shares_from c.args.plan.now c.args.nodes (length done) xs) (sym parted)
          ∙ before.all);
      count = let count = before.count in let long = ap length pushed in omega (arith, count, long, longer, fewer);
      rooms = λ k d within. rooms (suc k) d (omega arith);
      nodes = before.nodes;
      few = before.few;
      few_hosts = before.few_hosts;
    }
