use Rattle.std.proofs.Common.{◌≡◌, ◌++◌, ℕ, length, sym, ap, subst, ◌∙◌}
use Rattle.std.specs.List.{All}
use Rattle.graph_model.specs.declared.edge.Way.{Way}
use Rattle.graph_division.specs.Shares.{Share, masters_here, proxies_here}
use Rattle.proxy_graph.specs.Heads.{heads_from}
use Rattle.arc_push.specs.Pushing.{IsLent}
use Rattle.arc_push.proofs.Followed.{Follows, follows_among, lent_by, runs_are_lent, both_followed}
use Rattle.arc_push.proofs.pushing.push_along.Goals as goal

pub push_run-requires-clause-are_lent : goal.push_run-requires-clause-are_lent
push_run-requires-clause-are_lent g c =
    let share = c.args.graph.now in
    let parts : c.in-Some.run' ++ c.in-Some.next_run ≡ heads_from c.args.way share c.args.tail = c.in-Some.ensures ∙ lent_by c.arcs-arcs.result c.args.way share c.args.tail c.arcs-arcs.ensures.way c.arcs-arcs.ensures.share in
    subst (λ n. All (IsLent n) c.in-Some.run') (sym c.requires.items_fit) (runs_are_lent c.args.way share c.requires.is_share c.args.tail c.in-Some.run' c.in-Some.next_run parts).0

pub push_run-requires-in-Some-clause-are_lent : goal.push_run-requires-in-Some-clause-are_lent
push_run-requires-in-Some-clause-are_lent g c =
    let share = c.args.graph.now in
    let parts : c.in-Some.run' ++ c.in-Some.next_run ≡ heads_from c.args.way share c.args.tail = c.in-Some.ensures ∙ lent_by c.arcs-arcs.result c.args.way share c.args.tail c.arcs-arcs.ensures.way c.arcs-arcs.ensures.share in
    subst (λ n. All (IsLent n) c.in-Some.next_run) (sym (c.push_run.ensures.items_fit ∙ c.requires.items_fit)) (runs_are_lent c.args.way share c.requires.is_share c.args.tail c.in-Some.run' c.in-Some.next_run parts).1

pub returns-in-Some-clause-brings : goal.returns-in-Some-clause-brings
returns-in-Some-clause-brings g c =
    let share = c.args.graph.now in
    let steps = g.P.VertexProgram.steps c.args.program.now in
    let masters = length (masters_here share) in
    let proxies = length (proxies_here share) in
    let run = c.in-Some.run' in
    let next_run = c.in-Some.next_run in
    let parts : run ++ next_run ≡ heads_from c.args.way share c.args.tail = c.in-Some.ensures ∙ lent_by c.arcs-arcs.result c.args.way share c.args.tail c.arcs-arcs.ensures.way c.arcs-arcs.ensures.share in
    let lent = runs_are_lent c.args.way share c.requires.is_share c.args.tail run next_run parts in
    let one = follows_among g.P.Red.Item.Word.IsValue g.P.Red.Reduction.reducer steps c.args.y c.masters-masters.ensures.masters c.requires.items_fit
    run c.args.items.now c.args.news.now c.push_run.new.items c.push_run.new.news c.push_run.ensures.brings in
    let other = follows_among g.P.Red.Item.Word.IsValue g.P.Red.Reduction.reducer steps c.args.y c.masters-masters.ensures.masters (c.push_run.ensures.items_fit ∙ c.requires.items_fit)
    next_run c.push_run.new.items c.push_run.new.news c.push_run-in-Some.new.items c.push_run-in-Some.new.news c.push_run-in-Some.ensures.brings in
    subst (λ arcs. Follows g.P.Red.Item.Word.IsValue g.P.Red.Reduction.reducer steps c.args.y masters proxies arcs c.args.items.now c.args.news.now c.push_run-in-Some.new.items c.push_run-in-Some.new.news) parts
    (both_followed g.met.P.Red.Reduction.laws (g.met.P.VertexProgram.laws c.args.program.now) proxies c.args.y c.requires.is_shown masters run next_run lent.0 lent.1
    c.args.items.now c.args.news.now c.push_run.new.items c.push_run.new.news c.push_run-in-Some.new.items c.push_run-in-Some.new.news one other)
