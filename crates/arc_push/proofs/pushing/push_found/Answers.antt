use Rattle.std.proofs.Common.{◌≡◌, length, sym, subst, ◌∙◌}
use Rattle.std.specs.List.{All}
use Rattle.graph_division.specs.Shares.{masters_here, proxies_here}
use Rattle.proxy_graph.specs.Heads.{heads_from}
use Rattle.arc_push.specs.Pushing.{IsLent}
use Rattle.arc_push.proofs.Followed.{Follows, follows_among, lent_by, heads_are_lent}
use Rattle.arc_push.proofs.pushing.push_found.Goals as goal

pub push_heads-requires-clause-are_lent : goal.push_heads-requires-clause-are_lent
push_heads-requires-clause-are_lent g c =
    let share = c.args.graph.now in
    let same : c.heads_of.result ≡ heads_from c.args.way share c.args.tail = c.heads_of.ensures ∙ lent_by c.arcs-arcs.result c.args.way share c.args.tail c.arcs-arcs.ensures.way c.arcs-arcs.ensures.share in
    subst (λ n. All (IsLent n) c.heads_of.result) (sym c.requires.items_fit)
    (subst (All (IsLent (length (proxies_here share)))) (sym same) (heads_are_lent c.args.way share c.requires.is_share c.args.tail))

pub returns-clause-brings : goal.returns-clause-brings
returns-clause-brings g c =
    let share = c.args.graph.now in
    let steps = g.P.VertexProgram.steps c.args.program.now in
    let masters = length (masters_here share) in
    let proxies = length (proxies_here share) in
    let same : c.heads_of.result ≡ heads_from c.args.way share c.args.tail = c.heads_of.ensures ∙ lent_by c.arcs-arcs.result c.args.way share c.args.tail c.arcs-arcs.ensures.way c.arcs-arcs.ensures.share in
    subst (λ arcs. Follows g.P.Red.Item.Word.IsValue g.P.Red.Reduction.reducer steps c.args.y masters proxies arcs c.args.items.now c.args.news.now c.push_heads.new.items c.push_heads.new.news) same
    (follows_among g.P.Red.Item.Word.IsValue g.P.Red.Reduction.reducer steps c.args.y c.masters-masters.ensures.masters c.requires.items_fit
    c.heads_of.result c.args.items.now c.args.news.now c.push_heads.new.items c.push_heads.new.news c.push_heads.ensures.brings)
