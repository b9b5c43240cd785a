use Rattle.std.proofs.Common.{◌<◌, ◌+◌, ltb, length, get_or, refl, sym, ap, ◌∙◌, arith}
use Rattle.std.proofs.lemmas.Bool.{and_right, le-ltb}
use Rattle.std.proofs.lemmas.List.{get_or_default}
use Rattle.list_laws.specs.Members.{has_member}
use Rattle.graph_division.specs.Shares.{masters_here, proxies_here}
use Rattle.proxy_graph.specs.Heads.{vertex_at, heads_from}
use Rattle.proxy_graph.proofs.Read.{few_proxies}
use Rattle.host_state.specs.Gained.{gained}
use Rattle.arc_push.specs.Pushing.{brought_by, Begins}
use Rattle.arc_push.proofs.OneMore.{nothing_brought, said_otherwise}
use Rattle.arc_push.proofs.Tails.{gained_below, awake_below, gained_value, none_count, none_below, one_below, all_below, tail_more, counts_otherwise}
use Rattle.arc_push.proofs.pushing.push_awake.Goals as goal

pub loop-tail-init : goal.loop-tail-init
loop-tail-init g c =
    let laws = g.met.P.Red.Reduction.laws in
    let program = g.met.P.VertexProgram.laws c.args.program.now in
    let share = c.args.graph.now in
    let begins : Begins g.P.Red.Item.Word.IsValue g.P.Red.Reduction.reducer (length (masters_here c.args.graph.now)) (length (proxies_here c.args.graph.now)) c.args.items.now c.args.news.now
    = record { long = c.requires.items_fit; news_long = c.requires.news_fit; values = c.requires.items_are; no_news = c.requires.no_news; nothing_kept = c.requires.nothing_kept } in
    record {
      within = omega arith;
      items_fit = refl;
      news_fit = refl;
      values = c.requires.items_are;
      brings = nothing_brought laws (length (masters_here share)) (length (proxies_here share)) c.args.items.now c.args.news.now begins
          (gained_below g.P.Red.Reduction.reducer (g.P.VertexProgram.steps c.args.program.now) share c.args.way c.args.shown.now c.args.awake.now 0)
          (λ none l known. none_count laws program c.args.way share c.told.ensures c.args.shown.now c.requires.shown_fit c.requires.shown_are (awake_below c.args.awake.now 0) (none_below c.args.awake.now) none (vertex_at share l));
    }

pub overflow_add-at : goal.overflow_add-at
overflow_add-at g c =
    let few = few_proxies c.args.graph.now in
    let fit = c.told.ensures.nodes_fit in
    omega (arith, c.in-Some.ensures.below, c.requires.awake_fit, few, fit)

pub loop-tail-preserved : goal.loop-tail-preserved
loop-tail-preserved g c =
    let laws = g.met.P.Red.Reduction.laws in
    let program = g.met.P.VertexProgram.laws c.args.program.now in
    let share = c.args.graph.now in
    let shown = c.args.shown.now in
    let awake = c.args.awake.now in
    let at = c.loop-tail.at in
    let tail = c.in-Some.tail in
    let y = c.index-shown-tail.result in
    let reducer = g.P.Red.Reduction.reducer in
    let steps = g.P.VertexProgram.steps c.args.program.now in
    let begins : Begins g.P.Red.Item.Word.IsValue g.P.Red.Reduction.reducer (length (masters_here c.args.graph.now)) (length (proxies_here c.args.graph.now)) c.args.items.now c.args.news.now
    = record { long = c.requires.items_fit; news_long = c.requires.news_fit; values = c.requires.items_are; no_news = c.requires.no_news; nothing_kept = c.requires.nothing_kept } in
    let is_tail : c.in-Some.tail < length (proxies_here c.args.graph.now) = omega (arith, c.in-Some.ensures.below, c.requires.awake_fit) in
    let here : c.in-Some.tail < length c.args.shown.now = omega (arith, c.in-Some.ensures.below, c.requires.awake_fit, c.requires.shown_fit) in
    record {
      within = omega (arith, c.in-Some.ensures.below);
      items_fit = c.push_along.ensures.items_fit ∙ c.loop-tail.invariant.items_fit;
      news_fit = c.push_along.ensures.news_fit ∙ c.loop-tail.invariant.news_fit;
      values = c.push_along.ensures.are_items;
      brings = said_otherwise laws (length (masters_here share)) (length (proxies_here share)) c.args.items.now c.args.news.now begins
          (λ none l. reducer.combine (gained_below reducer steps share c.args.way shown awake at none l) (brought_by reducer steps y (heads_from c.args.way share tail) l))
          (gained_below reducer steps share c.args.way shown awake (tail + 1)) c.push_along.new.items c.push_along.new.news
          (λ none l known. gained_value laws program c.args.way share c.told.ensures shown c.requires.shown_fit c.requires.shown_are (awake_below awake (tail + 1)) none (vertex_at share l))
          (λ none l known. tail_more laws program c.args.way share c.told.ensures shown c.requires.shown_fit c.requires.shown_are (awake_below awake at) (awake_below awake (tail + 1)) tail y is_tail
          (λ other. sym (c.index-shown-tail.is ∙ get_or_default shown tail y other here))
          (and_right (has_member awake tail) (ltb tail at) (le-ltb tail at c.in-Some.ensures.next.since))
          (one_below awake at tail c.in-Some.ensures.next) none l known)
          (c.push_along.ensures.brings c.args.items.now c.args.news.now (gained_below reducer steps share c.args.way shown awake at) begins c.loop-tail.invariant.brings);
    }

pub returns-clause-gains : goal.returns-clause-gains
unfolding gained
returns-clause-gains g c =
    let laws = g.met.P.Red.Reduction.laws in
    let program = g.met.P.VertexProgram.laws c.args.program.now in
    let share = c.args.graph.now in
    let brings = c.loop-tail.invariant.brings in
    record {
      long = brings.long;
      gains = λ l d none known. brings.brings l d none known
          ∙ ap (g.P.Red.Reduction.reducer.combine (get_or c.args.items.now l d))
          (counts_otherwise laws program c.args.way share c.told.ensures c.args.shown.now c.requires.shown_fit c.requires.shown_are (awake_below c.args.awake.now c.loop-tail.at) (has_member c.args.awake.now)
          (all_below c.args.awake.now c.loop-tail.at c.in_default.ensures.next) none (vertex_at share l));
      news_long = brings.news_long;
      grew = brings.grew;
      untouched = brings.untouched;
    }
