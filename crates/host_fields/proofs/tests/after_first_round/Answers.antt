use Rattle.std.proofs.Common.{◌<◌, length, get_or, sym, ap, subst, ◌∙◌, arith}
use Rattle.std.specs.List.{All}
use Rattle.graph_division.specs.Shares.{masters_here, proxies_here}
use Rattle.host_fields.proofs.tests.after_first_round.Goals as goal

pub settle_news-requires-clause-states_show : goal.settle_news-requires-clause-states_show
settle_news-requires-clause-states_show g c = λ l s y h.
    let master : l < length (masters_here c.args.graph.now) = omega (arith, c.masters-masters.ensures.masters) in
    let proxy : l < length (proxies_here c.args.graph.now) = omega (arith, c.masters-masters.ensures.among) in
    ap (λ xs. get_or xs l y) c.deref_mut-4.ensures.value ∙ c.in_ok-next.ensures.shown.start l y proxy
    ∙ ap (g.P.VertexProgram.steps c.args.program.now).shown (sym (ap (λ xs. get_or xs l s) c.deref_mut-2.ensures.value ∙ c.in_ok-states.ensures.states.start l s master))

pub settle_news-requires-clause-quiet : goal.settle_news-requires-clause-quiet
settle_news-requires-clause-quiet g c = λ l y h.
    let proxy : l < length (proxies_here c.args.graph.now) = omega (arith, c.masters-masters.ensures.among) in
    ap (λ xs. get_or xs l y) c.deref_mut-4.ensures.value ∙ c.in_ok-next.ensures.shown.start l y proxy
    ∙ sym (ap (λ xs. get_or xs l y) c.deref-2.ensures.value ∙ c.in_ok-shown.ensures.shown.start l y proxy)

pub settle_news-requires-clause-next_are : goal.settle_news-requires-clause-next_are
settle_news-requires-clause-next_are g c = subst (All g.P.Shown.Word.IsValue) (sym c.deref_mut-4.ensures.value) c.in_ok-next.ensures.are_shown
