use Rattle.std.proofs.Common.{◌≡◌, ◌+◌, ℕ, sym, ap, subst, ◌∙◌, arith}
use Rattle.std.proofs.lemmas.Option.{get_or_from_slice_get}
use Rattle.graph_division.specs.Shares.{proxies_here}
use Rattle.proxy_graph.specs.Heads.{vertex_at}
use Rattle.host_fields.proofs.Pushing.{AreFirst, AreFirst-push}
use Rattle.host_fields.proofs.starting.start_shown.Goals as goal

pub loop-lid-preserved : goal.loop-lid-preserved
loop-lid-preserved g c =
    let steps = g.P.VertexProgram.steps c.args.program.now in
    let laws = g.met.P.VertexProgram.laws c.args.program.now in
    let Fits : ℕ → g.row.P-Shown.Denot → Type 0 = λ lid value. (value ≡ steps.shown (steps.start (vertex_at c.args.graph.now lid))) × g.P.Shown.Word.IsValue value in
    let vertex : c.global.result ≡ vertex_at c.args.graph.now c.loop-lid.lid = sym (get_or_from_slice_get (proxies_here c.args.graph.now) c.loop-lid.lid c.global.result 0 c.global.ensures.vertex) in
    let shows : c.shown.result ≡ steps.shown (steps.start c.global.result) = c.shown.ensures ∙ ap steps.shown c.start-state.ensures in
    let is_value = laws.shown_is_value (steps.start c.global.result) (laws.start_is_state c.global.result (omega arith)) in
    subst (AreFirst Fits (c.loop-lid.lid + 1)) (sym c.in_ok-push.ensures.items)
    (AreFirst-push Fits c.loop-lid.lid c.loop-lid.shown.items c.shown.result c.loop-lid.invariant
    (shows ∙ ap (λ v. steps.shown (steps.start v)) vertex, subst g.P.Shown.Word.IsValue (sym shows) is_value))
