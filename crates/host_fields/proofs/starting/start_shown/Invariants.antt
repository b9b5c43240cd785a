use Rattle.std.proofs.Common.{◌≡◌}
use Rattle.proxy_graph.specs.Heads.{vertex_at}
use Rattle.host_fields.proofs.Pushing.{AreFirst}
use Rattle.host_fields.proofs.starting.start_shown.Given as goal

-- what the proxies so far show
abbrev pub invariant-loop-lid : goal.invariant-loop-lid
invariant-loop-lid g l =
    let steps = g.P.VertexProgram.steps l.program in
    AreFirst (λ lid value. (value ≡ steps.shown (steps.start (vertex_at l.graph lid))) × g.P.Shown.Word.IsValue value) l.lid l.shown.items
