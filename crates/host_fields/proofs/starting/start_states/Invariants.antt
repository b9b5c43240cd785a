use Rattle.std.proofs.Common.{◌≡◌}
use Rattle.proxy_graph.specs.Heads.{vertex_at}
use Rattle.host_fields.proofs.Pushing.{AreFirst}
use Rattle.host_fields.proofs.starting.start_states.Given as goal

-- the states of the masters so far
abbrev pub invariant-loop-lid : goal.invariant-loop-lid
invariant-loop-lid g l = AreFirst (λ lid state. (state ≡ (g.P.VertexProgram.steps l.program).start (vertex_at l.graph lid)) × g.P.VertexProgram.IsState state) l.lid l.states.items
