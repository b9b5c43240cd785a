use Rattle.std.proofs.Common.{take}
use Rattle.std.specs.List.{flat_map, zip}
use Rattle.io_edge.specs.Writing.{WroteAll, state_of}
use Rattle.graph_division.specs.Shares.{masters_here}
use Rattle.run_answers.specs.States.{state_line}
use Rattle.run_answers.proofs.answers.write_answers_of.Given as goal

-- the masters so far are written
abbrev pub invariant-loop-lid : goal.invariant-loop-lid
invariant-loop-lid g l =
    WroteAll (state_of g.K.Sink l.initial.sink) (state_of g.K.Sink l.sink)
    (flat_map (state_line (g.P.VertexProgram.steps l.program).answer) (take l.lid (zip (masters_here l.host.graph) l.host.view.states)))
