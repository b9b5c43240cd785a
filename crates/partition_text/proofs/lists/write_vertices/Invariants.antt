use Rattle.std.proofs.Common.{take}
use Rattle.io_edge.specs.Writing.{WroteAll, state_of}
use Rattle.answer_writer.specs.Lines.{spaced_numbers}
use Rattle.partition_text.proofs.lists.write_vertices.Given as goal

-- the vertices so far are written
abbrev pub invariant-loop-vertex : goal.invariant-loop-vertex
invariant-loop-vertex g l =
    WroteAll (state_of g.K.Sink l.initial.sink) (state_of g.K.Sink l.sink) (spaced_numbers (take l.vertex-index l.vertices))
