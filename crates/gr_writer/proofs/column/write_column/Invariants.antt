use Rattle.std.proofs.Common.{take}
use Rattle.list_laws.specs.LittleEndian.{le_text}
use Rattle.io_edge.specs.Writing.{WroteAll, state_of}
use Rattle.gr_writer.specs.Column.{entries_of}
use Rattle.gr_writer.proofs.column.write_column.Given as goal

-- the entries of the edges so far were written
abbrev pub invariant-loop-edge : goal.invariant-loop-edge
invariant-loop-edge g l = WroteAll (state_of g.K.Sink l.initial.sink) (state_of g.K.Sink l.sink) (le_text 4 (take l.edge-index (entries_of l.column l.edges)))
