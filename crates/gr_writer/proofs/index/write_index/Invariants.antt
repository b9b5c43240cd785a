use Rattle.std.proofs.Common.{◌≤◌, take, map}
use Rattle.std.specs.List.{range_with_len}
use Rattle.list_laws.specs.LittleEndian.{le_text}
use Rattle.io_edge.specs.Writing.{WroteAll, state_of}
use Rattle.gr_writer.specs.File.{end_of}
use Rattle.gr_writer.proofs.index.write_index.Given as goal

-- the ends of the nodes so far were written
abbrev pub invariant-loop-node : goal.invariant-loop-node
invariant-loop-node g l = record {
  written : WroteAll (state_of g.K.Sink l.initial.sink) (state_of g.K.Sink l.sink) (le_text 8 (take l.node (map (end_of l.edges) (range_with_len 0 l.nodes))));
  before : l.end ≤ end_of l.edges l.node;
}
