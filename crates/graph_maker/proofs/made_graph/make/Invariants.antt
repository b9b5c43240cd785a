use Rattle.std.proofs.Common.{◌≡◌}
use Rattle.std.specs.List.{flat_map, range_with_len}
use Rattle.graph_maker.specs.Words.{state_at}
use Rattle.graph_maker.specs.MadeGraph.{words_before, edges_of}
use Rattle.graph_maker.proofs.made_graph.make.Given as goal

abbrev pub invariant-loop-node : goal.invariant-loop-node
invariant-loop-node l = record {
  edges : l.edges.items ≡ flat_map (edges_of l.size l.fn.number) (range_with_len 0 l.node);
  words : l.words ≡ state_at l.fn.number (words_before l.node);
}
