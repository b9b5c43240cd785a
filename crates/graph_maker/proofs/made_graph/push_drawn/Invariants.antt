use Rattle.std.proofs.Common.{◌≡◌, ◌++◌, map}
use Rattle.graph_maker.specs.Words.{state_at, words_from}
use Rattle.graph_maker.specs.MadeGraph.{drawn_edge}
use Rattle.graph_maker.proofs.made_graph.push_drawn.Given as goal

abbrev pub invariant-loop-i : goal.invariant-loop-i
invariant-loop-i l = record {
  edges : l.edges.items ≡ l.initial.edges.items ++ map (drawn_edge l.size l.node) (words_from l.initial.words 0 l.i);
  words : l.words ≡ state_at l.initial.words l.i;
}
