use Rattle.std.proofs.Common.{◌≡◌, IfSome, map, slice_index, take}
use Rattle.std.specs.List.{All}
use Rattle.graph_model.specs.Graph.{IsWeighed}
use Rattle.proxy_graph.specs.Numbering.{table_of}
use Rattle.proxy_graph.specs.Sides.{Out, key_of, end_of}
use Rattle.proxy_graph.proofs.columns.Columns.new.Given as goal

abbrev pub invariant-loop-edge : goal.invariant-loop-edge
invariant-loop-edge l = record {
  tails : l.tails.items ≡ map (key_of Out (table_of l.numbering)) (take l.edge-index l.edges);
  heads : l.heads.items ≡ map (end_of Out (table_of l.numbering)) (take l.edge-index l.edges);
  weights : l.weights.items ≡ map (λ edge. edge.weight) (take l.edge-index l.edges);
  weighed : All IsWeighed (take l.edge-index l.edges);
  before : IfSome l.before (λ known. known.1 ≡ slice_index (table_of l.numbering) known.0);
}
