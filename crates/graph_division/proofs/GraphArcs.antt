-- The arcs of graphs are arcs on which programs may run.
use Rattle.std.proofs.Common.{ℕ, map, arith}
use Rattle.std.specs.List.{All}
use Rattle.std.proofs.lemmas.List.Elements.{All-map, All-append, All-weaker}
use Rattle.graph_model.specs.declared.edge.Edge.{Edge}
use Rattle.graph_model.specs.declared.edge.Way.{Way}
use Rattle.graph_model.specs.declared.edge.Way.TheVariants.{Outward, Inward, Both}
use Rattle.graph_model.specs.Graph.{Graph, IsGraph, IsWithin, IsWeighed}
use Rattle.graph_model.specs.Arcs.{out_arc, in_arc, arcs_of}
use Rattle.graph_division.specs.ProgramArcs.{IsArcOf}
use Rattle.graph_division.specs.Laws.{GraphsHaveArcs}

-- an edge between nodes, of a weight of four bytes
record IsEdgeOf (nodes : ℕ) (edge : Edge) : Type 0 where
  ends : IsWithin nodes edge
  fits : IsWeighed edge

module _ (graph : Graph) (is : IsGraph graph) where
  edges_fit : All (IsEdgeOf graph.nodes) graph.edges
  edges_fit k d within = record { ends = is.within k d within; fits = is.weighed k d within }

  out_arcs : All (IsArcOf graph.nodes) (map out_arc graph.edges)
  out_arcs =
      All-map (IsArcOf graph.nodes) out_arc graph.edges
      (All-weaker (IsEdgeOf graph.nodes) (λ edge. IsArcOf graph.nodes (out_arc edge)) (λ edge fact. record { tail_within = fact.ends.0; head_within = fact.ends.1; weight_fits = fact.fits }) graph.edges edges_fit)

  in_arcs : All (IsArcOf graph.nodes) (map in_arc graph.edges)
  in_arcs =
      All-map (IsArcOf graph.nodes) in_arc graph.edges
      (All-weaker (IsEdgeOf graph.nodes) (λ edge. IsArcOf graph.nodes (in_arc edge)) (λ edge fact. record { tail_within = fact.ends.1; head_within = fact.ends.0; weight_fits = fact.fits }) graph.edges edges_fit)

  arcs_fit : (way : Way) → All (IsArcOf graph.nodes) (arcs_of way graph.edges)
  arcs_fit Outward = out_arcs
  arcs_fit Inward = in_arcs
  arcs_fit Both = All-append (IsArcOf graph.nodes) (map out_arc graph.edges) (map in_arc graph.edges) out_arcs in_arcs

pub graphs_have_arcs : GraphsHaveArcs
graphs_have_arcs graph way is = record {
  few = let few = is.nodes_fit in omega arith;
  within = arcs_fit graph is way;
}
