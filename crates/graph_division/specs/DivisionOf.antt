-- A whole graph that is divided among hosts.
use Rattle.std.specs.Prelude.{◌≡◌}
use Rattle.std.specs.List.Sorted.{IsPermutation}
use Rattle.graph_model.specs.Graph.{Graph}
use Rattle.graph_model.specs.Arcs.{arcs_of}
use Rattle.graph_model.specs.declared.edge.Way.{Way}
use Rattle.graph_division.specs.Division.{Division, whole}

-- a division is that of a graph whose edges are followed in a way: its arcs are those of the graph, in any order
pub record IsDivisionOf (graph : Graph) (way : Way) (division : Division) : Type 0 where
  pub nodes : division.nodes ≡ graph.nodes
  pub arcs : IsPermutation (arcs_of way graph.edges) (whole division)
