-- The edges of a file make a graph.
use Rattle.std.proofs.Common.{◌≡◌, ℕ, ◌^◌, ◌<◌, ◌≤◌, List, [], ◌∷◌, length, None, refl, ap}
use Rattle.std.specs.Prelude.{All}
use Rattle.graph_model.specs.declared.edge.Edge.{Edge}
use Rattle.graph_model.specs.Graph.{IsGraph, most_nodes, most_edges}
use Rattle.edge_columns.specs.Columns.{sources, plain_edges, weighed}
use Rattle.edge_columns.proofs.EdgeLaws.{edges_graph}
use Rattle.gr_reader.specs.File.{destination_fault}
use Rattle.gr_reader.specs.EdgeLists.{unweighed}
use Rattle.gr_reader.proofs.EdgeLaws.{destination_fault-clear}

-- each of the edges has weight 1
pub unweighed-plain_edges : (ss ds : List ℕ) → unweighed (plain_edges ss ds) ≡ plain_edges ss ds
unweighed-plain_edges [] ds = refl
unweighed-plain_edges (s ∷ ss) [] = refl
unweighed-plain_edges (s ∷ ss) (d ∷ ds) = ap (λ (l : List Edge). record { src = s; dst = d; weight = 1 } ∷ l) (unweighed-plain_edges ss ds)

-- the edges of a file make a graph
pub edges-graph : (nodes : ℕ) (ends destinations weights : List ℕ) (edges : List Edge) → nodes ≤ most_nodes → length edges ≤ most_edges → length ends ≡ nodes → destination_fault nodes 0 destinations ≡ None
    → edges ≡ weighed (plain_edges (sources 0 0 ends) destinations) weights → All (λ weight. weight < 2 ^ 32) weights → IsGraph (record { nodes = nodes; edges = edges })
edges-graph nodes ends destinations weights edges nodes_fit edges_fit count clear are light =
    edges_graph nodes 0 ends destinations weights edges nodes_fit edges_fit count (destination_fault-clear nodes 0 destinations clear) are light
