-- Laws of divided graphs and of their pruned lists.
use Rattle.std.specs.Prelude.{◌≡◌, ◌<◌, ℕ, true, List, All}
use Rattle.std.specs.List.Sorted.{IsStrictlyIncreasing}
use Rattle.list_laws.specs.Among.{is_among}
use Rattle.graph_model.specs.Arcs.{arcs_of}
use Rattle.graph_model.specs.Graph.{Graph, IsGraph, IsWithin, IsBySource}
use Rattle.graph_model.specs.declared.edge.Edge.{Edge}
use Rattle.graph_model.specs.declared.edge.Way.{Way}
use Rattle.graph_division.specs.ProgramArcs.{AreArcsOf}
use Rattle.graph_division.specs.Division.{Division}
use Rattle.graph_division.specs.Lists.{is_writable, reduce_list, broadcast_list}
use Rattle.graph_division.specs.Shares.{in_file_order}

-- the arcs of a graph are arcs on which programs may run, whichever way they are followed
abbrev pub GraphsHaveArcs : Type 0
GraphsHaveArcs = (graph : Graph) (way : Way) → IsGraph graph → AreArcsOf graph.nodes (arcs_of way graph.edges)

-- the ids of a list rise and are vertices
abbrev pub ListsRise : Type 0
ListsRise =
    (division : Division) (from to : ℕ)
    → (IsStrictlyIncreasing (reduce_list division from to) × All (λ v. v < division.nodes) (reduce_list division from to))
    × (IsStrictlyIncreasing (broadcast_list division from to) × All (λ v. v < division.nodes) (broadcast_list division from to))

-- a mirror that is listed for broadcasts and is written is listed for reduces too, between the same hosts
abbrev pub WrittenIsReduced : Type 0
WrittenIsReduced =
    (division : Division) (host other v : ℕ) → v < division.nodes
    → is_among (broadcast_list division other host) v ≡ true → is_writable division host v ≡ true
    → is_among (reduce_list division host other) v ≡ true

-- edges between nodes whose sources do not fall stay as they are
abbrev pub FileOrderStays : Type 0
FileOrderStays = (nodes : ℕ) (edges : List Edge) → All (IsWithin nodes) edges → IsBySource edges → in_file_order nodes edges ≡ edges
