-- Where the out-edges of each vertex start in the list of a graph's edges, and how many there are.
use Rattle.std.specs.Prelude.{ℕ, ◌+◌, nat_lt, ◌==◌, List, map, count_by}
use Rattle.std.specs.List.{range_with_len}
use Rattle.graph_model.specs.Graph.{Graph}

-- for each vertex, and one past the last, how many edges have a lower source
abbrev pub starts_of : Graph → List ℕ
starts_of graph = map (λ v. count_by (λ edge. nat_lt edge.src v) graph.edges) (range_with_len 0 (graph.nodes + 1))

-- how many out-edges a vertex has
abbrev pub outdegree_of : Graph → ℕ → ℕ
outdegree_of graph v = count_by (λ edge. edge.src == v) graph.edges
