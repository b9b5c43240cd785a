-- The file of a graph: a head, where the edges of each node end, destinations, padding and weights.
use Rattle.std.specs.Prelude.{◌≡◌, ℕ, ◌%◌, ◌==◌, nat_le, List, [], ◌∷◌, ◌++◌, length, map, count_by, All, ◌⊎◌, if◌then◌else◌}
use Rattle.std.specs.List.{range_with_len}
use Rattle.list_laws.specs.LittleEndian.{le_text}
use Rattle.graph_model.specs.declared.edge.Edge.{Edge}
use Rattle.graph_model.specs.Graph.{Graph}

-- version 1, the bytes of a weight, and how many nodes and edges there are
abbrev pub head_of : ℕ → Graph → List ℕ
head_of size graph = le_text 8 (1 ∷ size ∷ graph.nodes ∷ length graph.edges ∷ [])

-- where the range of a node's edges ends: so many edges start at this node or one before it
abbrev pub end_of : List Edge → ℕ → ℕ
end_of edges node = count_by (λ edge. nat_le edge.src node) edges

-- where the range of each node ends, for this many nodes
abbrev pub index_of : ℕ → List Edge → List ℕ
index_of nodes edges = le_text 8 (map (end_of edges) (range_with_len 0 nodes))

-- where each edge leads
abbrev pub destinations_of : List Edge → List ℕ
destinations_of edges = le_text 4 (map (λ edge. edge.dst) edges)

-- four zero bytes where the number of edges is odd
abbrev pub padding_of : List Edge → List ℕ
padding_of edges = if length edges % 2 == 1 then 0 ∷ 0 ∷ 0 ∷ 0 ∷ [] else []

-- the weight of each edge, where it has four bytes
abbrev pub weights_of : ℕ → List Edge → List ℕ
weights_of size edges = if size == 4 then le_text 4 (map (λ edge. edge.weight) edges) else []

-- the bytes of the file
abbrev pub file_of : ℕ → Graph → List ℕ
file_of size graph =
    head_of size graph ++ index_of graph.nodes graph.edges ++ destinations_of graph.edges
    ++ padding_of graph.edges ++ weights_of size graph.edges

-- a weight has four bytes, or it has none and is 1
abbrev pub IsWritable : ℕ → List Edge → Type 0
IsWritable size edges = (size ≡ 4) ⊎ ((size ≡ 0) × All (λ edge. edge.weight ≡ 1) edges)
