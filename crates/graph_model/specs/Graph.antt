-- A graph as contracts see it: a number of nodes and a list of edges.
use Rattle.std.specs.Prelude.{◌≡◌, ℕ, ◌<◌, ◌≤◌, ◌^◌, List, length, All, slice_get, Some}
use Rattle.graph_model.specs.declared.edge.Edge.{Edge}

-- the most nodes of a graph
abbrev pub most_nodes : ℕ
most_nodes = 16777216

-- the most edges of a graph
abbrev pub most_edges : ℕ
most_edges = 67108864

-- nodes are the numbers below `nodes`, and edges stand in file order
pub record Graph : Type 0 where
  pub nodes : ℕ
  pub edges : List Edge

-- both ends of an edge are nodes
abbrev pub IsWithin : ℕ → Edge → Type 0
IsWithin nodes edge = (edge.src < nodes) × (edge.dst < nodes)

-- a weight is a number of four bytes
abbrev pub IsWeighed : Edge → Type 0
IsWeighed edge = edge.weight < 2 ^ 32

-- sources do not fall along the list
abbrev pub IsBySource : List Edge → Type 0
IsBySource edges = (i j : ℕ) (a b : Edge) → i < j → slice_get edges i ≡ Some a → slice_get edges j ≡ Some b → a.src ≤ b.src

-- what holds of every graph
pub record IsGraph (graph : Graph) : Type 0 where
  pub nodes_fit : graph.nodes ≤ most_nodes
  pub edges_fit : length graph.edges ≤ most_edges
  pub within : All (IsWithin graph.nodes) graph.edges
  pub weighed : All IsWeighed graph.edges
  pub by_source : IsBySource graph.edges
