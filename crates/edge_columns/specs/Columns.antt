-- A graph by column: where the edges of each node start among all edges, and of each edge the destination and the weight.
use Rattle.std.specs.Prelude.{◌≡◌, ℕ, ◌+◌, ◌-◌, ◌<◌, ◌≤◌, ◌^◌, List, [], ◌∷◌, ◌++◌, length, replicate, slice_index, All}
use Rattle.list_laws.specs.Rising.{NeverFalls}
use Rattle.graph_model.specs.declared.edge.Edge.{Edge}
use Rattle.graph_model.specs.Graph.{Graph, most_nodes, most_edges}

-- the last entry, and `before` where there is none
abbrev pub last_entry : ℕ → List ℕ → ℕ
last_entry before [] = before
last_entry before (entry ∷ entries) = last_entry entry entries

-- The source of each edge: the first node has the edges up to its entry, each other from the entry before it up to its own.
abbrev pub sources : ℕ → ℕ → List ℕ → List ℕ
sources node before [] = []
sources node before (entry ∷ entries) = replicate (entry - before) node ++ sources (node + 1) entry entries

-- the edges of these sources and destinations, each with weight 1
abbrev pub plain_edges : List ℕ → List ℕ → List Edge
plain_edges (source ∷ sources) (destination ∷ destinations) =
    record { src = source; dst = destination; weight = 1 } ∷ plain_edges sources destinations
plain_edges _ _ = []

-- the edges with these weights, as far as there are some
abbrev pub weighed : List Edge → List ℕ → List Edge
weighed (edge ∷ edges) (weight ∷ weights) = record { src = edge.src; dst = edge.dst; weight = weight } ∷ weighed edges weights
weighed edges _ = edges

-- the source of each edge, where each node's edges start at its entry and end at the next
abbrev pub sources_by : (starts : List ℕ) → List ℕ
sources_by [] = []
sources_by (first ∷ ends) = sources 0 first ends

-- the graph of columns: an entry for each node and one for the end, and a destination and a weight for each edge
abbrev pub graph_of : (starts destinations weights : List ℕ) → Graph
graph_of starts destinations weights = record { nodes = length starts - 1; edges = weighed (plain_edges (sources_by starts) destinations) weights }

-- the columns are those of a graph
pub record AreColumns (starts destinations weights : List ℕ) : Type 0 where
  -- there is an entry for each node and one for the end
  pub some : 0 < length starts
  pub nodes_fit : length starts ≤ most_nodes + 1
  pub edges_fit : length destinations ≤ most_edges
  -- the edges of the first node start at 0, and each next node's no earlier
  pub begins : slice_index starts 0 ≡ 0
  pub rising : NeverFalls 0 starts
  -- those of the last end where all edges do
  pub ends : last_entry 0 starts ≡ length destinations
  -- a destination is a node
  pub within : All (λ destination. destination < length starts - 1) destinations
  pub weight_for_each : length weights ≡ length destinations
  pub light : All (λ weight. weight < 2 ^ 32) weights
