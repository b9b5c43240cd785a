-- The graph that is made from a size and a number: a ring through all nodes, in which every sixteenth
-- node is a hub, and further edges that the words of SplitMix64 draw.
use Rattle.std.specs.Prelude.{ℕ, ◌+◌, ◌-◌, ◌/◌, ◌%◌, ◌^◌, ◌==◌, List, ◌∷◌, map, if◌then◌else◌}
use Rattle.std.specs.List.{flat_map, range_with_len, sum_by}
use Rattle.graph_model.specs.declared.edge.Edge.{Edge}
use Rattle.graph_model.specs.Graph.{Graph}
use Rattle.graph_maker.specs.Words.{words_from}

-- how many edges start at a node
abbrev pub degree_of : ℕ → ℕ
degree_of v = if v % 16 == 0 then 16 else 3

-- how many words the nodes before v take: one for each of their edges but the first
abbrev pub words_before : ℕ → ℕ
words_before v = sum_by (λ u. degree_of u - 1) (range_with_len 0 v)

-- the words that draw the edges of v
abbrev pub words_of : ℕ → ℕ → List ℕ
words_of number v = words_from number (words_before v) (degree_of v - 1)

-- the first edge of a node: to the next, and from the last node to node 0
abbrev pub ring_edge : ℕ → ℕ → Edge
ring_edge size v = record { src = v; dst = (v + 1) % size; weight = 1 + v % 7 }

-- a further edge of a node: the high half of a word says where it leads, the whole word its weight
abbrev pub drawn_edge : ℕ → ℕ → ℕ → Edge
drawn_edge size v x = record { src = v; dst = x / 2 ^ 32 % size; weight = 1 + x % 1000 }

-- the edges of v, whose further ones these words draw
abbrev pub edges_by : ℕ → ℕ → List ℕ → List Edge
edges_by size v words = ring_edge size v ∷ map (drawn_edge size v) words

-- the edges of v in the graph of a number
abbrev pub edges_of : ℕ → ℕ → ℕ → List Edge
edges_of size number v = edges_by size v (words_of number v)

-- the edges of each node in turn
unfoldable pub made_edges : ℕ → ℕ → List Edge
made_edges size number = flat_map (edges_of size number) (range_with_len 0 size)

-- the graph
abbrev pub made_graph : ℕ → ℕ → Graph
made_graph size number = record { nodes = size; edges = made_edges size number }
