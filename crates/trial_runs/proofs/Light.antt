-- The edges of a made graph weigh at most 1000.
use Rattle.std.proofs.Common.{ℕ, zero, suc, ◌+◌, ◌≤◌, All, map, slice_index_or, arith}
use Rattle.std.specs.List.{flat_map, range_with_len}
use Rattle.std.proofs.lemmas.List.Elements.{All-nil, All-cons, All-append, All-map}
use Rattle.graph_model.specs.declared.edge.Edge.{Edge}
use Rattle.graph_maker.specs.MadeGraph.{words_of, ring_edge, drawn_edge, edges_of, made_edges}

-- so do those of a node
node_light : (size number v : ℕ) → All (λ edge. edge.weight ≤ 1000) (edges_of size number v)
node_light size number v =
    All-cons (λ (edge : Edge). edge.weight ≤ 1000) (ring_edge size v) (map (drawn_edge size v) (words_of number v)) (omega arith)
    (All-map (λ (edge : Edge). edge.weight ≤ 1000) (drawn_edge size v) (words_of number v) (λ k d within. let x = slice_index_or (words_of number v) k d in omega arith))

-- and those of so many nodes
nodes_light : (size number n a : ℕ) → All (λ edge. edge.weight ≤ 1000) (flat_map (edges_of size number) (range_with_len a n))
nodes_light size number zero a = All-nil (λ (edge : Edge). edge.weight ≤ 1000)
nodes_light size number (suc n) a =
    All-append (λ (edge : Edge). edge.weight ≤ 1000) (edges_of size number a) (flat_map (edges_of size number) (range_with_len (a + 1) n)) (node_light size number a)
    (nodes_light size number n (a + 1))

pub made_light : (size number : ℕ) → All (λ edge. edge.weight ≤ 1000) (made_edges size number)
unfolding made_edges
made_light size number = nodes_light size number size 0
