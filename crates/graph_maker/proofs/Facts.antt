-- A made graph is a graph.
use Rattle.std.proofs.Common.{◌≡◌, ℕ, zero, suc, ◌+◌, ◌-◌, ◌*◌, ◌<◌, ◌≤◌, List, [], ◌∷◌, ◌++◌, length, map, All, inl, inr, slice_index_or, refl, arith}
use Rattle.std.specs.List.{flat_map, range_with_len}
use Rattle.std.proofs.lemmas.List.{length-append, length-map}
use Rattle.std.proofs.lemmas.List.FromFn.{length-map-range_with_len}
use Rattle.std.proofs.lemmas.List.Elements.{All-nil, All-cons, All-head, All-tail, All-append, All-map, All-weaker}
use Rattle.graph_model.specs.declared.edge.Edge.{Edge}
use Rattle.graph_model.specs.Graph.{IsWithin, IsWeighed, IsBySource, IsGraph}
use Rattle.graph_model.proofs.GraphFacts.{IsBySource-nil, IsBySource-cons}
use Rattle.graph_maker.specs.Words.{word_at}
use Rattle.graph_maker.specs.MadeGraph.{degree_of, words_before, words_of, ring_edge, drawn_edge, edges_of, made_edges, made_graph}
use Rattle.graph_maker.proofs.Made.{degree_of-cases}

-- what holds of the ring edge and of each drawn edge of a node holds of its edges
All-edges_of : (P : Edge → Type 0) (size number v : ℕ) → P (ring_edge size v) → ((x : ℕ) → P (drawn_edge size v x)) → All P (edges_of size number v)
All-edges_of P size number v first each =
    All-cons P (ring_edge size v) (map (drawn_edge size v) (words_of number v)) first
    (All-map P (drawn_edge size v) (words_of number v) (λ k d within. each (slice_index_or (words_of number v) k d)))

-- what holds of the edges of each node holds of the edges of n nodes from a on
All-nodes : (P : Edge → Type 0) (size number : ℕ) → ((v : ℕ) → v < size → All P (edges_of size number v)) → (n a : ℕ) → a + n ≤ size → All P (flat_map (edges_of size number) (range_with_len a n))
All-nodes P size number each zero a fits = All-nil P
All-nodes P size number each (suc n) a fits =
    All-append P (edges_of size number a) (flat_map (edges_of size number) (range_with_len (a + 1) n)) (each a (omega arith))
    (All-nodes P size number each n (a + 1) (omega arith))

-- what holds of the ring edges and of each drawn edge holds of all edges
All-made : (P : Edge → Type 0) (size number : ℕ) → ((v : ℕ) → v < size → P (ring_edge size v)) → ((v x : ℕ) → v < size → P (drawn_edge size v x)) → All P (flat_map (edges_of size number) (range_with_len 0 size))
All-made P size number ring drawn =
    All-nodes P size number (λ v less. All-edges_of P size number v (ring v less) (λ x. drawn v x less)) size 0 (omega arith)

-- no node has more edges than a hub
length-edges_of : (size number v : ℕ) → length (edges_of size number v) ≤ 16
length-edges_of size number v =
    let words : length (words_of number v) ≡ degree_of v - 1 = length-map-range_with_len (word_at number) (words_before v) (degree_of v - 1) in
    let drawn : length (map (drawn_edge size v) (words_of number v)) ≡ length (words_of number v) = length-map (words_of number v) (drawn_edge size v) in
    elim (degree_of-cases v) [ inl hub ↦ omega (arith, words, drawn, hub.1) | inr other ↦ omega (arith, words, drawn, other.1) ]

-- nor do n nodes have more than n hubs
length-nodes : (size number n a : ℕ) → length (flat_map (edges_of size number) (range_with_len a n)) ≤ 16 * n
length-nodes size number zero a = omega arith
length-nodes size number (suc n) a =
    omega (
      arith,
      length-append (edges_of size number a) (flat_map (edges_of size number) (range_with_len (a + 1) n)),
      length-edges_of size number a,
      length-nodes size number n (a + 1),
    )

-- edges from one node, before edges from there on
IsBySource-append : (v : ℕ) (xs ys : List Edge) → All (λ edge. edge.src ≡ v) xs → All (λ edge. v ≤ edge.src) ys → IsBySource ys → IsBySource (xs ++ ys)
IsBySource-append v [] ys here later ordered = ordered
IsBySource-append v (x ∷ xs) ys here later ordered =
    let src : x.src ≡ v = All-head (λ edge. edge.src ≡ v) x xs here in
    let rest : All (λ edge. edge.src ≡ v) xs = All-tail (λ edge. edge.src ≡ v) x xs here in
    IsBySource-cons x (xs ++ ys)
    (All-append (λ edge. x.src ≤ edge.src) xs ys
    (All-weaker (λ edge. edge.src ≡ v) (λ edge. x.src ≤ edge.src) (λ edge same. omega arith) xs rest)
    (All-weaker (λ edge. v ≤ edge.src) (λ edge. x.src ≤ edge.src) (λ edge above. omega arith) ys later))
    (IsBySource-append v xs ys rest later ordered)

-- no source of nodes from a on is lower than a
sources_from : (size number n a low : ℕ) → low ≤ a → All (λ edge. low ≤ edge.src) (flat_map (edges_of size number) (range_with_len a n))
sources_from size number zero a low le = All-nil (λ edge. low ≤ edge.src)
sources_from size number (suc n) a low le =
    All-append (λ edge. low ≤ edge.src) (edges_of size number a) (flat_map (edges_of size number) (range_with_len (a + 1) n))
    (All-edges_of (λ edge. low ≤ edge.src) size number a le (λ x. le))
    (sources_from size number n (a + 1) low (omega arith))

-- sources do not fall from node to node
by_source_nodes : (size number n a : ℕ) → IsBySource (flat_map (edges_of size number) (range_with_len a n))
by_source_nodes size number zero a = IsBySource-nil
by_source_nodes size number (suc n) a =
    IsBySource-append a (edges_of size number a) (flat_map (edges_of size number) (range_with_len (a + 1) n))
    (All-edges_of (λ edge. edge.src ≡ a) size number a refl (λ x. refl))
    (sources_from size number n (a + 1) a (omega arith))
    (by_source_nodes size number n (a + 1))

-- what is made is a graph
pub IsGraph-made : (size number : ℕ) → 1 ≤ size → size ≤ 1000000 → IsGraph (made_graph size number)
unfolding made_edges
IsGraph-made size number some few = record {
  nodes_fit = omega arith;
  edges_fit = omega (arith, length-nodes size number size 0);
  within = All-made (IsWithin size) size number (λ v less. (less, omega arith)) (λ v x less. (less, omega arith));
  weighed = All-made IsWeighed size number (λ v less. omega arith) (λ v x less. omega arith);
  by_source = by_source_nodes size number size 0;
}
