-- What the columns of a graph say of it.
use Rattle.std.proofs.Common.{◌≡◌, ℕ, ◌+◌, ◌-◌, ◌<◌, nat_lt, List, [], ◌∷◌, length, map, count_by, get_or, refl, sym, ap, ◌∙◌, arith}
use Rattle.std.proofs.lemmas.List.{ext_get_or}
use Rattle.std.proofs.lemmas.List.FromFn.{length-map-range_with_len, get_or-map-range_with_len}
use Rattle.graph_model.specs.Graph.{IsGraph}
use Rattle.edge_columns.specs.Starts.{starts_of}
use Rattle.edge_columns.specs.Columns.{plain_edges, sources_by, graph_of, AreColumns}
use Rattle.edge_columns.proofs.SourceLaws.{length-sources, count-sources}
use Rattle.edge_columns.proofs.EdgeLaws.{source, destination, weight_of, length-plain_edges, plain_edges-sources, plain_edges-destinations, length-weighed, weighed-sources, weighed-destinations, weighed-weights, edges_graph, count_edges}

-- there is a source for each destination
pub columns_count : (starts destinations weights : List ℕ) → AreColumns starts destinations weights → length (sources_by starts) ≡ length destinations
columns_count [] destinations weights are = absurd (omega (arith, are.some))
columns_count (first ∷ ends) destinations weights are = omega (arith, are.begins, are.ends, length-sources 0 first ends are.rising.1)

-- there is an edge for each destination
pub columns_length : (starts destinations weights : List ℕ) → AreColumns starts destinations weights → length (graph_of starts destinations weights).edges ≡ length destinations
columns_length starts destinations weights are =
    length-weighed (plain_edges (sources_by starts) destinations) weights ∙ length-plain_edges (sources_by starts) destinations (columns_count starts destinations weights are)

-- the sources of the edges are those that the starts give
pub columns_sources : (starts destinations weights : List ℕ) → AreColumns starts destinations weights → map source (graph_of starts destinations weights).edges ≡ sources_by starts
columns_sources starts destinations weights are =
    weighed-sources (plain_edges (sources_by starts) destinations) weights ∙ plain_edges-sources (sources_by starts) destinations (columns_count starts destinations weights are)

-- the destinations of the edges are that column
pub columns_destinations : (starts destinations weights : List ℕ) → AreColumns starts destinations weights → map destination (graph_of starts destinations weights).edges ≡ destinations
columns_destinations starts destinations weights are =
    weighed-destinations (plain_edges (sources_by starts) destinations) weights ∙ plain_edges-destinations (sources_by starts) destinations (columns_count starts destinations weights are)

-- the weights of the edges are that column
pub columns_weights : (starts destinations weights : List ℕ) → AreColumns starts destinations weights → map weight_of (graph_of starts destinations weights).edges ≡ weights
columns_weights starts destinations weights are =
    weighed-weights (plain_edges (sources_by starts) destinations) weights (are.weight_for_each ∙ sym (length-plain_edges (sources_by starts) destinations (columns_count starts destinations weights are)))

-- columns make a graph
pub columns_graph : (starts destinations weights : List ℕ) → AreColumns starts destinations weights → IsGraph (graph_of starts destinations weights)
columns_graph [] destinations weights are = absurd (omega (arith, are.some))
columns_graph (first ∷ ends) destinations weights are =
    let edges = (graph_of (first ∷ ends) destinations weights).edges in
    let few = columns_length (first ∷ ends) destinations weights are in
    edges_graph (length (first ∷ ends) - 1) first ends destinations weights edges (omega (arith, are.nodes_fit)) (omega (arith, few, are.edges_fit)) (omega arith) are.within refl are.light

-- as many edges have a source below a node as its start says
columns_below : (starts destinations weights : List ℕ) (v : ℕ) → AreColumns starts destinations weights → v < length starts
    → count_by (λ edge. nat_lt edge.src v) (graph_of starts destinations weights).edges ≡ get_or starts v 0
columns_below [] destinations weights v are within = absurd (omega arith)
columns_below (first ∷ ends) destinations weights v are within =
    let counted = count-sources 0 first v v ends (omega arith) (omega arith) are.rising.1 in
    count_edges v (graph_of (first ∷ ends) destinations weights).edges
    ∙ ap (λ (l : List ℕ). count_by (λ s. nat_lt s v) l) (columns_sources (first ∷ ends) destinations weights are)
    ∙ omega (arith, are.begins, counted)

-- the starts of the graph are that column
pub columns_starts : (starts destinations weights : List ℕ) → AreColumns starts destinations weights → starts_of (graph_of starts destinations weights) ≡ starts
columns_starts starts destinations weights are =
    let graph = graph_of starts destinations weights in
    let below = λ (v : ℕ). count_by (λ edge. nat_lt edge.src v) graph.edges in
    let long : length (starts_of graph) ≡ length starts = length-map-range_with_len below 0 (graph.nodes + 1) ∙ omega (arith, are.some) in
    ext_get_or 0 (starts_of graph) starts long (λ v within.
    get_or-map-range_with_len below 0 (graph.nodes + 1) v v 0 (omega (arith, long, are.some)) (omega arith) ∙ columns_below starts destinations weights v are (omega (arith, long)))
