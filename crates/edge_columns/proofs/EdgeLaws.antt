-- Laws of edges that are made of sources, destinations and weights.
use Rattle.std.proofs.Common.{◌≡◌, ℕ, suc, ◌^◌, ◌<◌, ◌≤◌, lit<, nat_lt, cond, All, List, [], ◌∷◌, ◌++◌, length, map, drop, take, count_by, refl, ap, arith}
use Rattle.std.proofs.lemmas.List.Elements.{All-nil, All-cons, All-head, All-tail}
use Rattle.std.proofs.lemmas.List.Sums.{sum_by-cons}
use Rattle.list_laws.specs.Rising.{NeverFalls}
use Rattle.list_laws.proofs.Rising.{NeverFalls-lower}
use Rattle.graph_model.specs.declared.edge.Edge.{Edge}
use Rattle.graph_model.specs.Graph.{IsWithin, IsWeighed, IsBySource, IsGraph, most_nodes, most_edges}
use Rattle.graph_model.proofs.GraphFacts.{IsBySource-nil, IsBySource-cons}
use Rattle.edge_columns.specs.Columns.{sources, plain_edges, weighed}
use Rattle.edge_columns.proofs.SourceLaws.{sources-rise, sources-below}

-- the source of an edge
abbrev pub source : Edge → ℕ
source edge = edge.src

-- the destination of an edge
abbrev pub destination : Edge → ℕ
destination edge = edge.dst

-- the weight of an edge
abbrev pub weight_of : Edge → ℕ
weight_of edge = edge.weight

-- ---- edges of weight 1

-- no destination gives no edge
pub plain_edges-none : (sources : List ℕ) → plain_edges sources [] ≡ []
plain_edges-none [] = refl
plain_edges-none (source ∷ sources) = refl

-- the destinations of two parts
pub plain_edges-append : (sources xs ys : List ℕ) → plain_edges sources (xs ++ ys) ≡ plain_edges sources xs ++ plain_edges (drop (length (plain_edges sources xs)) sources) ys
plain_edges-append [] xs ys = refl
plain_edges-append (source ∷ sources) [] ys = refl
plain_edges-append (source ∷ sources) (x ∷ xs) ys = ap (λ (l : List Edge). record { src = source; dst = x; weight = 1 } ∷ l) (plain_edges-append sources xs ys)

-- both ends of each edge are nodes
pub plain_edges-within : (nodes : ℕ) (ss ds : List ℕ) → All (λ s. s < nodes) ss → All (λ d. d < nodes) ds → All (IsWithin nodes) (plain_edges ss ds)
plain_edges-within nodes [] ds below within = All-nil (IsWithin nodes)
plain_edges-within nodes (s ∷ ss) [] below within = All-nil (IsWithin nodes)
plain_edges-within nodes (s ∷ ss) (d ∷ ds) below within =
    All-cons (IsWithin nodes) (record { src = s; dst = d; weight = 1 }) (plain_edges ss ds) (All-head (λ n. n < nodes) s ss below, All-head (λ n. n < nodes) d ds within)
    (plain_edges-within nodes ss ds (All-tail (λ n. n < nodes) s ss below) (All-tail (λ n. n < nodes) d ds within))

-- sources do not fall along the edges
pub plain_edges-rise : (low : ℕ) (ss ds : List ℕ) → NeverFalls low ss → NeverFalls low (map source (plain_edges ss ds))
plain_edges-rise low [] ds rises = tt
plain_edges-rise low (s ∷ ss) [] rises = tt
plain_edges-rise low (s ∷ ss) (d ∷ ds) rises = (rises.0, plain_edges-rise s ss ds rises.1)

-- where there is a destination for each source, there is an edge for each destination
pub length-plain_edges : (ss ds : List ℕ) → length ss ≡ length ds → length (plain_edges ss ds) ≡ length ds
length-plain_edges [] [] count = refl
length-plain_edges [] (d ∷ ds) count = absurd (omega arith)
length-plain_edges (s ∷ ss) [] count = refl
length-plain_edges (s ∷ ss) (d ∷ ds) count = ap suc (length-plain_edges ss ds (omega arith))

-- the sources are those given
pub plain_edges-sources : (ss ds : List ℕ) → length ss ≡ length ds → map source (plain_edges ss ds) ≡ ss
plain_edges-sources [] ds count = refl
plain_edges-sources (s ∷ ss) [] count = absurd (omega arith)
plain_edges-sources (s ∷ ss) (d ∷ ds) count = ap (λ (l : List ℕ). s ∷ l) (plain_edges-sources ss ds (omega arith))

-- the destinations are those given
pub plain_edges-destinations : (ss ds : List ℕ) → length ss ≡ length ds → map destination (plain_edges ss ds) ≡ ds
plain_edges-destinations [] [] count = refl
plain_edges-destinations [] (d ∷ ds) count = absurd (omega arith)
plain_edges-destinations (s ∷ ss) [] count = refl
plain_edges-destinations (s ∷ ss) (d ∷ ds) count = ap (λ (l : List ℕ). d ∷ l) (plain_edges-destinations ss ds (omega arith))

-- ---- edges with their weights

-- no weights change nothing
pub weighed-none : (edges : List Edge) → weighed edges [] ≡ edges
weighed-none [] = refl
weighed-none (edge ∷ edges) = refl

-- the weights of two parts
pub weighed-append : (edges : List Edge) (xs ys : List ℕ) → length xs ≤ length edges
    → weighed edges (xs ++ ys) ≡ take (length xs) (weighed edges xs) ++ weighed (drop (length xs) (weighed edges xs)) ys
weighed-append [] [] ys fits = refl
weighed-append [] (x ∷ xs) ys fits = absurd (omega arith)
weighed-append (edge ∷ edges) [] ys fits = refl
weighed-append (edge ∷ edges) (x ∷ xs) ys fits = ap (λ (l : List Edge). record { src = edge.src; dst = edge.dst; weight = x } ∷ l) (weighed-append edges xs ys (omega arith))

-- weights do not change how many edges there are
pub length-weighed : (edges : List Edge) (weights : List ℕ) → length (weighed edges weights) ≡ length edges
length-weighed [] weights = refl
length-weighed (edge ∷ edges) [] = refl
length-weighed (edge ∷ edges) (weight ∷ weights) = ap suc (length-weighed edges weights)

-- weights change no source
pub weighed-sources : (edges : List Edge) (weights : List ℕ) → map source (weighed edges weights) ≡ map source edges
weighed-sources [] weights = refl
weighed-sources (edge ∷ edges) [] = refl
weighed-sources (edge ∷ edges) (weight ∷ weights) = ap (λ (l : List ℕ). edge.src ∷ l) (weighed-sources edges weights)

-- nor any destination
pub weighed-destinations : (edges : List Edge) (weights : List ℕ) → map destination (weighed edges weights) ≡ map destination edges
weighed-destinations [] weights = refl
weighed-destinations (edge ∷ edges) [] = refl
weighed-destinations (edge ∷ edges) (weight ∷ weights) = ap (λ (l : List ℕ). edge.dst ∷ l) (weighed-destinations edges weights)

-- where there is a weight for each edge, the weights are those given
pub weighed-weights : (edges : List Edge) (weights : List ℕ) → length weights ≡ length edges → map weight_of (weighed edges weights) ≡ weights
weighed-weights [] [] count = refl
weighed-weights [] (weight ∷ weights) count = absurd (omega arith)
weighed-weights (edge ∷ edges) [] count = absurd (omega arith)
weighed-weights (edge ∷ edges) (weight ∷ weights) count = ap (λ (l : List ℕ). weight ∷ l) (weighed-weights edges weights (omega arith))

-- both ends of each edge are nodes as before
pub weighed-within : (nodes : ℕ) (edges : List Edge) (weights : List ℕ) → All (IsWithin nodes) edges → All (IsWithin nodes) (weighed edges weights)
weighed-within nodes [] weights within = within
weighed-within nodes (edge ∷ edges) [] within = within
weighed-within nodes (edge ∷ edges) (weight ∷ weights) within =
    All-cons (IsWithin nodes) (record { src = edge.src; dst = edge.dst; weight = weight }) (weighed edges weights)
    (All-head (IsWithin nodes) edge edges within) (weighed-within nodes edges weights (All-tail (IsWithin nodes) edge edges within))

-- the weights given fit, and so does 1
pub weighed-light : (ss ds weights : List ℕ) → All (λ weight. weight < 2 ^ 32) weights → All IsWeighed (weighed (plain_edges ss ds) weights)
weighed-light [] ds weights light = All-nil IsWeighed
weighed-light (s ∷ ss) [] weights light = All-nil IsWeighed
weighed-light (s ∷ ss) (d ∷ ds) [] light =
    let edge : Edge = record { src = s; dst = d; weight = 1 } in
    All-cons IsWeighed edge (plain_edges ss ds) (lit< tt) (rw (weighed-none (plain_edges ss ds)) at (weighed-light ss ds [] light))
weighed-light (s ∷ ss) (d ∷ ds) (weight ∷ weights) light =
    All-cons IsWeighed (record { src = s; dst = d; weight = weight }) (weighed (plain_edges ss ds) weights)
    (All-head (λ w. w < 2 ^ 32) weight weights light) (weighed-light ss ds weights (All-tail (λ w. w < 2 ^ 32) weight weights light))

-- ---- edges that make a graph

-- no source is below the first
NeverFalls-above : (low : ℕ) (edges : List Edge) → NeverFalls low (map source edges) → All (λ edge. low ≤ edge.src) edges
NeverFalls-above low [] rises = All-nil (λ edge. low ≤ edge.src)
NeverFalls-above low (edge ∷ edges) rises =
    All-cons (λ edge. low ≤ edge.src) edge edges rises.0 (NeverFalls-above low edges (NeverFalls-lower low edge.src (map source edges) rises.0 rises.1))

-- sources that do not fall are in order
pub IsBySource-from_never_falls : (low : ℕ) (edges : List Edge) → NeverFalls low (map source edges) → IsBySource edges
IsBySource-from_never_falls low [] rises = IsBySource-nil
IsBySource-from_never_falls low (edge ∷ edges) rises = IsBySource-cons edge edges (NeverFalls-above edge.src edges rises.1) (IsBySource-from_never_falls edge.src edges rises.1)

-- the edges that entries, destinations and weights give make a graph
pub edges_graph : (nodes before : ℕ) (ends destinations weights : List ℕ) (edges : List Edge) → nodes ≤ most_nodes → length edges ≤ most_edges → length ends ≡ nodes → All (λ d. d < nodes) destinations
    → edges ≡ weighed (plain_edges (sources 0 before ends) destinations) weights → All (λ weight. weight < 2 ^ 32) weights → IsGraph (record { nodes = nodes; edges = edges })
edges_graph nodes before ends destinations weights edges nodes_fit edges_fit count within are light =
    let ss = sources 0 before ends in
    let plain = plain_edges ss destinations in
    let rises : NeverFalls 0 (map source (weighed plain weights)) = rw (weighed-sources plain weights) (plain_edges-rise 0 ss destinations (sources-rise 0 before ends)) in
    record {
      nodes_fit = nodes_fit;
      edges_fit = edges_fit;
      within = rw are (weighed-within nodes plain weights (plain_edges-within nodes ss destinations (sources-below 0 before nodes ends (omega arith)) within));
      weighed = rw are (weighed-light ss destinations weights light);
      by_source = rw are (IsBySource-from_never_falls 0 (weighed plain weights) rises);
    }

-- ---- counts

-- as many edges have a lower source as sources are lower
pub count_edges : (v : ℕ) (edges : List Edge) → count_by (λ edge. nat_lt edge.src v) edges ≡ count_by (λ s. nat_lt s v) (map source edges)
count_edges v [] = refl
count_edges v (edge ∷ edges) =
    omega (arith, sum_by-cons {X = Edge} (λ e. cond (nat_lt e.src v) 1 0) edge edges, sum_by-cons {X = ℕ} (λ s. cond (nat_lt s v) 1 0) edge.src (map source edges), count_edges v edges)
