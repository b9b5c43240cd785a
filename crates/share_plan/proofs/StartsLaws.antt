-- Where the edges of each vertex start.
use Rattle.std.proofs.Common.{◌≡◌, ℕ, ◌+◌, ◌-◌, ◌<◌, ◌≤◌, Bool, true, false, cond, nat_lt, ◌==◌, List, length, count_by, Some, slice_get, slice_index, slice_index_or, sym, ap, ◌∙◌, ⊎_elim, inl, inr, arith}
use Rattle.std.proofs.lemmas.Bool.{cases_lt, lt-ltb, le-ltb}
use Rattle.std.proofs.lemmas.Bool.Decides.{eqb_tells}
use Rattle.std.proofs.lemmas.List.{ext_get_or}
use Rattle.std.proofs.lemmas.List.Sums.{count_by-le-length}
use Rattle.std.proofs.lemmas.List.FromFn.{length-map-range_with_len, get_or-map-range_with_len}
use Rattle.std.proofs.lemmas.Option.{slice_get_within, slice_get-get_or}
use Rattle.list_laws.proofs.Places.{slice_get_once}
use Rattle.graph_model.specs.declared.edge.Edge.{Edge}
use Rattle.graph_model.specs.Graph.{Graph, IsGraph, IsBySource}
use Rattle.cusp_rules.specs.Formulas.{IsStarts, vertices_of}
use Rattle.edge_columns.specs.Starts.{starts_of, outdegree_of}
use Rattle.edge_columns.proofs.Counts.{count_none, count_front, count_split, count_more}

-- how many edges have a lower source
abbrev pub below : List Edge → ℕ → ℕ
below edges v = count_by (λ edge. nat_lt edge.src v) edges

-- the starts so far are right, where the edges before `place` have been read, whose sources have their starts
pub record AreStartsSoFar (edges : List Edge) (place : ℕ) (starts : List ℕ) : Type 0 where
  pub right : (v : ℕ) → v < length starts → slice_index starts v ≡ below edges v
  pub past : (k : ℕ) (edge : Edge) → k < place → slice_get edges k ≡ Some edge → edge.src < length starts

-- with nothing read there is nothing to show
pub AreStartsSoFar-nil : (edges : List Edge) (starts : List ℕ) → length starts ≡ 0 → AreStartsSoFar edges 0 starts
AreStartsSoFar-nil edges starts empty = record {
  right = λ v within. absurd (omega arith);
  past = λ k edge less at. absurd (omega arith);
}

-- sources up to the next one that stands in the list start at its place
starts-fill : (edges : List Edge) (place n : ℕ) (starts next : List ℕ) → length next ≡ n → length starts ≤ n
    → ((k : ℕ) → k < length starts → slice_index next k ≡ slice_index starts k)
    → ((k : ℕ) → length starts ≤ k → k < n → slice_index next k ≡ place)
    → place ≤ length edges → AreStartsSoFar edges place starts
    → ((v k : ℕ) (edge : Edge) → v < n → place ≤ k → slice_get edges k ≡ Some edge → v ≤ edge.src)
    → (v : ℕ) → v < length next → slice_index next v ≡ below edges v
starts-fill edges place n starts next long short kept filled fits so_far later v within =
    ⊎_elim
    (λ (old : v < length starts). kept v old ∙ so_far.right v old)
    (λ (new : length starts ≤ v).
    let here : v < n = omega arith in
    filled v new here ∙ sym (count_front (λ edge. nat_lt edge.src v) edges place fits
    (λ k edge less at. lt-ltb edge.src v (omega (arith, so_far.past k edge less at)))
    (λ k edge more at. le-ltb edge.src v (later v k edge here more at))))
    (cases_lt v (length starts))

-- the next edge, whose source has its start already
pub AreStartsSoFar_stay : (edges : List Edge) (place : ℕ) (edge : Edge) (starts : List ℕ) → slice_get edges place ≡ Some edge → edge.src < length starts → AreStartsSoFar edges place starts → AreStartsSoFar edges (place + 1) starts
AreStartsSoFar_stay edges place edge starts at known so_far = record {
  right = so_far.right;
  past = λ k other less at_k.
      ⊎_elim
      (λ (before : k < place). so_far.past k other before at_k)
      (λ (here : place ≤ k).
      let same : other ≡ edge = slice_get_once edges place other edge (ap (λ i. slice_get edges i) (omega arith) ∙ at_k) at in
      omega (arith, ap (λ (e : Edge). e.src) same))
      (cases_lt k place);
}

-- the next edge, where its source and those before it get this start
pub AreStartsSoFar_fill : (edges : List Edge) (place : ℕ) (edge : Edge) (starts next : List ℕ) → IsBySource edges → slice_get edges place ≡ Some edge
    → length starts ≤ edge.src → length next ≡ edge.src + 1
    → ((k : ℕ) → k < length starts → slice_index next k ≡ slice_index starts k)
    → ((k : ℕ) → length starts ≤ k → k < edge.src + 1 → slice_index next k ≡ place)
    → AreStartsSoFar edges place starts → AreStartsSoFar edges (place + 1) next
AreStartsSoFar_fill edges place edge starts next by_source at short long kept filled so_far =
    let within : place < length edges = slice_get_within edges place edge at in
    AreStartsSoFar_stay edges place edge next at (omega arith) (record {
      right = starts-fill edges place (edge.src + 1) starts next long (omega arith) kept filled (omega arith) so_far (λ v k other here from at_k.
          ⊎_elim
          (λ (later : place < k). omega (arith, by_source place k edge other later at at_k))
          (λ (same_place : k ≤ place).
          let same : other ≡ edge = slice_get_once edges place other edge (ap (λ i. slice_get edges i) (omega arith) ∙ at_k) at in
          omega (arith, ap (λ (e : Edge). e.src) same))
          (cases_lt place k));
      past = λ k other less at_k. omega (arith, so_far.past k other less at_k);
    })

-- there is one start a vertex, and one more
pub length-starts_of : (graph : Graph) → length (starts_of graph) ≡ graph.nodes + 1
length-starts_of graph = length-map-range_with_len (below graph.edges) 0 (graph.nodes + 1)

-- the start of a vertex, at any default
pub start_at : (graph : Graph) (v d : ℕ) → v ≤ graph.nodes → slice_index_or (starts_of graph) v d ≡ below graph.edges v
start_at graph v d within = get_or-map-range_with_len (below graph.edges) 0 (graph.nodes + 1) v v d (omega arith) (omega arith)

-- after the last edge, what is left starts at the end
pub starts_end : (graph : Graph) (starts next : List ℕ) → length next ≡ graph.nodes + 1 → length starts ≤ graph.nodes + 1
    → ((k : ℕ) → k < length starts → slice_index next k ≡ slice_index starts k)
    → ((k : ℕ) → length starts ≤ k → k < graph.nodes + 1 → slice_index next k ≡ length graph.edges)
    → AreStartsSoFar graph.edges (length graph.edges) starts → next ≡ starts_of graph
starts_end graph starts next long short kept filled so_far =
    ext_get_or 0 next (starts_of graph) (long ∙ sym (length-starts_of graph)) (λ v within.
    starts-fill graph.edges (length graph.edges) (graph.nodes + 1) starts next long short kept filled (omega arith) so_far
    (λ u k edge here past at. absurd (omega (arith, slice_get_within graph.edges k edge at))) v within
    ∙ sym (start_at graph v 0 (omega arith)))

-- later vertices do not start before
pub below_rises : (edges : List Edge) (v w : ℕ) → v ≤ w → below edges v ≤ below edges w
below_rises edges v w order = count_more (λ edge. nat_lt edge.src v) (λ edge. nat_lt edge.src w) (λ edge.
    elim (cases_lt edge.src v) [
      | inl low ↦ omega (arith, ap {B = ℕ} (λ b. cond b 1 0) (lt-ltb edge.src w (omega arith)), one (nat_lt edge.src v))
      | inr high ↦ omega (arith, ap {B = ℕ} (λ b. cond b 1 0) (le-ltb edge.src v high))
    ]) edges
  where
    one : (b : Bool) → cond {A = ℕ} b 1 0 ≤ 1
    one true = omega arith
    one false = omega arith

-- no edge has a source below the first vertex
below-zero : (edges : List Edge) → below edges 0 ≡ 0
below-zero edges = count_none (λ edge. nat_lt edge.src 0) (λ edge. le-ltb edge.src 0 (omega arith)) edges

-- the starts of a graph are starts
pub IsStarts-starts_of : (graph : Graph) → IsGraph graph → IsStarts (starts_of graph)
IsStarts-starts_of graph is =
    let long = length-starts_of graph in
    let nodes_fit = is.nodes_fit in
    let edges_fit = is.edges_fit in
    record {
      begins = slice_get-get_or (starts_of graph) 0 0 (omega (arith, long)) ∙ ap Some (start_at graph 0 0 (omega arith) ∙ below-zero graph.edges);
      rises = λ v w d order within.
          omega (arith, start_at graph v d (omega (arith, long)), start_at graph w d (omega (arith, long)), below_rises graph.edges v w order);
      vertices_fit = omega (arith, long);
      edges_fit =
          omega (arith, start_at graph (vertices_of (starts_of graph)) 0 (omega (arith, long)), count_by-le-length (λ edge. nat_lt edge.src (vertices_of (starts_of graph))) graph.edges);
    }

-- the edges of a vertex are those from its start up to that of the next
pub outdegree-starts : (graph : Graph) (v : ℕ) → v < graph.nodes → slice_index (starts_of graph) (v + 1) - slice_index (starts_of graph) v ≡ outdegree_of graph v
outdegree-starts graph v within =
    let split = count_split (λ edge. nat_lt edge.src v) (λ edge. edge.src == v) (λ edge. nat_lt edge.src (v + 1)) splits graph.edges in
    omega (arith, start_at graph v 0 (omega arith), start_at graph (v + 1) 0 (omega arith), split)
  where
    splits : (edge : Edge) → cond (nat_lt edge.src (v + 1)) 1 0 ≡ cond {A = ℕ} (nat_lt edge.src v) 1 0 + cond (edge.src == v) 1 0
    splits edge =
        elim (eqb_tells edge.src v) [
          | inl same ↦ (
              let is = same.1 in
              omega (arith, ap {B = ℕ} (λ b. cond b 1 0) same.0, ap {B = ℕ} (λ b. cond b 1 0) (le-ltb edge.src v (omega (arith, is))), ap {B = ℕ} (λ b. cond b 1 0) (lt-ltb edge.src (v + 1) (omega (arith, is)))))
          | inr other ↦ elim (cases_lt edge.src v) [
            | inl low ↦ omega (arith, ap {B = ℕ} (λ b. cond b 1 0) other.0, ap {B = ℕ} (λ b. cond b 1 0) (lt-ltb edge.src v low), ap {B = ℕ} (λ b. cond b 1 0) (lt-ltb edge.src (v + 1) (omega arith)))
            | inr high ↦ (
                let apart = other.1 in
                omega (arith, ap {B = ℕ} (λ b. cond b 1 0) other.0, ap {B = ℕ} (λ b. cond b 1 0) (le-ltb edge.src v high), ap {B = ℕ} (λ b. cond b 1 0) (le-ltb edge.src (v + 1) (omega (arith, apart)))))
          ]
        ]
