-- The local graph of the one host there is: each vertex is a master, and its local number is its own.
use Rattle.std.proofs.Common.{◌≡◌, ℕ, ◌+◌, ◌<◌, Bool, false, not, ◌&&◌, List, [], ◌∷◌, ◌++◌, length, map, slice_index, slice_index_or, refl, sym, ◌∙◌, ap, arith, append-nil, nat_lt, inl, inr, subst}
use Rattle.std.specs.List.{All, range_with_len}
use Rattle.std.specs.List.Sorted.{IsNonDecreasing}
use Rattle.std.proofs.lemmas.List.{length-map, get_or-map}
use Rattle.std.proofs.lemmas.Bool.{cases_lt}
use Rattle.std.proofs.lemmas.Option.{slice_get-get_or}
use Rattle.std.proofs.lemmas.List.Elements.{All-head, All-map, All-tail, All-weaker}
use Rattle.std.proofs.lemmas.List.FromFn.{length-range_with_len, get_or-range_with_len, length-map-range_with_len, get_or-map-range_with_len}
use Rattle.std.proofs.lemmas.List.Sums.{length-filter}
use Rattle.list_laws.specs.Members.{has_member}
use Rattle.graph_model.specs.declared.edge.Edge.{Edge}
use Rattle.graph_model.specs.Graph.{Graph, IsGraph, IsWithin}
use Rattle.edge_columns.specs.Starts.{starts_of}
use Rattle.cusp_rules.specs.Assignment.{Assignment, IsAssignment}
use Rattle.graph_division.specs.Shares.{Share, IsShare, nodes_of}
use Rattle.proxy_graph.specs.Drafts.{AreProxies}
use Rattle.proxy_graph.specs.Keyed.{lower}
use Rattle.proxy_graph.specs.Kept.{share_of, IsKept}
use Rattle.proxy_graph.specs.Numbering.{is_end, is_mirrored, AreNumbered, IsLidOf}
use Rattle.proxy_graph.specs.Sides.{Out, Back, AreSorted, key_of, end_of}
use Rattle.proxy_graph.specs.Sorting.{AreStarts, AreInArcsOf}
use Rattle.proxy_graph.specs.declared.arcs.Arcs.{Arcs}
use Rattle.proxy_graph.specs.declared.local_graph.LocalGraph.TheInside.{Inside}
use Rattle.proxy_graph.proofs.Assembled.{AreFields, in_arcs_are, kept_fields, share_with, stands}
use Rattle.proxy_graph.proofs.Keyed.{lower_map}
use Rattle.proxy_graph.proofs.Lids.{hosted_true}
use Rattle.proxy_graph.proofs.NumberingSteps.{hosted_is}
use Rattle.proxy_graph.proofs.Ranges.{picked_none}
use Rattle.proxy_graph.proofs.Rows.{rows_with_key}
use Rattle.proxy_graph.proofs.SortingSteps.{runs_from_starts, here_from_starts, there_from_rising}

-- ---- numbers

-- each vertex has its own number
abbrev pub own_numbers : (nodes : ℕ) → List ℕ
own_numbers nodes = range_with_len 0 nodes

own : (nodes v : ℕ) → v < nodes → slice_index (own_numbers nodes) v ≡ v
own nodes v within =
    let none : 0 + v ≡ v = omega arith in
    get_or-range_with_len 0 nodes v 0 within ∙ none

-- the number of an arc's end is that end
pub sources_keyed : (nodes : ℕ) (edges : List Edge) → All (IsWithin nodes) edges → map (key_of Out (own_numbers nodes)) edges ≡ map (λ (edge : Edge). edge.src) edges
sources_keyed nodes [] within = refl
sources_keyed nodes (edge ∷ edges) within =
    ap (λ (k : ℕ). k ∷ map (key_of Out (own_numbers nodes)) edges) (own nodes edge.src (All-head (IsWithin nodes) edge edges within).0)
    ∙ ap (λ ks. edge.src ∷ ks) (sources_keyed nodes edges (All-tail (IsWithin nodes) edge edges within))

pub destinations_keyed : (nodes : ℕ) (edges : List Edge) → All (IsWithin nodes) edges → map (key_of Back (own_numbers nodes)) edges ≡ map (λ (edge : Edge). edge.dst) edges
destinations_keyed nodes [] within = refl
destinations_keyed nodes (edge ∷ edges) within =
    ap (λ (k : ℕ). k ∷ map (key_of Back (own_numbers nodes)) edges) (own nodes edge.dst (All-head (IsWithin nodes) edge edges within).1)
    ∙ ap (λ ks. edge.dst ∷ ks) (destinations_keyed nodes edges (All-tail (IsWithin nodes) edge edges within))

-- ---- proxies

-- the ends of edges have marks
abbrev pub end_marks : (nodes : ℕ) → List Edge → List Bool
end_marks nodes edges = map (is_end edges) (range_with_len 0 nodes)

module _ (nodes : ℕ) (marks : List Bool) where
  own_lid : (v : ℕ) → v < nodes → IsLidOf (range_with_len 0 nodes ++ []) v (slice_index (own_numbers nodes) v)
  own_lid v within = record {
    within = omega (arith, own nodes v within, ap length (append-nil (range_with_len 0 nodes)), length-range_with_len 0 nodes);
    here = ap (λ xs. slice_index xs (slice_index (own_numbers nodes) v)) (append-nil (range_with_len 0 nodes))
        ∙ ap (slice_index (own_numbers nodes)) (own nodes v within)
        ∙ own nodes v within;
  }

  numbered_alone : length marks ≡ nodes → AreNumbered 0 nodes marks nodes (own_numbers nodes) []
  numbered_alone long = record {
    long = length-range_with_len 0 nodes ∙ sym long;
    mirrors_are = sym (picked_none (is_mirrored 0 nodes marks) 0 nodes (λ v low high.
        ap (λ b. not b && has_member marks v) (hosted_true 0 nodes v low high)));
    hosted = λ v hosted. own_lid v (omega (arith, (hosted_is 0 nodes v hosted).1));
    marked = λ v within mark. own_lid v within;
  }

-- all vertices are proxies, and masters
pub proxies_alone : (share : Share) → share.host ≡ 0 → All (λ master. master < 1) share.masters → All (IsWithin (nodes_of share)) share.edges
    → AreProxies share 0 (nodes_of share) (end_marks (nodes_of share) share.edges) (own_numbers (nodes_of share)) []
proxies_alone share first alone within =
    let nodes = nodes_of share in
    let marks = end_marks nodes share.edges in
    let long : length marks ≡ nodes = length-map-range_with_len (is_end share.edges) 0 nodes in
    record {
      within = within;
      vertices = λ v inside. (λ here. (omega arith, omega arith), λ at. let zero : slice_index share.masters v ≡ 0 = omega (arith, alone v 0 inside) in zero ∙ sym first);
      row = omega arith;
      marked = record {
        long = long;
        marks_are = λ v inside. get_or-map-range_with_len (is_end share.edges) 0 nodes v v false inside (omega arith);
      };
      numbered = numbered_alone nodes marks long;
    }

-- ---- out-arcs

module _ (graph : Graph) (is : IsGraph graph) where
  abbrev by : List ℕ
  by = map (key_of Out (own_numbers graph.nodes)) graph.edges

  -- the starts of a graph are those of its sources
  starts_alone : AreStarts graph.nodes by (starts_of graph)
  starts_alone = record {
    long = length-map-range_with_len _ 0 (graph.nodes + 1);
    starts_are = λ key known.
        get_or-map-range_with_len _ 0 (graph.nodes + 1) key key 0 (omega arith) (omega arith)
        ∙ sym (length-filter (λ (edge : Edge). nat_lt edge.src key) graph.edges)
        ∙ lower_map (λ (edge : Edge). edge.src) key graph.edges
        ∙ ap (lower (λ (k : ℕ). k) key) (sym (sources_keyed graph.nodes graph.edges is.within));
  }

  -- which do not fall
  sources_rise : IsNonDecreasing by
  sources_rise =
      let P : List ℕ → Type 0 = IsNonDecreasing in
      subst P (sym (sources_keyed graph.nodes graph.edges is.within)) (λ i j d order within.
      let blank : Edge = record { src = 0; dst = 0; weight = 0 } in
      let long : j < length graph.edges = omega (arith, within, length-map graph.edges (λ (edge : Edge). edge.src)) in
      let a = slice_index_or graph.edges i blank in
      let b = slice_index_or graph.edges j blank in
      let at_i : slice_index_or (map (λ (edge : Edge). edge.src) graph.edges) i d ≡ a.src = get_or-map (λ (edge : Edge). edge.src) graph.edges i blank d (omega arith) in
      let at_j : slice_index_or (map (λ (edge : Edge). edge.src) graph.edges) j d ≡ b.src = get_or-map (λ (edge : Edge). edge.src) graph.edges j blank d long in
      elim (cases_lt i j) [
        | inl before ↦ omega (arith, at_i, at_j, is.by_source i j a b before (slice_get-get_or graph.edges i blank (omega arith)) (slice_get-get_or graph.edges j blank long))
        | inr here ↦ (
            let same : i ≡ j = omega arith in
            omega (arith, ap (λ (k : ℕ). slice_index_or (map (λ (edge : Edge). edge.src) graph.edges) k d) same))
      ])

  -- so the columns are the arcs by tail as they stand
  pub sorted_alone : (arcs : Arcs) → arcs.starts.items ≡ starts_of graph → arcs.heads.items ≡ map (λ (edge : Edge). edge.dst) graph.edges → arcs.weights.items ≡ map (λ (edge : Edge). edge.weight) graph.edges
      → AreSorted Out graph.nodes (own_numbers graph.nodes) graph.edges arcs
  sorted_alone arcs starts_are heads_are weights_are =
      let table = own_numbers graph.nodes in
      let weight : Edge → ℕ = λ edge. edge.weight in
      let heads = map (end_of Out table) graph.edges in
      let weights = map weight graph.edges in
      let P : List ℕ → Type 0 = AreStarts graph.nodes by in
      let starts : P arcs.starts.items = subst P (sym starts_are) starts_alone in
      let headed : length heads ≡ length by = length-map graph.edges (end_of Out table) ∙ sym (length-map graph.edges (key_of Out table)) in
      let weighed : length weights ≡ length by = length-map graph.edges weight ∙ sym (length-map graph.edges (key_of Out table)) in
      let known : All (λ key. key < graph.nodes) by = All-map (λ key. key < graph.nodes) (key_of Out table) graph.edges (All-weaker (IsWithin graph.nodes) (λ (edge : Edge). key_of Out table edge < graph.nodes) (λ edge ends. omega (arith, own graph.nodes edge.src ends.0, ends.0)) graph.edges is.within) in
      let same_heads : arcs.heads.items ≡ heads = heads_are ∙ sym (destinations_keyed graph.nodes graph.edges is.within) in
      let heads_long : length arcs.heads.items ≡ length by = ap length same_heads ∙ headed in
      let weights_long : length arcs.weights.items ≡ length by = ap length weights_are ∙ weighed in
      let there = there_from_rising by heads weights headed weighed graph.nodes known arcs starts heads_long weights_long sources_rise same_heads weights_are in
      record {
        runs = runs_from_starts by heads weights headed weighed graph.nodes known arcs starts heads_long weights_long;
        few = omega (arith, starts.long);
        all = ap length same_heads ∙ length-map graph.edges (end_of Out table);
        here = λ key. here_from_starts by heads weights headed weighed graph.nodes known arcs starts heads_long weights_long there key ∙ rows_with_key (key_of Out table) (end_of Out table) weight key graph.edges;
      }

-- ---- the local graph

module _ (masters : Assignment) (are_masters : IsAssignment masters) (alone : masters.hosts ≡ 1) (graph : Graph) (is : IsGraph graph) (as_many : graph.nodes ≡ length masters.masters) where
  -- all edges are here
  abbrev pub lone_share : Share
  lone_share = share_with 0 masters.hosts masters.masters graph.edges

  lone_is_share : IsShare lone_share
  lone_is_share = record {
    is_host = omega (arith, alone);
    few_hosts = are_masters.hosts_fit.few_hosts;
    nodes_fit = omega (arith, as_many, is.nodes_fit);
    edges_fit = is.edges_fit;
    on_hosts = are_masters.on_hosts;
    contiguous = are_masters.contiguous;
    within = subst (λ (n : ℕ). All (IsWithin n) graph.edges) as_many is.within;
    weighed = is.weighed;
    by_source = is.by_source;
  }

  lone_proxies : AreProxies lone_share 0 (nodes_of lone_share) (end_marks (nodes_of lone_share) graph.edges) (own_numbers (nodes_of lone_share)) []
  lone_proxies =
      proxies_alone lone_share refl
      (All-weaker (λ master. master < masters.hosts) (λ master. master < 1) (λ master low. omega (arith, low, alone)) masters.masters are_masters.on_hosts)
      lone_is_share.within

  -- fields that hold the columns of the graph
  pub record AreLone (inside : Inside) : Type 0 where
    pub host : inside.host ≡ 0
    pub nodes : inside.nodes ≡ graph.nodes
    pub same : inside.masters ≡ masters
    pub first : inside.first ≡ 0
    pub count : inside.count ≡ graph.nodes
    pub mirrors : inside.mirrors.items ≡ []
    pub starts : inside.out.starts.items ≡ starts_of graph
    pub heads : inside.out.heads.items ≡ map (λ (edge : Edge). edge.dst) graph.edges
    pub weights : inside.out.weights.items ≡ map (λ (edge : Edge). edge.weight) graph.edges
    pub back : AreInArcsOf graph.nodes (map (λ (edge : Edge). edge.dst) graph.edges) (map (λ (edge : Edge). edge.src) graph.edges) (map (λ (edge : Edge). edge.weight) graph.edges) inside.back

  lone_fields : (inside : Inside) → AreLone inside → AreFields lone_share 0 (nodes_of lone_share) (own_numbers (nodes_of lone_share)) [] inside
  lone_fields inside lone =
      let nodes = nodes_of lone_share in
      let table = own_numbers nodes in
      let edges = graph.edges in
      let within = lone_is_share.within in
      let same_count : nodes ≡ nodes + 0 = omega arith in
      let all_nodes : graph.nodes ≡ nodes + 0 = omega (arith, as_many) in
      let Sorted : ℕ → Type 0 = λ n. AreSorted Out n (own_numbers n) edges inside.out in
      let Counted : ℕ → Type 0 = λ n. AreSorted Out n table edges inside.out in
      let Laid : ℕ → Type 0 = λ n. AreInArcsOf n (map (λ (edge : Edge). edge.dst) edges) (map (λ (edge : Edge). edge.src) edges) (map (λ (edge : Edge). edge.weight) edges) inside.back in
      let known : All (λ key. key < nodes + 0) (map (key_of Back table) edges) = All-map (λ key. key < nodes + 0) (key_of Back table) edges (All-weaker (IsWithin nodes) (λ (edge : Edge). key_of Back table edge < nodes + 0) (λ edge ends. omega (arith, own nodes edge.dst ends.1, ends.1)) edges within) in
      record {
        is_share = lone_is_share;
        host = lone.host;
        hosts = ap (λ (a : Assignment). a.hosts) lone.same;
        masters = ap (λ (a : Assignment). a.masters) lone.same;
        nodes = lone.nodes ∙ as_many;
        begins = lone.first;
        hosted = lone.count ∙ as_many;
        mirrored = lone.mirrors;
        out = subst Counted same_count (subst Sorted as_many (sorted_alone graph is inside.out lone.starts lone.heads lone.weights));
        back =
            in_arcs_are (nodes + 0) table edges inside.back _ _ _ known
            (sym (destinations_keyed nodes edges within)) (sym (sources_keyed nodes edges within)) refl
            (subst Laid all_nodes lone.back);
      }

  -- they are those of the local graph with all edges
  pub lone_kept : (inside : Inside) → AreLone inside → IsKept inside
  lone_kept inside lone = kept_fields lone_proxies (lone_fields inside lone)

  pub lone_stands : (inside : Inside) → AreLone inside → share_of inside ≡ lone_share
  lone_stands inside lone = stands lone_proxies (lone_fields inside lone)
