-- What hosts hold by rules is a partition, and their arcs together are those of the graph.
use Rattle.std.proofs.Common.{◌≡◌, ℕ, zero, suc, ◌+◌, ◌<◌, ◌≤◌, ◌==◌, List, [], ◌∷◌, ◌++◌, length, map, Some, slice_get, slice_index_or, refl, sym, ap, ◌∙◌, subst, append_assoc, ⊎_elim, arith}
use Rattle.std.specs.List.{All, flat_map, range_with_len, sum_by}
use Rattle.std.specs.List.Sorted.{IsPermutation, IsNonDecreasingBy}
use Rattle.std.proofs.lemmas.Bool.{cases_lt}
use Rattle.std.proofs.lemmas.List.{map-append}
use Rattle.std.proofs.lemmas.List.Elements.{All-filter}
use Rattle.std.proofs.lemmas.List.Sums.{length-filter, count_by-le-length, sum_by-cons}
use Rattle.std.proofs.lemmas.List.Kept.{IsNonDecreasingBy-filter}
use Rattle.std.proofs.lemmas.List.Concat.{length-flat_map}
use Rattle.std.proofs.lemmas.List.FromFn.{length-map-range_with_len, get_or-map-range_with_len}
use Rattle.std.proofs.lemmas.List.Sorted.{IsPermutation-refl, IsPermutation-trans, IsPermutation-append, IsPermutation-append_left, IsPermutation-append_right, IsPermutation-append_comm, length_permutation}
use Rattle.std.proofs.lemmas.Option.{slice_get_within, get_or_from_slice_get, slice_get-get_or}
use Rattle.graph_model.specs.declared.edge.Edge.{Edge}
use Rattle.graph_model.specs.declared.edge.Way.{Way}
use Rattle.graph_model.specs.declared.edge.Way.TheVariants.{Outward, Inward, Both}
use Rattle.graph_model.specs.Graph.{Graph, IsGraph, IsBySource, IsWithin, IsWeighed}
use Rattle.graph_model.specs.Arcs.{Arc, out_arc, in_arc, arcs_of}
use Rattle.cusp_rules.specs.Hosts.{IsHostCount}
use Rattle.edge_owner.specs.declared.rules.Rules.{Rules}
use Rattle.graph_division.specs.Division.{whole}
use Rattle.graph_division.specs.Shares.{Share, IsShare}
use Rattle.graph_division.specs.Partition.{IsShareOf, masters_of_all, edges_at, division_of}
use Rattle.graph_division.proofs.Partitions.{edges_at-some}
use Rattle.graph_division.proofs.Grouped.{flat_map-range_same, gathered, group, IsPermutation-map}
use Rattle.share_plan.specs.Owners.{owner_at, share_at, shares_of}
use Rattle.share_plan.specs.Laws.{SharesArePartition, ArcsAreShared}
use Rattle.share_plan.proofs.OwnersLaws.{masters, length-masters, assigned, edges_have_owners}

-- edges by source, as an order of numbers
pub rises-IsBySource : (edges : List Edge) → IsBySource edges → IsNonDecreasingBy (λ edge. edge.src) edges
rises-IsBySource edges by_source i j d order within =
    ⊎_elim
    (λ (before : i < j). by_source i j (slice_index_or edges i d) (slice_index_or edges j d) before (slice_get-get_or edges i d (omega arith)) (slice_get-get_or edges j d within))
    (λ (here : j ≤ i). let same : i ≡ j = omega arith in omega (arith, ap (λ k. (slice_index_or edges k d).src) same))
    (cases_lt i j)

-- and back
pub IsBySource-rises : (edges : List Edge) → IsNonDecreasingBy (λ edge. edge.src) edges → IsBySource edges
IsBySource-rises edges rises i j a b before at_i at_j =
    let order = rises i j a (omega arith) (slice_get_within edges j b at_j) in
    omega (arith, order, ap (λ (e : Edge). e.src) (get_or_from_slice_get edges i a a at_i), ap (λ (e : Edge). e.src) (get_or_from_slice_get edges j b a at_j))

module _ (rules : Rules) (hosts : ℕ) (graph : Graph) where
  -- the edges that a host owns
  abbrev owned : ℕ → List Edge
  owned host = group (λ edge. owner_at rules hosts graph edge) host graph.edges

  -- there is one share a host
  pub length-shares_of : length (shares_of rules hosts graph) ≡ hosts
  length-shares_of = length-map-range_with_len (share_at rules hosts graph) 0 hosts

  -- the share of a host
  pub share-is : (host : ℕ) → host < hosts → slice_get (shares_of rules hosts graph) host ≡ Some (share_at rules hosts graph host)
  share-is host within =
      let long = length-shares_of in
      slice_get-get_or (shares_of rules hosts graph) host (share_at rules hosts graph 0) (omega (arith, long))
      ∙ ap Some (get_or-map-range_with_len (share_at rules hosts graph) 0 hosts host host (share_at rules hosts graph 0) within (omega arith))

  -- and its edges
  pub edges_at-is : (host : ℕ) → host < hosts → edges_at (shares_of rules hosts graph) host ≡ owned host
  edges_at-is host within = sym (edges_at-some (shares_of rules hosts graph) host (share_at rules hosts graph host) (share-is host within))

  -- hosts agree on the masters
  masters_of_all-is : 1 ≤ hosts → masters_of_all (shares_of rules hosts graph) ≡ masters rules hosts graph
  masters_of_all-is some = first hosts some
    where
      first : (count : ℕ) → 1 ≤ count → masters_of_all (map (share_at rules hosts graph) (range_with_len 0 count)) ≡ masters rules hosts graph
      first zero some = absurd (omega arith)
      first (suc count) some = refl

  -- all hosts' edges are those of the graph, in another order
  pub edges_shared : IsHostCount hosts → IsGraph graph → IsPermutation graph.edges (flat_map owned (range_with_len 0 hosts))
  edges_shared count is =
      gathered (λ edge. owner_at rules hosts graph edge) 0 hosts graph.edges (λ k d within. omega arith) (λ k d within. omega (arith, edges_have_owners rules hosts graph count is k d within))

  -- what a host holds is a share
  IsShare-share_at : IsHostCount hosts → IsGraph graph → (host : ℕ) → host < hosts → IsShare (share_at rules hosts graph host)
  IsShare-share_at count is host within =
      let assignment = assigned rules hosts graph count is in
      let long = length-masters rules hosts graph in
      let own = λ (edge : Edge). owner_at rules hosts graph edge == host in
      let nodes_fit = is.nodes_fit in
      let edges_fit = is.edges_fit in
      record {
        is_host = within;
        few_hosts = count.few_hosts;
        nodes_fit = omega (arith, long);
        edges_fit = omega (arith, length-filter own graph.edges, count_by-le-length own graph.edges);
        on_hosts = assignment.on_hosts;
        contiguous = assignment.contiguous;
        within = subst (λ nodes. All (IsWithin nodes) (owned host)) (sym long) (All-filter own (IsWithin graph.nodes) graph.edges is.within);
        weighed = All-filter own IsWeighed graph.edges is.weighed;
        by_source = IsBySource-rises (owned host) (IsNonDecreasingBy-filter (λ edge. edge.src) own graph.edges (rises-IsBySource graph.edges is.by_source));
      }

  -- the edges of all hosts
  edges_counted : (first count : ℕ) → sum_by (λ share. length share.edges) (map (share_at rules hosts graph) (range_with_len first count)) ≡ sum_by (λ host. length (owned host)) (range_with_len first count)
  edges_counted first zero = refl
  edges_counted first (suc count) =
      sum_by-cons (λ share. length share.edges) (share_at rules hosts graph first) (map (share_at rules hosts graph) (range_with_len (first + 1) count))
      ∙ ap (λ n. length (owned first) + n) (edges_counted (first + 1) count)
      ∙ sym (sum_by-cons (λ host. length (owned host)) first (range_with_len (first + 1) count))

pub shares_are_partition : SharesArePartition
shares_are_partition rules hosts graph count is =
    let shares = shares_of rules hosts graph in
    let long = length-shares_of rules hosts graph in
    let some_host = count.some_host in
    let edges_fit = is.edges_fit in
    record {
      some_host = omega (arith, long);
      by_host = λ host share at.
          let within : host < hosts = omega (arith, long, slice_get_within shares host share at) in
          let same : share_at rules hosts graph host ≡ share = let here = share-is rules hosts graph host within in cc in
          subst (λ (s : Share). IsShareOf (length shares) (masters_of_all shares) host s) same (record {
            is_share = IsShare-share_at rules hosts graph count is host within;
            of_host = refl;
            of_hosts = sym long;
            agrees = sym (masters_of_all-is rules hosts graph some_host);
          });
      edges_fit =
          let counted = edges_counted rules hosts graph 0 hosts in
          let joined = length-flat_map (λ host. owned rules hosts graph host) (range_with_len 0 hosts) in
          let all = length_permutation graph.edges _ (edges_shared rules hosts graph count is) in
          omega (arith, counted, joined, all);
    }

-- ---- arcs

-- what hosts' lists become, joined
map-joined : {X Y : Type 0} (f : X → Y) (lists : ℕ → List X) (hosts : List ℕ) → map f (flat_map lists hosts) ≡ flat_map (λ host. map f (lists host)) hosts
map-joined f lists [] = refl
map-joined f lists (host ∷ hosts) = map-append f (lists host) (flat_map lists hosts) ∙ ap (λ ys. map f (lists host) ++ ys) (map-joined f lists hosts)

-- two lists a host, joined host by host or one after the other
joined_twice : {X : Type 0} (f g : ℕ → List X) (hosts : List ℕ) → IsPermutation (flat_map f hosts ++ flat_map g hosts) (flat_map (λ host. f host ++ g host) hosts)
joined_twice f g [] = IsPermutation-refl []
joined_twice f g (host ∷ hosts) =
    let a = f host in
    let b = g host in
    let fs = flat_map f hosts in
    let gs = flat_map g hosts in
    let crossed : IsPermutation (fs ++ (b ++ gs)) (b ++ (fs ++ gs)) =
    subst (λ xs. IsPermutation xs (b ++ (fs ++ gs))) (append_assoc fs b gs)
    (subst (λ ys. IsPermutation ((fs ++ b) ++ gs) ys) (append_assoc b fs gs) (IsPermutation-append_left gs (fs ++ b) (b ++ fs) (IsPermutation-append_comm fs b))) in
    let inner = IsPermutation-trans _ _ _ crossed (IsPermutation-append_right b _ _ (joined_twice f g hosts)) in
    let outer = IsPermutation-append_right a _ _ inner in
    subst (λ xs. IsPermutation xs ((a ++ b) ++ flat_map (λ h. f h ++ g h) hosts)) (sym (append_assoc a fs (b ++ gs)))
    (subst (λ ys. IsPermutation (a ++ (fs ++ (b ++ gs))) ys) (sym (append_assoc a b (flat_map (λ h. f h ++ g h) hosts))) outer)

module _ (rules : Rules) (hosts : ℕ) (graph : Graph) (count : IsHostCount hosts) (is : IsGraph graph) where
  -- arcs of one kind
  mapped : (f : Edge → Arc) → IsPermutation (map f graph.edges) (flat_map (λ host. map f (owned rules hosts graph host)) (range_with_len 0 hosts))
  mapped f =
      subst (λ ys. IsPermutation (map f graph.edges) ys) (map-joined f (λ host. owned rules hosts graph host) (range_with_len 0 hosts))
      (IsPermutation-map f graph.edges _ (edges_shared rules hosts graph count is))

  -- arcs of a way
  of_way : (way : Way) → IsPermutation (arcs_of way graph.edges) (flat_map (λ host. arcs_of way (owned rules hosts graph host)) (range_with_len 0 hosts))
  of_way Outward = mapped out_arc
  of_way Inward = mapped in_arc
  of_way Both =
      IsPermutation-trans _ _ _
      (IsPermutation-append _ _ _ _ (mapped out_arc) (mapped in_arc))
      (joined_twice (λ host. map out_arc (owned rules hosts graph host)) (λ host. map in_arc (owned rules hosts graph host)) (range_with_len 0 hosts))

pub arcs_are_shared : ArcsAreShared
arcs_are_shared way rules hosts graph count is =
    let shares = shares_of rules hosts graph in
    let same : flat_map (λ host. arcs_of way (owned rules hosts graph host)) (range_with_len 0 hosts) ≡ flat_map (λ host. arcs_of way (edges_at shares host)) (range_with_len 0 hosts) =
    flat_map-range_same (λ host. arcs_of way (owned rules hosts graph host)) (λ host. arcs_of way (edges_at shares host)) 0 hosts
    (λ host low high. ap (arcs_of way) (sym (edges_at-is rules hosts graph host (omega arith)))) in
    let all : flat_map (λ host. arcs_of way (edges_at shares host)) (range_with_len 0 hosts) ≡ whole (division_of way shares) =
    ap (λ n. flat_map (λ host. arcs_of way (edges_at shares host)) (range_with_len 0 n)) (sym (length-shares_of rules hosts graph)) in
    subst (λ ys. IsPermutation (arcs_of way graph.edges) ys) (same ∙ all) (of_way rules hosts graph count is way)
