-- Every host of a cluster serves the graph that the cluster divides.
use Rattle.std.proofs.Common.{◌≡◌, ℕ, List, map, slice_get, Some, refl, sym, ap, ◌∙◌, arith}
use Rattle.std.specs.Prelude.{option_map}
use Rattle.std.specs.List.{slice_index_or}
use Rattle.std.proofs.lemmas.Option.{slice_get-map}
use Rattle.list_laws.proofs.Places.{All-at}
use Rattle.graph_model.specs.Arcs.{arcs_of}
use Rattle.graph_model.specs.declared.edge.Way.{Way}
use Rattle.graph_division.specs.Lists.{reduce_list, broadcast_list}
use Rattle.graph_division.specs.Shares.{Share}
use Rattle.graph_division.specs.Partition.{IsPartition, edges_at, division_of}
use Rattle.graph_division.proofs.Partitions.{hosts_see_themselves}
use Rattle.address_memo.specs.Memos.{Memos, Agree}
use Rattle.host_state.specs.HostState.{HostState}
use Rattle.host_state.specs.Serving.{Serves}
use Rattle.round_driver.specs.ClusterState.{ClusterState, IsCluster, IsHostOf, shares_of, memos_of, division_in}

-- each of the hosts that hold a partition and its memos serves the division of the partition
pub serves_at : {Program Item State Shown : Type 0} (program : Program) (way : Way) (hosts : List (HostState Program Item State Shown)) (shares : List Share) (memos : List Memos)
    → map (λ host. host.graph) hosts ≡ shares → map (λ host. host.memo) hosts ≡ memos → IsPartition shares → Agree way shares memos
    → (h : ℕ) (host : HostState Program Item State Shown) → slice_get hosts h ≡ Some host → IsHostOf program way host
    → Serves (division_of way shares) host
serves_at {Program} {Item} {State} {Shown} program way hosts shares memos graphs_are memos_are partition agree h host at is =
    let share_at : slice_get shares h ≡ Some host.graph
    = ap (λ (l : List Share). slice_get l h) (sym graphs_are) ∙ slice_get-map (λ (one : HostState Program Item State Shown). one.graph) hosts h ∙ ap (option_map (λ (one : HostState Program Item State Shown). one.graph)) at in
    let memo_at : slice_get memos h ≡ Some host.memo
    = ap (λ (l : List Memos). slice_get l h) (sym memos_are) ∙ slice_get-map (λ (one : HostState Program Item State Shown). one.memo) hosts h ∙ ap (option_map (λ (one : HostState Program Item State Shown). one.memo)) at in
    let shows = hosts_see_themselves way shares h host.graph partition share_at in
    let hosts_are = shows.hosts in
    record {
      nodes = sym shows.nodes;
      hosts = sym shows.hosts;
      master = λ v. ap (λ (masters : List ℕ). slice_index_or masters v 0) (sym shows.masters);
      share = ap (λ n. arcs_of way (edges_at shares n)) shows.of_host ∙ ap (arcs_of way) (sym shows.edges) ∙ ap (λ (w : Way). arcs_of w host.graph.edges) (sym is.follows);
      reduce_from = λ peer within. agree.reduce_from h peer host.memo memo_at (omega arith) ∙ ap (λ n. reduce_list (division_of way shares) peer n) (sym shows.of_host);
      spread_to = λ peer within. agree.spread_to h peer host.memo memo_at (omega arith) ∙ ap (λ n. broadcast_list (division_of way shares) n peer) (sym shows.of_host);
    }

-- each host of a cluster serves the division of the cluster
pub host_serves : {Program Item State Shown : Type 0} (item_size shown_size : ℕ) (cluster : ClusterState Program Item State Shown) → IsCluster item_size shown_size cluster
    → (h : ℕ) (host : HostState Program Item State Shown) → slice_get cluster.hosts h ≡ Some host → Serves (division_in cluster) host
host_serves {Program} {Item} {State} {Shown} item_size shown_size cluster is h host at =
    serves_at cluster.program cluster.way cluster.hosts (shares_of cluster) (memos_of cluster) refl refl is.is_partition is.agree h host at
    (All-at (IsHostOf cluster.program cluster.way) cluster.hosts h host is.hosts_are at)
