-- A cluster as the contracts of its calls see it: all hosts and the channels between them.
use Rattle.std.specs.Prelude.{◌≡◌, ◌+◌, ◌*◌, ℕ, List, length, map, All}
use Rattle.std.specs.List.{range_with_len}
use Rattle.reduce_laws.specs.ReductionLaws.{Reducer}
use Rattle.reduce_laws.specs.ProgramLaws.{Steps}
use Rattle.graph_model.specs.declared.edge.Way.{Way}
use Rattle.graph_division.specs.Division.{Division}
use Rattle.graph_division.specs.Shares.{Share}
use Rattle.graph_division.specs.Partition.{IsPartition, division_of}
use Rattle.address_memo.specs.Memos.{Memos, Agree}
use Rattle.packet_table.specs.declared.channel_spec.ChannelSpec.{ChannelSpec}
use Rattle.packet_table.specs.declared.channel_spec.Leg.{Leg as TableLeg}
use Rattle.packet_table.specs.declared.channel_spec.Leg.TheVariants.{Reduce, Spread}
use Rattle.packet_table.specs.Table.{Table, IsTable, payload_of}
use Rattle.host_laws.specs.HostView.{HostView}
use Rattle.cluster_laws.specs.Channels.{Leg, Channel, channels, list_of}
use Rattle.cluster_laws.specs.Channels.Leg.{reduce, broadcast}
use Rattle.cluster_laws.specs.Cluster.{StandsBetween}
use Rattle.cluster_laws.specs.Numbers.{ClusterTable, cluster_of}
use Rattle.host_state.specs.HostState.{HostState, IsHost}
use Rattle.host_state.specs.Serving.{run_of}

-- the program and the way of all hosts, how many rounds were run, the hosts by number, and the channels
pub record ClusterState (Program Item State Shown : Type 0) : Type 0 where
  pub program : Program
  pub way : Way
  pub round : ℕ
  pub hosts : List (HostState Program Item State Shown)
  pub table : Table

module _ {Program Item State Shown : Type 0} (cluster : ClusterState Program Item State Shown) where
  -- the hosts' parts of the graph, and their lists
  abbrev pub shares_of : List Share
  shares_of = map (λ host. host.graph) cluster.hosts

  abbrev pub memos_of : List Memos
  memos_of = map (λ host. host.memo) cluster.hosts

  -- the whole graph as it is divided among the hosts
  abbrev pub division_in : Division
  division_in = division_of cluster.way shares_of

  -- the hosts' fields, what is in flight, and what was last posted
  abbrev pub table_in : ClusterTable Program Item State Shown
  table_in = record {
    hosts = map (λ host. host.view) cluster.hosts;
    flights = cluster.table.flying;
    payloads = map (payload_of cluster.table) (range_with_len 0 (length cluster.table.specs));
  }

-- a host runs this program, and follows edges in this way
pub record IsHostOf {Program Item State Shown : Type 0} (program : Program) (way : Way) (host : HostState Program Item State Shown) : Type 0 where
  pub is_host : IsHost host
  pub runs : host.view.program ≡ program
  pub follows : host.way ≡ way

-- the legs of the laws and of the table
abbrev pub leg_in_table : Leg → TableLeg
leg_in_table reduce = Reduce
leg_in_table broadcast = Spread

-- the number of bytes of a value that goes on a leg
abbrev pub size_on : (item_size shown_size : ℕ) → Leg → ℕ
size_on item_size shown_size reduce = item_size
size_on item_size shown_size broadcast = shown_size

-- a channel with room for the form of all values of its list
abbrev pub spec_of : (item_size shown_size : ℕ) → Division → Channel → ChannelSpec
spec_of item_size shown_size division channel = record {
  leg = leg_in_table channel.leg;
  from = channel.from;
  to = channel.to;
  room = 1 + length (list_of division channel.leg channel.from channel.to) * size_on item_size shown_size channel.leg;
}

-- what holds of every cluster, where items and shown values have so many bytes
pub record IsCluster {Program Item State Shown : Type 0} (item_size shown_size : ℕ) (cluster : ClusterState Program Item State Shown) : Type 0 where
  pub is_partition : IsPartition (shares_of cluster)
  pub agree : Agree cluster.way (shares_of cluster) (memos_of cluster)
  pub hosts_are : All (IsHostOf cluster.program cluster.way) cluster.hosts
  -- one channel for each list that is not empty, and no other
  pub channels_are : cluster.table.specs ≡ map (spec_of item_size shown_size (division_in cluster)) (channels (division_in cluster))
  pub is_table : IsTable cluster.table

-- The cluster stands for the moment between its round and the next one, in the run of its program on its
-- graph. The view `spare` is that of hosts that there are not.
abbrev pub StandsNow : {Program Item State Shown : Type 0} → Reducer Item → Steps Item State Shown → (item_size shown_size : ℕ) → (item_bytes : Item → List ℕ) → (shown_bytes : Shown → List ℕ) → ClusterState Program Item State Shown → Type 0
StandsNow {Program} {Item} {State} {Shown} reducer steps item_size shown_size item_bytes shown_bytes cluster =
    (spare : HostView Program Item State Shown)
    → StandsBetween item_bytes shown_bytes (run_of reducer steps item_size shown_size (division_in cluster)) cluster.round (cluster_of (division_in cluster) spare (table_in cluster))

-- the graphs, the lists, the program and the way stay, and so do the channels
pub record StaysItself {Program Item State Shown : Type 0} (old new : ClusterState Program Item State Shown) : Type 0 where
  pub same_shares : shares_of new ≡ shares_of old
  pub same_memos : memos_of new ≡ memos_of old
  pub same_program : new.program ≡ old.program
  pub same_way : new.way ≡ old.way
  pub same_channels : new.table.specs ≡ old.table.specs
