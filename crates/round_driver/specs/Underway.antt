-- Hosts and channels within a round of a run.
use Rattle.std.specs.Prelude.{◌≡◌, ◌≤◌, ℕ, List, length, map, slice_get, Some}
use Rattle.std.specs.List.{range_with_len}
use Rattle.graph_model.specs.declared.edge.Way.{Way}
use Rattle.graph_division.specs.Division.{Division}
use Rattle.graph_division.specs.Shares.{Share}
use Rattle.address_memo.specs.Memos.{Memos}
use Rattle.packet_table.specs.Table.{Table, IsTable, payload_of}
use Rattle.round_packets.specs.Runs.{Run, IsRun}
use Rattle.host_laws.specs.HostView.{HostView}
use Rattle.host_state.specs.HostState.{HostState, IsHost}
use Rattle.host_state.specs.Serving.{Serves}
use Rattle.cluster_laws.specs.Channels.{channels}
use Rattle.cluster_laws.specs.Cluster.{ClusterView, ClusterStands}
use Rattle.cluster_laws.specs.Events.{Event}
use Rattle.cluster_laws.specs.Steps.{Step}
use Rattle.cluster_laws.specs.Numbers.{ClusterTable, cluster_of}
use Rattle.round_driver.specs.ClusterState.{ClusterState, division_in, spec_of}

-- a program that runs on a divided graph, and how many rounds of it were run
pub record Moment (Program : Type 0) : Type 0 where
  pub program : Program
  pub division : Division
  pub rounds : ℕ

-- that of a cluster's program, after the rounds that were run
abbrev pub moment_of : {Program Item State Shown : Type 0} → ClusterState Program Item State Shown → Moment Program
moment_of cluster = record { program = cluster.program; division = division_in cluster; rounds = cluster.round }

-- what stays of a host over all rounds
pub record Lasting (Program : Type 0) : Type 0 where
  pub graph : Share
  pub memo : Memos
  pub way : Way
  pub program : Program

abbrev pub lasting : {Program Item State Shown : Type 0} → HostState Program Item State Shown → Lasting Program
lasting host = record { graph = host.graph; memo = host.memo; way = host.way; program = host.view.program }

-- a host has this number, runs this program, and serves this divided graph
pub record IsServer {Program Item State Shown : Type 0} (program : Program) (division : Division) (number : ℕ) (host : HostState Program Item State Shown) : Type 0 where
  pub is_host : IsHost host
  pub serves : Serves division host
  pub of_number : host.view.host ≡ number
  pub runs : host.view.program ≡ program

-- all hosts of a divided graph, by number
pub record AreServers {Program Item State Shown : Type 0} (program : Program) (division : Division) (hosts : List (HostState Program Item State Shown)) : Type 0 where
  pub as_many : length hosts ≡ division.hosts
  pub some_host : 1 ≤ length hosts
  pub each : (number : ℕ) (host : HostState Program Item State Shown) → slice_get hosts number ≡ Some host → IsServer program division number host

-- hosts and channels as a cluster's lists hold them
abbrev pub table_of : {Program Item State Shown : Type 0} → List (HostState Program Item State Shown) → Table → ClusterTable Program Item State Shown
table_of hosts table = record {
  hosts = map (λ host. host.view) hosts;
  flights = table.flying;
  payloads = map (payload_of table) (range_with_len 0 (length table.specs));
}

-- as the cluster that they are, where the view `spare` is that of hosts that there are not
abbrev pub seen_as : {Program Item State Shown : Type 0} → Division → HostView Program Item State Shown → List (HostState Program Item State Shown) → Table → ClusterView Program Item State Shown
seen_as division spare hosts table = cluster_of division spare (table_of hosts table)

module _ {Program Item State Shown : Type 0} (IsItem : Item → Type 0) (IsShown : Shown → Type 0) (IsState : State → Type 0) (item_bytes : Item → List ℕ) (shown_bytes : Shown → List ℕ) (run : Run Item State Shown) (program : Program) (rounds : ℕ) where
  -- hosts and channels stand for a moment within the round after so many
  pub record Underway (hosts : List (HostState Program Item State Shown)) (table : Table) : Type 0 where
    pub is_run : IsRun IsItem IsShown IsState run
    pub servers : AreServers program run.division hosts
    pub channels_are : table.specs ≡ map (spec_of run.item_size run.shown_size run.division) (channels run.division)
    pub is_table : IsTable table
    pub stands : (spare : HostView Program Item State Shown) → ClusterStands item_bytes shown_bytes run rounds (seen_as run.division spare hosts table)

  -- an event comes to hosts and channels that are underway
  pub record Turns (hosts : List (HostState Program Item State Shown)) (table : Table) (new_hosts : List (HostState Program Item State Shown)) (new_table : Table) : Type 0 where
    pub underway : Underway new_hosts new_table
    pub same_lasting : map lasting new_hosts ≡ map lasting hosts
    pub step : (spare : HostView Program Item State Shown) → (event : Event) × Step item_bytes shown_bytes run rounds event (seen_as run.division spare hosts table) (seen_as run.division spare new_hosts new_table)
