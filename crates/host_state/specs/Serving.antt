-- A host that serves a divided graph: what it holds is its part of that.
use Rattle.std.specs.Prelude.{◌≡◌, ◌<◌, ℕ}
use Rattle.std.specs.List.{slice_index_or}
use Rattle.graph_model.specs.Arcs.{arcs_of}
use Rattle.reduce_laws.specs.ReductionLaws.{Reducer}
use Rattle.reduce_laws.specs.ProgramLaws.{Steps}
use Rattle.graph_division.specs.Division.{Division}
use Rattle.graph_division.specs.Lists.{reduce_list, broadcast_list}
use Rattle.graph_division.specs.Shares.{nodes_of}
use Rattle.address_memo.specs.Memos.{list_at}
use Rattle.round_packets.specs.Runs.{Run}
use Rattle.host_state.specs.HostState.{HostState}

-- the run of a program on a divided graph, where items and shown values have so many bytes
abbrev pub run_of : {Item State Shown : Type 0} → Reducer Item → Steps Item State Shown → (item_size shown_size : ℕ) → Division → Run Item State Shown
run_of reducer steps item_size shown_size division =
    record { reducer = reducer; steps = steps; division = division; item_size = item_size; shown_size = shown_size }

-- the host holds its arcs of the division, knows all masters, and has been told its lists by the others
pub record Serves {Program Item State Shown : Type 0} (division : Division) (host : HostState Program Item State Shown) : Type 0 where
  pub nodes : division.nodes ≡ nodes_of host.graph
  pub hosts : division.hosts ≡ host.graph.hosts
  pub master : (v : ℕ) → division.master v ≡ slice_index_or host.graph.masters v 0
  pub share : division.share host.graph.host ≡ arcs_of host.way host.graph.edges
  pub reduce_from : (peer : ℕ) → peer < host.graph.hosts → (list_at host.memo.reduce_from peer).globals ≡ reduce_list division peer host.graph.host
  pub spread_to : (peer : ℕ) → peer < host.graph.hosts → (list_at host.memo.spread_to peer).globals ≡ broadcast_list division host.graph.host peer
