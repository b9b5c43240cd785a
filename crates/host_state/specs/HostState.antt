-- One host as the contracts of its calls see it.
use Rattle.std.specs.Prelude.{◌≡◌, ℕ, length}
use Rattle.graph_model.specs.declared.edge.Way.{Way}
use Rattle.graph_division.specs.Shares.{Share, IsShare, masters_here, proxies_here}
use Rattle.address_memo.specs.Memos.{Memos, AreMemos, Fits}
use Rattle.host_laws.specs.HostView.{HostView}

-- the host's part of the graph, its lists, the way in which edges are followed, and its fields by local number
pub record HostState (Program Item State Shown : Type 0) : Type 0 where
  pub graph : Share
  pub memo : Memos
  pub way : Way
  pub view : HostView Program Item State Shown

-- what holds of every host
pub record IsHost {Program Item State Shown : Type 0} (host : HostState Program Item State Shown) : Type 0 where
  pub is_share : IsShare host.graph
  pub is_memo : AreMemos host.memo
  pub fits : Fits host.way host.graph host.memo
  pub of_host : host.view.host ≡ host.graph.host
  -- its proxies are those of its graph, masters first
  pub vertices_are : host.view.vertices ≡ proxies_here host.graph
  pub masters_are : host.view.masters ≡ length (masters_here host.graph)
  -- masters have states, and each proxy has the rest
  pub states_fit : length host.view.states ≡ host.view.masters
  pub shown_fit : length host.view.shown ≡ length host.view.vertices
  pub next_fit : length host.view.next ≡ length host.view.vertices
  pub items_fit : length host.view.items ≡ length host.view.vertices
  pub awake_fit : length host.view.awake ≡ length host.view.vertices
  pub awake_next_fit : length host.view.awake_next ≡ length host.view.vertices
  -- what was taken goes by the number of the sender
  pub took_reduce_fit : length host.view.took_reduce ≡ host.graph.hosts
  pub took_broadcast_fit : length host.view.took_broadcast ≡ host.graph.hosts
