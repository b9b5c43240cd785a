-- What one host holds of a divided graph, and what it can tell from that alone.
use Rattle.std.specs.Prelude.{◌≤◌, ◌<◌, ℕ, ◌==◌, List, ◌++◌, length, All}
use Rattle.std.specs.List.{filter, flat_map, range_with_len, slice_index_or}
use Rattle.std.specs.List.Sorted.{IsNonDecreasing}
use Rattle.graph_model.specs.Graph.{most_nodes, most_edges, IsWithin, IsWeighed, IsBySource}
use Rattle.graph_model.specs.Arcs.{arcs_of}
use Rattle.graph_model.specs.declared.edge.Edge.{Edge}
use Rattle.graph_model.specs.declared.edge.Way.{Way}
use Rattle.graph_model.specs.declared.edge.Way.TheVariants.{Outward}
use Rattle.graph_division.specs.Division.{Division}
use Rattle.graph_division.specs.Lists.{is_mirror}

-- a host's number, the number of hosts, the master of each vertex, and the edges that the host owns, in file order
pub record Share : Type 0 where
  pub host : ℕ
  pub hosts : ℕ
  pub masters : List ℕ
  pub edges : List Edge

-- the number of vertices of the whole graph
abbrev pub nodes_of : Share → ℕ
nodes_of share = length share.masters

-- what holds of every share
pub record IsShare (share : Share) : Type 0 where
  pub is_host : share.host < share.hosts
  pub few_hosts : share.hosts ≤ 64
  pub nodes_fit : nodes_of share ≤ most_nodes
  pub edges_fit : length share.edges ≤ most_edges
  -- each master is a host, and a host's vertices lie side by side, after those of the hosts below it
  pub on_hosts : All (λ master. master < share.hosts) share.masters
  pub contiguous : IsNonDecreasing share.masters
  pub within : All (IsWithin (nodes_of share)) share.edges
  pub weighed : All IsWeighed share.edges
  pub by_source : IsBySource share.edges

-- edges by source, and those of one source as they came; where sources do not fall they stay as they are
abbrev pub in_file_order : (nodes : ℕ) → List Edge → List Edge
in_file_order nodes edges = flat_map (λ v. filter (λ edge. edge.src == v) edges) (range_with_len 0 nodes)

-- The graph as a host knows it, whose edges are followed in a way. What its arcs say is right of this
-- host alone.
abbrev pub seen : Way → Share → Division
seen way share = record {
  nodes = nodes_of share;
  hosts = share.hosts;
  share = λ host. arcs_of way share.edges;
  master = λ v. slice_index_or share.masters v 0;
}

-- the vertices whose master is this host; they rise
abbrev pub masters_here : Share → List ℕ
masters_here share = filter (λ v. slice_index_or share.masters v 0 == share.host) (range_with_len 0 (nodes_of share))

-- the vertices that have a mirror on this host: ends of its edges whose master is elsewhere; they rise
abbrev pub mirrors_here : Share → List ℕ
mirrors_here share = filter (is_mirror (seen Outward share) share.host) (range_with_len 0 (nodes_of share))

-- the vertex of each proxy by local number: masters first, then mirrors, each rising
abbrev pub proxies_here : Share → List ℕ
proxies_here share = masters_here share ++ mirrors_here share
