-- What the fields of a local graph mean.
use Rattle.std.specs.Prelude.{◌≡◌, ◌<◌, ℕ, Bool, true, List, ◌++◌, length, map, slice_index}
use Rattle.std.specs.List.{All, flat_map, range_with_len}
use Rattle.list_laws.specs.Among.{is_among, place_of}
use Rattle.list_laws.specs.Members.{has_member}
use Rattle.graph_model.specs.declared.edge.Edge.{Edge}
use Rattle.graph_model.specs.declared.edge.Way.TheVariants.{Outward, Inward}
use Rattle.graph_division.specs.Lists.{is_writable}
use Rattle.graph_division.specs.Shares.{Share, IsShare, nodes_of, seen, masters_here, mirrors_here, proxies_here}
use Rattle.proxy_graph.specs.Heads.{vertex_at, lid_of}
use Rattle.proxy_graph.specs.Numbering.{IsLidOf}
use Rattle.proxy_graph.specs.Runs.{arcs_at, KeepsArcs}
use Rattle.proxy_graph.specs.declared.arcs.Arcs.{Arcs}
use Rattle.proxy_graph.specs.declared.in_arcs.InArcs.{InArcs}
use Rattle.proxy_graph.specs.declared.in_arcs.InArcs.TheVariants.{Laid, Unlaid}
use Rattle.proxy_graph.specs.declared.local_graph.LocalGraph.TheInside.{Inside}

-- the vertices of the proxies: the masters in a row, then the mirrors
abbrev pub proxies_of : Inside → List ℕ
proxies_of graph = range_with_len graph.first graph.count ++ graph.mirrors.items

-- the edge from a vertex that an arc stands for
abbrev pub edge_from : (proxies : List ℕ) (v : ℕ) → ℕ × ℕ → Edge
edge_from proxies v arc = record { src = v; dst = slice_index proxies arc.0; weight = arc.1 }

-- the edges that arcs by tail stand for, by source
unfoldable pub edges_of : (nodes : ℕ) (proxies : List ℕ) (out : Arcs) → List Edge
edges_of nodes proxies out = flat_map (λ v. map (edge_from proxies v) (arcs_at out (place_of proxies v))) (range_with_len 0 nodes)

-- the share that the fields stand for
abbrev pub share_of : Inside → Share
share_of graph = record {
  host = graph.host;
  hosts = graph.masters.hosts;
  masters = graph.masters.masters;
  edges = edges_of graph.nodes (proxies_of graph) graph.out;
}

-- the set of the proxies that are the head of an arc
pub record AreHeads (share : Share) (heads : List Bool) : Type 0 where
  pub long : length heads ≡ length (proxies_here share)
  pub heads_are : (lid : ℕ) → lid < length (proxies_here share) → has_member heads lid ≡ is_writable (seen Outward share) share.host (vertex_at share lid)

-- the in-arcs of a share are laid by head, or it is known which proxies have one
abbrev pub KeepsInArcs : Share → InArcs → Type 0
KeepsInArcs share (Laid arcs) = KeepsArcs Inward share arcs
KeepsInArcs share (Unlaid heads) = AreHeads share heads

-- each proxy is told by its local number, and both ends of an edge have one
pub record AreLids (share : Share) : Type 0 where
  pub only : (v lid : ℕ) → IsLidOf (proxies_here share) v lid → lid_of share v ≡ lid
  pub sources : All (λ edge. is_among (proxies_here share) edge.src ≡ true) share.edges
  pub destinations : All (λ edge. is_among (proxies_here share) edge.dst ≡ true) share.edges

-- the fields are those of the local graph of this share
pub record Keeps (share : Share) (graph : Inside) : Type 0 where
  pub is_share : IsShare share
  pub host : share.host ≡ graph.host
  pub hosts : share.hosts ≡ graph.masters.hosts
  pub masters : share.masters ≡ graph.masters.masters
  pub nodes : nodes_of share ≡ graph.nodes
  pub masters_are : masters_here share ≡ range_with_len graph.first graph.count
  pub mirrors_are : mirrors_here share ≡ graph.mirrors.items
  pub out_arcs : KeepsArcs Outward share graph.out
  pub in_arcs : KeepsInArcs share graph.back
  pub lids : AreLids share

-- what holds of the fields of every local graph
abbrev pub IsKept : Inside → Type 0
IsKept graph = Keeps (share_of graph) graph
