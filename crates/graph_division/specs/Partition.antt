-- All hosts' shares of one graph, by host.
use Rattle.std.specs.Prelude.{◌≡◌, ◌≤◌, ℕ, zero, suc, List, [], ◌∷◌, length, slice_get, Some}
use Rattle.std.specs.List.{flat_map, sum_by, slice_index_or}
use Rattle.graph_model.specs.Graph.{Graph, most_edges}
use Rattle.graph_model.specs.Arcs.{arcs_of}
use Rattle.graph_model.specs.declared.edge.Edge.{Edge}
use Rattle.graph_model.specs.declared.edge.Way.{Way}
use Rattle.graph_division.specs.Division.{Division}
use Rattle.graph_division.specs.Shares.{Share, IsShare}

-- the masters on which all hosts agree: those of the first share
abbrev pub masters_of_all : List Share → List ℕ
masters_of_all [] = []
masters_of_all (share ∷ rest) = share.masters

-- the edges of the host of this number, and none where there is no such host
abbrev pub edges_at : List Share → ℕ → List Edge
edges_at [] host = []
edges_at (share ∷ rest) zero = share.edges
edges_at (share ∷ rest) (suc host) = edges_at rest host

-- a share is that of this host, of so many hosts with these masters
pub record IsShareOf (hosts : ℕ) (masters : List ℕ) (host : ℕ) (share : Share) : Type 0 where
  pub is_share : IsShare share
  pub of_host : share.host ≡ host
  pub of_hosts : share.hosts ≡ hosts
  pub agrees : share.masters ≡ masters

-- one share for each host, by rising number, which agree on the masters; their edges are not too many
pub record IsPartition (shares : List Share) : Type 0 where
  pub some_host : 1 ≤ length shares
  pub by_host : (host : ℕ) (share : Share) → slice_get shares host ≡ Some share → IsShareOf (length shares) (masters_of_all shares) host share
  pub edges_fit : sum_by (λ share. length share.edges) shares ≤ most_edges

-- the whole graph of a partition: its vertices, and the edges of all hosts, host after host
abbrev pub graph_of : List Share → Graph
graph_of shares = record { nodes = length (masters_of_all shares); edges = flat_map (λ share. share.edges) shares }

-- the division of a partition's graph whose edges are followed in a way
abbrev pub division_of : Way → List Share → Division
division_of way shares = record {
  nodes = length (masters_of_all shares);
  hosts = length shares;
  share = λ host. arcs_of way (edges_at shares host);
  master = λ v. slice_index_or (masters_of_all shares) v 0;
}
