-- Which host is the master of each vertex of a graph, which owns each edge, and what each host comes to hold.
use Rattle.std.specs.Prelude.{ℕ, ◌==◌, List, map}
use Rattle.std.specs.List.{filter, range_with_len}
use Rattle.graph_model.specs.declared.edge.Edge.{Edge}
use Rattle.graph_model.specs.Graph.{Graph}
use Rattle.cusp_rules.specs.Formulas.{master_of, masters_of}
use Rattle.edge_owner.specs.declared.rules.Rules.{Rules}
use Rattle.edge_owner.specs.Owner.{owner_of}
use Rattle.graph_division.specs.Shares.{Share}
use Rattle.edge_columns.specs.Starts.{starts_of, outdegree_of}

-- the master of a vertex
abbrev pub master_at : Rules → (hosts : ℕ) → Graph → (v : ℕ) → ℕ
master_at rules hosts graph v = master_of rules.masters hosts (starts_of graph) v

-- the owner of an edge
abbrev pub owner_at : Rules → (hosts : ℕ) → Graph → Edge → ℕ
owner_at rules hosts graph edge =
    owner_of rules.owner hosts (master_at rules hosts graph edge.src) (master_at rules hosts graph edge.dst) (outdegree_of graph edge.src)

-- what a host holds: the masters of all vertices, and the edges that it owns, in file order
abbrev pub share_at : Rules → (hosts : ℕ) → Graph → (host : ℕ) → Share
share_at rules hosts graph host = record {
  host = host;
  hosts = hosts;
  masters = masters_of rules.masters hosts (starts_of graph);
  edges = filter (λ edge. owner_at rules hosts graph edge == host) graph.edges;
}

-- what each host holds, by host
abbrev pub shares_of : Rules → (hosts : ℕ) → Graph → List Share
shares_of rules hosts graph = map (share_at rules hosts graph) (range_with_len 0 hosts)
