-- Masters and owners by the rules.
use Rattle.std.proofs.Common.{◌≡◌, ℕ, ◌+◌, ◌-◌, ◌<◌, List, length, slice_index, slice_index_or, ap, ◌∙◌, arith}
use Rattle.std.proofs.lemmas.List.Elements.{All-weaker}
use Rattle.std.proofs.lemmas.List.FromFn.{length-map-range_with_len, get_or-map-range_with_len}
use Rattle.graph_model.specs.Graph.{Graph, IsGraph, IsWithin}
use Rattle.cusp_rules.specs.Assignment.{IsAssignment}
use Rattle.cusp_rules.specs.Hosts.{IsHostCount}
use Rattle.cusp_rules.specs.Formulas.{master_of, masters_of, vertices_of}
use Rattle.cusp_rules.proofs.Formed.{IsAssignment-masters_of}
use Rattle.edge_owner.specs.declared.rules.Rules.{Rules}
use Rattle.edge_owner.specs.Owner.{owner_of}
use Rattle.edge_owner.proofs.Places.{owner-below}
use Rattle.edge_columns.specs.Starts.{starts_of, outdegree_of}
use Rattle.share_plan.specs.Owners.{master_at, owner_at}
use Rattle.share_plan.specs.Laws.{PlansTellOwners, EdgesHaveOwners}
use Rattle.share_plan.proofs.StartsLaws.{length-starts_of, IsStarts-starts_of, outdegree-starts}

module _ (rules : Rules) (hosts : ℕ) (graph : Graph) where
  -- the master of each vertex
  abbrev pub masters : List ℕ
  masters = masters_of rules.masters hosts (starts_of graph)

  -- one for each
  pub length-masters : length masters ≡ graph.nodes
  length-masters =
      let long = length-starts_of graph in
      length-map-range_with_len (master_of rules.masters hosts (starts_of graph)) 0 (vertices_of (starts_of graph)) ∙ omega (arith, long)

  -- the master of a vertex, at any default
  pub master-is : (v d : ℕ) → v < graph.nodes → slice_index_or masters v d ≡ master_at rules hosts graph v
  master-is v d within =
      let long = length-starts_of graph in
      get_or-map-range_with_len (master_of rules.masters hosts (starts_of graph)) 0 (vertices_of (starts_of graph)) v v d (omega (arith, long)) (omega arith)

  -- masters are an assignment
  pub assigned : IsHostCount hosts → IsGraph graph → IsAssignment (record { hosts = hosts; masters = masters })
  assigned count is = IsAssignment-masters_of rules.masters hosts (starts_of graph) count (IsStarts-starts_of graph is)

  -- a master is a host
  pub master-below : IsHostCount hosts → IsGraph graph → (v : ℕ) → v < graph.nodes → master_at rules hosts graph v < hosts
  master-below count is v within =
      let long = length-masters in
      omega (arith, (assigned count is).on_hosts v 0 (omega (arith, long)), master-is v 0 within)

pub plans_tell_owners : PlansTellOwners
plans_tell_owners rules hosts graph edge within =
    ap (λ ms. owner_of rules.owner hosts ms (slice_index (masters rules hosts graph) edge.dst) (slice_index (starts_of graph) (edge.src + 1) - slice_index (starts_of graph) edge.src)) (master-is rules hosts graph edge.src 0 within.0)
    ∙ ap (λ md. owner_of rules.owner hosts (master_at rules hosts graph edge.src) md (slice_index (starts_of graph) (edge.src + 1) - slice_index (starts_of graph) edge.src)) (master-is rules hosts graph edge.dst 0 within.1)
    ∙ ap (λ degree. owner_of rules.owner hosts (master_at rules hosts graph edge.src) (master_at rules hosts graph edge.dst) degree) (outdegree-starts graph edge.src within.0)

pub edges_have_owners : EdgesHaveOwners
edges_have_owners rules hosts graph count is =
    All-weaker (IsWithin graph.nodes) (λ edge. owner_at rules hosts graph edge < hosts)
    (λ edge within. owner-below rules.owner hosts _ _ (outdegree_of graph edge.src) (master-below rules hosts graph count is edge.src within.0) (master-below rules hosts graph count is edge.dst within.1))
    graph.edges is.within
