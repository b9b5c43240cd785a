-- What has to be known of a graph to tell the host of each vertex and of each edge.
use Rattle.std.specs.Prelude.{ℕ, ◌+◌, ◌-◌, Bool, true, false, ◌||◌, ◌==◌, List, slice_index}
use Rattle.graph_model.specs.declared.edge.Edge.{Edge}
use Rattle.graph_model.specs.Graph.{Graph}
use Rattle.cusp_rules.specs.Formulas.{masters_of}
use Rattle.edge_owner.specs.declared.owner_rule.OwnerRule.{OwnerRule}
use Rattle.edge_owner.specs.declared.owner_rule.OwnerRule.TheVariants.{Source, Dest, Hybrid, Cartesian}
use Rattle.edge_owner.specs.declared.rules.Rules.{Rules}
use Rattle.edge_owner.specs.Owner.{owner_of}
use Rattle.edge_columns.specs.Starts.{starts_of}

-- the rule for owners, the number of hosts, the master of each vertex, and where each vertex's edges start
pub record Plan : Type 0 where
  pub rule : OwnerRule
  pub hosts : ℕ
  pub masters : List ℕ
  pub starts : List ℕ

-- the owner of an edge by a plan
abbrev pub owner_by : Plan → Edge → ℕ
owner_by plan edge =
    owner_of plan.rule plan.hosts (slice_index plan.masters edge.src) (slice_index plan.masters edge.dst)
    (slice_index plan.starts (edge.src + 1) - slice_index plan.starts edge.src)

-- the plan of a graph
abbrev pub plan_of : Rules → (hosts : ℕ) → Graph → Plan
plan_of rules hosts graph = record {
  rule = rules.owner;
  hosts = hosts;
  masters = masters_of rules.masters hosts (starts_of graph);
  starts = starts_of graph;
}

-- whether this is the rule by which edges go to the master of their source
abbrev pub is_source : OwnerRule → Bool
is_source Source = true
is_source Dest = false
is_source (Hybrid threshold) = false
is_source Cartesian = false

-- whether each edge is with the master of its source
abbrev pub sources_own : Plan → Bool
sources_own plan = is_source plan.rule || plan.hosts == 1
