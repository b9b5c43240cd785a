-- Laws of what rules make of a graph.
use Rattle.std.specs.Prelude.{◌≡◌, ℕ, ◌<◌, Bool, true, All}
use Rattle.std.specs.List.Sorted.{IsPermutation}
use Rattle.graph_model.specs.declared.edge.Edge.{Edge}
use Rattle.graph_model.specs.declared.edge.Way.{Way}
use Rattle.graph_model.specs.Arcs.{arcs_of}
use Rattle.graph_model.specs.Graph.{Graph, IsGraph, IsWithin}
use Rattle.cusp_rules.specs.Hosts.{IsHostCount}
use Rattle.cusp_rules.specs.declared.master_rule.MasterRule.{MasterRule}
use Rattle.edge_owner.specs.declared.rules.Rules.{Rules}
use Rattle.edge_owner.specs.declared.owner_rule.OwnerRule.{OwnerRule}
use Rattle.edge_owner.specs.declared.owner_rule.OwnerRule.TheVariants.{Source, Dest, Cartesian}
use Rattle.graph_division.specs.Division.{whole}
use Rattle.graph_division.specs.Shares.{Share}
use Rattle.graph_division.specs.Partition.{IsPartition, division_of}
use Rattle.graph_division.specs.Classes.{has_out, has_in, has_both, no_mirror}
use Rattle.share_plan.specs.Owners.{owner_at, shares_of}
use Rattle.share_plan.specs.Plan.{owner_by, plan_of}

-- a plan tells each edge's owner
abbrev pub PlansTellOwners : Type 0
PlansTellOwners =
    (rules : Rules) (hosts : ℕ) (graph : Graph) (edge : Edge)
    → IsWithin graph.nodes edge → owner_by (plan_of rules hosts graph) edge ≡ owner_at rules hosts graph edge

-- every edge has an owner, which is a host
abbrev pub EdgesHaveOwners : Type 0
EdgesHaveOwners =
    (rules : Rules) (hosts : ℕ) (graph : Graph)
    → IsHostCount hosts → IsGraph graph → All (λ edge. owner_at rules hosts graph edge < hosts) graph.edges

-- what the hosts hold is a partition
abbrev pub SharesArePartition : Type 0
SharesArePartition =
    (rules : Rules) (hosts : ℕ) (graph : Graph)
    → IsHostCount hosts → IsGraph graph → IsPartition (shares_of rules hosts graph)

-- the hosts' arcs together are those of the graph, each once, in some order
abbrev pub ArcsAreShared : Type 0
ArcsAreShared =
    (way : Way) (rules : Rules) (hosts : ℕ) (graph : Graph)
    → IsHostCount hosts → IsGraph graph
    → IsPermutation (arcs_of way graph.edges) (whole (division_of way (shares_of rules hosts graph)))

-- by this rule for owners no host has a mirror of this kind, whatever the masters, the graph and the number of hosts
abbrev pub LacksMirrors : OwnerRule → (Share → ℕ → Bool) → Type 0
LacksMirrors owner kind =
    (masters : MasterRule) (hosts : ℕ) (graph : Graph)
    → IsHostCount hosts → IsGraph graph
    → no_mirror kind (shares_of (record { masters = masters; owner = owner }) hosts graph) ≡ true

-- where a source's master owns its edges, no mirror has an out-edge
abbrev pub SourceHasNoOut : Type 0
SourceHasNoOut = LacksMirrors Source has_out

-- where a destination's master owns its edges, no mirror has an in-edge
abbrev pub DestHasNoIn : Type 0
DestHasNoIn = LacksMirrors Dest has_in

-- where edges go by the grid, no mirror has both
abbrev pub CartesianHasNoBoth : Type 0
CartesianHasNoBoth = LacksMirrors Cartesian has_both
