-- What rules make of a graph is a division of it.
use Rattle.std.proofs.Common.{ℕ, List, length, ap, sym, ◌∙◌}
use Rattle.graph_model.specs.Graph.{Graph, IsGraph}
use Rattle.graph_model.specs.declared.edge.Way.{Way}
use Rattle.cusp_rules.specs.Hosts.{IsHostCount}
use Rattle.edge_owner.specs.declared.rules.Rules.{Rules}
use Rattle.graph_division.specs.DivisionOf.{IsDivisionOf}
use Rattle.graph_division.specs.Partition.{division_of}
use Rattle.share_plan.specs.Owners.{share_at, shares_of}
use Rattle.share_plan.proofs.OwnersLaws.{length-masters}
use Rattle.share_plan.proofs.Partitions.{share-is, shares_are_partition, arcs_are_shared}

pub is_division_of : (way : Way) (rules : Rules) (hosts : ℕ) (graph : Graph) → IsHostCount hosts → IsGraph graph → IsDivisionOf graph way (division_of way (shares_of rules hosts graph))
is_division_of way rules hosts graph counted fact =
    let partition = shares_are_partition rules hosts graph counted fact in
    let first = share-is rules hosts graph 0 counted.some_host in
    let agrees = (partition.by_host 0 (share_at rules hosts graph 0) first).agrees in
    record {
      nodes = ap (λ (masters : List ℕ). length masters) (sym agrees) ∙ length-masters rules hosts graph;
      arcs = arcs_are_shared way rules hosts graph counted fact;
    }
