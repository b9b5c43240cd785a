use Rattle.std.proofs.Common.{◌≡◌, ◌<◌, true, [], ◌∷◌, ◌++◌, ◌==◌, ℕ, List, length, sym, ap, ◌∙◌, arith, subst}
use Rattle.std.proofs.lemmas.Bool.{eq-eqb}
use Rattle.std.proofs.lemmas.List.Elements.{All-weaker}
use Rattle.graph_model.specs.Graph.{Graph, IsGraph}
use Rattle.graph_model.specs.declared.edge.Edge.{Edge}
use Rattle.cusp_rules.specs.Assignment.{Assignment}
use Rattle.cusp_rules.specs.Formulas.{IsStarts, masters_of}
use Rattle.cusp_rules.specs.Hosts.{IsHostCount}
use Rattle.edge_columns.specs.Starts.{starts_of}
use Rattle.edge_owner.specs.declared.rules.Rules.{Rules}
use Rattle.graph_division.specs.Partition.{IsPartition}
use Rattle.graph_division.specs.Shares.{Share}
use Rattle.share_plan.specs.Owners.{owner_at, share_at, shares_of}
use Rattle.share_plan.proofs.OwnersLaws.{length-masters, edges_have_owners}
use Rattle.share_plan.proofs.Partitions.{shares_are_partition}
use Rattle.share_plan.proofs.StartsLaws.{IsStarts-starts_of}
use Rattle.partition_build.proofs.SharesMade.{filter_all}
use Rattle.partition_build.proofs.alone.build_alone.Goals as goal

-- one host is a number of hosts
one : IsHostCount 1
one = record { some_host = omega arith; few_hosts = omega arith }

-- all edges are there
all_here : (rules : Rules) (graph : Graph) → IsGraph graph → (share_at rules 1 graph 0).edges ≡ graph.edges
all_here rules graph is =
    filter_all (λ edge. owner_at rules 1 graph edge == 0) graph.edges
    (All-weaker (λ edge. owner_at rules 1 graph edge < 1) (λ edge. (owner_at rules 1 graph edge == 0) ≡ true)
    (λ edge below. eq-eqb (owner_at rules 1 graph edge) 0 (omega (arith, below))) graph.edges (edges_have_owners rules 1 graph one is))

-- so the share with all edges is what the rules give
alone : (rules : Rules) (graph : Graph) → IsGraph graph → (masters : Assignment) → masters ≡ record { hosts = 1; masters = masters_of rules.masters 1 (starts_of graph) }
    → (share : Share) → share ≡ record { host = 0; hosts = masters.hosts; masters = masters.masters; edges = graph.edges } → share ∷ [] ≡ shares_of rules 1 graph
alone rules graph is masters are share made =
    ap (λ (s : Share). s ∷ []) (
    made
    ∙ ap (λ (a : Assignment). record { host = 0; hosts = a.hosts; masters = a.masters; edges = graph.edges }) are
    ∙ ap (λ (es : List Edge). record { host = 0; hosts = 1; masters = masters_of rules.masters 1 (starts_of graph); edges = es }) (sym (all_here rules graph is)))

pub new-requires-clause-starts : goal.new-requires-clause-starts
new-requires-clause-starts c = subst IsStarts (sym c.starts.ensures.starts) (IsStarts-starts_of c.args.columns c.starts.ensures.facts)

pub of_columns-requires : goal.of_columns-requires
of_columns-requires c = record {
  alone = ap (λ (a : Assignment). a.hosts) c.in_ok-masters.ensures;
  nodes = sym (ap (λ (a : Assignment). length a.masters) c.in_ok-masters.ensures ∙ ap (λ (ss : List ℕ). length (masters_of c.args.rules.masters 1 ss)) c.starts.ensures.starts ∙ length-masters c.args.rules 1 c.args.columns);
}

pub returns-clause-shares : goal.returns-clause-shares
returns-clause-shares c =
    c.in_ok-push.ensures.items
    ∙ ap (λ (xs : List Share). xs ++ c.in_ok-graph.graph ∷ []) c.in_ok-graphs.ensures.items
    ∙ alone c.args.rules c.args.columns c.starts.ensures.facts c.in_ok-masters.masters
    (c.in_ok-masters.ensures ∙ ap (λ (ss : List ℕ). record { hosts = 1; masters = masters_of c.args.rules.masters 1 ss }) c.starts.ensures.starts)
    c.in_ok-graph.graph c.in_ok-graph.ensures

pub returns-clause-partition : goal.returns-clause-partition
returns-clause-partition c = subst IsPartition (sym (returns-clause-shares c)) (shares_are_partition c.args.rules 1 c.args.columns one c.starts.ensures.facts)
