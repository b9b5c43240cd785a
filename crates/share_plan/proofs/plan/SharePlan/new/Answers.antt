use Rattle.std.proofs.Common.{◌≡◌, ◌+◌, List, ℕ, length, slice_index_or, sym, ap, ◌∙◌, subst}
use Rattle.graph_model.specs.Graph.{Graph}
use Rattle.graph_model.specs.declared.edge.Edge.{Edge}
use Rattle.cusp_rules.specs.Assignment.{Assignment}
use Rattle.cusp_rules.specs.Formulas.{IsStarts, masters_of}
use Rattle.edge_owner.specs.declared.rules.Rules.{Rules}
use Rattle.edge_columns.specs.Starts.{starts_of}
use Rattle.share_plan.specs.Plan.{Plan, owner_by, plan_of}
use Rattle.share_plan.proofs.StartsLaws.{length-starts_of, IsStarts-starts_of}
use Rattle.share_plan.proofs.OwnersLaws.{length-masters, plans_tell_owners}
use Rattle.share_plan.proofs.plan.SharePlan.new.Goals as goal

-- the starts of the parts are those of the graph
starts_of-parts : (graph : Graph) (nodes : ℕ) (edges : List Edge) (starts : List ℕ) → nodes ≡ graph.nodes → edges ≡ graph.edges
    → starts ≡ starts_of (record { nodes = nodes; edges = edges }) → starts ≡ starts_of graph
starts_of-parts graph nodes edges starts same_nodes same_edges is =
    is ∙ ap (λ n. starts_of (record { nodes = n; edges = edges })) same_nodes ∙ ap (λ es. starts_of (record { nodes = graph.nodes; edges = es })) same_edges

-- what is made of the graph's starts and masters is its plan
plan_of-parts : (rules : Rules) (hosts : ℕ) (graph : Graph) (assignment : Assignment) (starts counted : List ℕ) → counted ≡ starts_of graph → starts ≡ starts_of graph
    → assignment ≡ record { hosts = hosts; masters = masters_of rules.masters hosts counted }
    → record { rule = rules.owner; hosts = assignment.hosts; masters = assignment.masters; starts = starts } ≡ plan_of rules hosts graph
plan_of-parts rules hosts graph assignment starts counted same is made =
    ap (λ (a : Assignment). record { rule = rules.owner; hosts = a.hosts; masters = a.masters; starts = starts }) made
    ∙ ap (λ (c : List ℕ). record { rule = rules.owner; hosts = hosts; masters = masters_of rules.masters hosts c; starts = starts }) same
    ∙ ap (λ (s : List ℕ). record { rule = rules.owner; hosts = hosts; masters = masters_of rules.masters hosts (starts_of graph); starts = s }) is

pub new-requires-clause-starts : goal.new-requires-clause-starts
new-requires-clause-starts c =
    let graph = c.args.list.now in
    let is = starts_of-parts graph c.nodes.result c.edges.result.now c.in_ok-starts.starts.items c.nodes.ensures.nodes c.edges.ensures.edges c.in_ok-starts.ensures in
    subst IsStarts (sym (c.deref.ensures.value ∙ is)) (IsStarts-starts_of graph c.nodes.ensures.facts)

pub table-requires : goal.table-requires
table-requires c =
    let graph = c.args.list.now in
    let is = starts_of-parts graph c.nodes.result c.edges.result.now c.in_ok-starts.starts.items c.nodes.ensures.nodes c.edges.ensures.edges c.in_ok-starts.ensures in
    let plan = plan_of-parts c.args.rules c.args.hosts graph c.in_ok-masters.masters c.in_ok-starts.starts.items c.deref.result.now (c.deref.ensures.value ∙ is) is c.in_ok-masters.ensures in
    c.nodes-2.ensures.nodes ∙ sym (ap (λ (p : Plan). length p.masters) plan ∙ length-masters c.args.rules c.args.hosts graph)

pub invariant_of-result : goal.invariant_of-result
invariant_of-result c =
    let graph = c.args.list.now in
    let is = starts_of-parts graph c.nodes.result c.edges.result.now c.in_ok-starts.starts.items c.nodes.ensures.nodes c.edges.ensures.edges c.in_ok-starts.ensures in
    let plan = plan_of-parts c.args.rules c.args.hosts graph c.in_ok-masters.masters c.in_ok-starts.starts.items c.deref.result.now (c.deref.ensures.value ∙ is) is c.in_ok-masters.ensures in (
      subst IsStarts (sym is) (IsStarts-starts_of graph c.nodes.ensures.facts),
      ap (λ (xs : List ℕ). length xs) is ∙ length-starts_of graph ∙ ap (λ n. n + 1) (sym (ap (λ (p : Plan). length p.masters) plan ∙ length-masters c.args.rules c.args.hosts graph)),
      c.in_ok-table.ensures,
    )

pub returns-clause-vertices : goal.returns-clause-vertices
returns-clause-vertices c =
    let graph = c.args.list.now in
    let is = starts_of-parts graph c.nodes.result c.edges.result.now c.in_ok-starts.starts.items c.nodes.ensures.nodes c.edges.ensures.edges c.in_ok-starts.ensures in
    let plan = plan_of-parts c.args.rules c.args.hosts graph c.in_ok-masters.masters c.in_ok-starts.starts.items c.deref.result.now (c.deref.ensures.value ∙ is) is c.in_ok-masters.ensures in
    ap (λ (p : Plan). length p.masters) plan ∙ length-masters c.args.rules c.args.hosts graph

pub returns-clause-owners : goal.returns-clause-owners
returns-clause-owners c =
    let graph = c.args.list.now in
    let is = starts_of-parts graph c.nodes.result c.edges.result.now c.in_ok-starts.starts.items c.nodes.ensures.nodes c.edges.ensures.edges c.in_ok-starts.ensures in
    let plan = plan_of-parts c.args.rules c.args.hosts graph c.in_ok-masters.masters c.in_ok-starts.starts.items c.deref.result.now (c.deref.ensures.value ∙ is) is c.in_ok-masters.ensures in
    λ k edge within.
    ap (λ (p : Plan). owner_by p (slice_index_or graph.edges k edge)) plan
    ∙ plans_tell_owners c.args.rules c.args.hosts graph (slice_index_or graph.edges k edge) (c.nodes.ensures.facts.within k edge within)
