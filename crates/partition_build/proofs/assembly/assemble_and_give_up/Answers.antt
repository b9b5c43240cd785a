use Rattle.std.proofs.Common.{◌≡◌, ℕ, ◌+◌, ◌-◌, ◌<◌, ◌++◌, nat_lt, ◌==◌, List, length, take, reverse, slice_index, refl, sym, ap, ◌∙◌, subst, arith}
use Rattle.std.specs.List.{All}
use Rattle.std.proofs.lemmas.List.{append-nil}
use Rattle.std.proofs.lemmas.List.Elements.{All-filter}
use Rattle.std.proofs.lemmas.List.Sums.{length-filter, count_by-le-length}
use Rattle.graph_model.specs.declared.edge.Edge.{Edge}
use Rattle.graph_model.specs.Graph.{IsWithin}
use Rattle.graph_division.specs.Shares.{Share}
use Rattle.partition_build.specs.Rooms.{share_by, edges_from, edges_below, shares_by_source}
use Rattle.partition_build.proofs.GivenUp.{all_below, Parts, Parts-place, one_share_more}
use Rattle.partition_build.proofs.assembly.assemble_and_give_up.Goals as goal
use Rattle.partition_build.proofs.assembly.assemble_and_give_up.Goals.{After-deref}

pub loop-host-init : goal.loop-host-init
loop-host-init c =
    let plan = c.args.plan.now in
    let graph = c.args.list in
    let hosts : c.hosts-host.result ≡ plan.hosts = c.hosts-host.ensures.hosts ∙ c.masters-masters.ensures.hosts in
    record {
      left = c.into_edges-edges.ensures.edges ∙ all_below plan graph c.nodes-nodes.ensures.facts c.requires.nodes c.masters-masters.result.now c.hosts-host.ensures.facts c.masters-masters.ensures.hosts c.masters-masters.ensures.masters ∙ ap (edges_below plan graph) (sym hosts);
      made = ap (λ (xs : List Share). shares_by_source plan graph c.hosts-host.result ++ reverse xs) c.in_ok-graphs.ensures.items ∙ append-nil (shares_by_source plan graph c.hosts-host.result) ∙ ap (shares_by_source plan graph) hosts;
    }

-- the place of the host parts the edges that are left
parts_here : (c : After-deref) → Parts c.args.plan.now c.args.list (c.loop-host.host - 1) c.place_from-place.result c.deref.result.now
parts_here c =
    Parts-place c.args.plan.now c.args.list c.nodes-nodes.ensures.facts c.requires.nodes c.masters-masters.result.now c.hosts-host.ensures.facts c.masters-masters.ensures.hosts c.masters-masters.ensures.masters c.requires.starts c.loop-host.host c.place_from-place.result c.deref.result.now (omega (arith, c.loop-host-test.true)) (c.deref.ensures.value ∙ c.loop-host.invariant.left) c.place_from-place.ensures

pub offset_bounds-deref-place : goal.offset_bounds-deref-place
offset_bounds-deref-place c =
    let plan = c.args.plan.now in
    let graph = c.args.list in
    let parts = parts_here c in
    let within = parts.within in
    let long = ap (λ (es : List Edge). length es) (c.deref.ensures.value ∙ c.loop-host.invariant.left) in
    let few = c.nodes-nodes.ensures.facts.edges_fit in
    let own = λ (edge : Edge). nat_lt (slice_index plan.masters edge.src) c.loop-host.host in
    omega (arith, within, long, few, length-filter own graph.edges, count_by-le-length own graph.edges)

pub slice_bounds-assemble_for-count : goal.slice_bounds-assemble_for-count
slice_bounds-assemble_for-count c = (parts_here c).within

pub slice_bounds-assemble_for-start : goal.slice_bounds-assemble_for-start
slice_bounds-assemble_for-start c = (parts_here c).within

pub assemble_for-requires-clause-few_edges : goal.assemble_for-requires-clause-few_edges
assemble_for-requires-clause-few_edges c =
    let plan = c.args.plan.now in
    let graph = c.args.list in
    let parts = parts_here (goal.at.assemble_for-requires-clause-few_edges c).After-deref in
    let long = ap (λ (es : List Edge). length es) parts.behind in
    let few = c.nodes-nodes.ensures.facts.edges_fit in
    let own = λ (edge : Edge). slice_index plan.masters edge.src == c.loop-host.host - 1 in
    omega (arith, few, long, length-filter own graph.edges, count_by-le-length own graph.edges)

pub assemble_for-requires-clause-within : goal.assemble_for-requires-clause-within
assemble_for-requires-clause-within c =
    let plan = c.args.plan.now in
    let graph = c.args.list in
    let parts = parts_here (goal.at.assemble_for-requires-clause-within c).After-deref in
    let own = λ (edge : Edge). slice_index plan.masters edge.src == c.loop-host.host - 1 in
    subst (λ (es : List Edge). All (IsWithin c.nodes-nodes.result) es) (sym parts.behind)
    (subst (λ (n : ℕ). All (IsWithin n) (edges_from plan graph (c.loop-host.host - 1))) (sym c.nodes-nodes.ensures.nodes)
    (All-filter own (IsWithin graph.nodes) graph.edges c.nodes-nodes.ensures.facts.within))

pub loop-host-preserved : goal.loop-host-preserved
loop-host-preserved c =
    let plan = c.args.plan.now in
    let graph = c.args.list in
    let host = c.loop-host.host - 1 in
    let some : 0 < c.loop-host.host = omega (arith, c.loop-host-test.true) in
    let parts = parts_here (goal.at.loop-host-preserved c).After-deref in
    let made : c.in_ok-assemble_for.field-0 ≡ share_by plan graph.nodes host (edges_from plan graph host) = rw (c.in_ok-assemble_for.ensures, c.masters-masters.ensures.hosts, c.masters-masters.ensures.masters, parts.behind, c.nodes-nodes.ensures.nodes) refl in
    record {
      left = c.shrink_to_fit.ensures.items ∙ c.truncate.ensures.items ∙ ap (λ (es : List Edge). take c.place_from-place.result es) (sym c.deref.ensures.value) ∙ parts.before;
      made = ap (λ (xs : List Share). shares_by_source plan graph host ++ reverse xs) c.in_ok-push.ensures.items
          ∙ one_share_more plan graph host c.loop-host.graphs.items c.in_ok-assemble_for.field-0 made
          ∙ ap (λ (n : ℕ). shares_by_source plan graph n ++ reverse c.loop-host.graphs.items) (let e : host + 1 ≡ c.loop-host.host = omega (arith, some) in e)
          ∙ c.loop-host.invariant.made;
    }
