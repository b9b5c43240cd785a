use Rattle.std.proofs.Common.{◌≡◌, ◌∷◌, ◌++◌, [], ◌==◌, ℕ, List, length, slice_index, refl, sym, ap, ◌∙◌, subst, arith}
use Rattle.std.specs.List.{All}
use Rattle.std.proofs.lemmas.List.FromFn.{map-range_with_len_more}
use Rattle.std.proofs.lemmas.List.Elements.{All-filter}
use Rattle.std.proofs.lemmas.List.Sums.{length-filter, count_by-le-length}
use Rattle.graph_model.specs.declared.edge.Edge.{Edge}
use Rattle.graph_model.specs.Graph.{IsWithin}
use Rattle.graph_division.specs.Shares.{Share}
use Rattle.partition_build.specs.Rooms.{share_by, edges_from, shares_by_source}
use Rattle.partition_build.proofs.assembly.assemble_by_source.Goals as goal

pub assemble_for-requires-clause-few_edges : goal.assemble_for-requires-clause-few_edges
assemble_for-requires-clause-few_edges c =
    let own = λ (edge : Edge). slice_index c.args.plan.now.masters edge.src == c.loop-host.host in
    let few = c.nodes-nodes.ensures.facts.edges_fit in
    let long = ap (λ (es : List Edge). length es) c.edges_from-edges.ensures in
    omega (arith, few, long, length-filter own c.args.list.now.edges, count_by-le-length own c.args.list.now.edges)

pub assemble_for-requires-clause-within : goal.assemble_for-requires-clause-within
assemble_for-requires-clause-within c =
    let own = λ (edge : Edge). slice_index c.args.plan.now.masters edge.src == c.loop-host.host in
    subst (λ (n : ℕ). All (IsWithin n) c.edges_from-edges.result.now) (sym c.nodes-nodes.ensures.nodes)
    (subst (λ (es : List Edge). All (IsWithin c.args.list.now.nodes) es) (sym c.edges_from-edges.ensures)
    (All-filter own (IsWithin c.args.list.now.nodes) c.args.list.now.edges c.nodes-nodes.ensures.facts.within))

pub loop-host-preserved : goal.loop-host-preserved
loop-host-preserved c =
    let plan = c.args.plan.now in
    let graph = c.args.list.now in
    let host = c.loop-host.host in
    let made : c.in_ok-assemble_for.field-0 ≡ share_by plan graph.nodes host (edges_from plan graph host) = rw (c.in_ok-assemble_for.ensures, c.masters-masters.ensures.hosts, c.masters-masters.ensures.masters, c.edges_from-edges.ensures, c.nodes-nodes.ensures.nodes) refl in
    c.in_ok-push.ensures.items
    ∙ ap (λ (xs : List Share). xs ++ c.in_ok-assemble_for.field-0 ∷ []) c.loop-host.invariant
    ∙ ap (λ (x : Share). shares_by_source plan graph host ++ x ∷ []) made
    ∙ sym (map-range_with_len_more (λ h. share_by plan graph.nodes h (edges_from plan graph h)) 0 host host (omega arith))
