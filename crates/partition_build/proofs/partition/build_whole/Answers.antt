use Rattle.std.proofs.Common.{ℕ, sym, ap, ◌∙◌, subst}
use Rattle.std.specs.List.{All}
use Rattle.graph_model.specs.Graph.{IsWithin}
use Rattle.partition_build.specs.Rooms.{IsRoom, shares_from}
use Rattle.partition_build.proofs.RoomsLaws.{IsRoom-rooms}
use Rattle.partition_build.proofs.SharesMade.{IfOk-map, shares_of_rooms, shares_of_sources, shared-partition}
use Rattle.partition_build.proofs.partition.build_whole.Goals as goal

pub returns-then-sources_own-clause-shares : goal.returns-then-sources_own-clause-shares
returns-then-sources_own-clause-shares c =
    let plan = c.in_ok-plan.plan in
    let made = c.in_ok-plan.ensures in
    IfOk-map c.assemble_and_give_up.result _ _ (λ graphs are. are ∙ shares_of_sources c.args.rules c.args.hosts c.args.list c.nodes-nodes.ensures.facts plan made.plan made.owners
    (λ edge within. c.sources_own.ensures.owners c.if-sources_own.true edge (subst (λ (n : ℕ). IsWithin n edge) (sym made.vertices) within)))
    c.assemble_and_give_up.ensures

pub returns-then-sources_own-clause-partition : goal.returns-then-sources_own-clause-partition
returns-then-sources_own-clause-partition c =
    let made = c.in_ok-plan.ensures in
    shared-partition c.args.rules c.args.hosts c.args.list c.nodes-nodes.ensures.facts c.in_ok-plan.plan made.plan made.owners _ c.assemble_and_give_up.result c.requires (returns-then-sources_own-clause-shares c)

pub assemble_each-requires-clause-rooms : goal.assemble_each-requires-clause-rooms
assemble_each-requires-clause-rooms c =
    let facts = c.nodes-nodes.ensures.facts in
    subst (λ (n : ℕ). All (IsRoom n) c.in_ok-rooms.rooms.items) (sym c.nodes-nodes.ensures.nodes)
    (IsRoom-rooms c.in_ok-plan.plan c.args.list.nodes c.args.list.edges c.in_ok-rooms.rooms.items facts.edges_fit facts.within c.in_ok-rooms.ensures)

pub returns-clause-shares : goal.returns-clause-shares
returns-clause-shares c =
    let plan = c.in_ok-plan.plan in
    let made = c.in_ok-plan.ensures in
    IfOk-map c.assemble_each.result _ _ (λ graphs are. are ∙ ap (λ (n : ℕ). shares_from plan n 0 c.in_ok-rooms.rooms.items) c.nodes-nodes.ensures.nodes
    ∙ shares_of_rooms c.args.rules c.args.hosts c.args.list c.nodes-nodes.ensures.facts plan made.plan made.owners c.in_ok-rooms.rooms.items c.in_ok-rooms.ensures)
    c.assemble_each.ensures

pub returns-clause-partition : goal.returns-clause-partition
returns-clause-partition c =
    let made = c.in_ok-plan.ensures in
    shared-partition c.args.rules c.args.hosts c.args.list c.nodes-nodes.ensures.facts c.in_ok-plan.plan made.plan made.owners _ c.assemble_each.result c.requires (returns-clause-shares c)
