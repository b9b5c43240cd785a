use Rattle.std.proofs.Common.{◌<◌, ℕ, List, Vec, Global, length, sym, ap, ◌∙◌, subst, arith}
use Rattle.std.specs.List.{All}
use Rattle.graph_model.specs.declared.edge.Edge.{Edge}
use Rattle.share_plan.specs.Plan.{owner_by}
use Rattle.partition_build.specs.Rooms.{contents, AreRooms}
use Rattle.partition_build.proofs.RoomsLaws.{rooms_long, written_back, AreRooms-filled}
use Rattle.partition_build.proofs.handing.filled_rooms.Goals as goal

pub counts-requires-clause-hosts : goal.counts-requires-clause-hosts
counts-requires-clause-hosts c =
    let hosts = c.hosts.ensures.hosts in
    let few = subst (λ (xs : List ℕ). All (λ owner. owner < c.args.plan.now.hosts) xs) (sym c.deref.ensures.value) c.in_ok-owners.ensures.hosts in
    λ k d within. omega (arith, few k d within, hosts, c.masters.ensures.hosts)

pub hand_out-requires-clause-hosts : goal.hand_out-requires-clause-hosts
hand_out-requires-clause-hosts c =
    let few = subst (λ (xs : List ℕ). All (λ owner. owner < c.args.plan.now.hosts) xs) (sym c.deref-3.ensures.value) c.in_ok-owners.ensures.hosts in
    let long = rooms_long c.in_ok-rooms.rooms.items (length c.deref-2.result.now) c.in_ok-rooms.ensures in
    let lent = ap (λ (xs : List (Vec Edge Global)). length xs) c.deref_mut.ensures.value in
    λ k d within. omega (arith, few k d within, long, lent, c.deref-2.ensures.len, c.in_ok-counts.ensures, c.hosts.ensures.hosts, c.masters.ensures.hosts)

pub returns : goal.returns
returns c =
    let plan = c.args.plan.now in
    let edges = c.args.edges.now in
    let old = c.in_ok-rooms.rooms.items in
    let lent = c.deref_mut.result.now in
    let new = c.hand_out.new.rooms in
    let handed = c.in_ok-hand_out.ensures (owner_by plan) (c.deref-3.ensures.value ∙ c.in_ok-owners.ensures.owners) in
    let back = written_back c.in_ok-rooms.rooms.len new old (handed.as_many ∙ ap (λ (xs : List (Vec Edge Global)). length xs) c.deref_mut.ensures.value) c.in_ok-rooms.rooms.ok.0 in
    subst (λ (rooms : List (Vec Edge Global)). AreRooms plan edges rooms) (sym back)
    (AreRooms-filled plan edges (length c.deref-2.result.now) lent new
    (c.deref-2.ensures.len ∙ c.in_ok-counts.ensures ∙ c.hosts.ensures.hosts ∙ c.masters.ensures.hosts)
    (ap contents c.deref_mut.ensures.value ∙ c.in_ok-rooms.ensures)
    handed)
