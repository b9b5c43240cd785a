use Rattle.std.proofs.Common.{◌≡◌, true, not, slice_get, subst}
use Rattle.std.specs.List.{slice_index_or}
use Rattle.std.proofs.lemmas.List.{get_or-set_same}
use Rattle.std.proofs.lemmas.Option.{slice_get-get_or}
use Rattle.host_state.specs.HostState.{HostState, IsHost}
use Rattle.cluster_laws.proofs.InTime.{denied}
use Rattle.round_driver.proofs.Happening.{some_and, ready_to_compute, compute_turns}
use Rattle.round_driver.proofs.events.compute_at.Goals as goal

pub compute-requires-clause-first : goal.compute-requires-clause-first
compute-requires-clause-first g c =
    let host = slice_index_or c.args.hosts.now c.args.number c.index-hosts-number.result in
    let at = slice_get-get_or c.args.hosts.now c.args.number c.index-hosts-number.result c.requires.1.1.1.1.1.1.0 in
    denied host.view.has_computed (some_and (λ h. not h.view.has_computed ≡ true) (slice_get c.args.hosts.now c.args.number) host at c.requires.1.1.1.1.1.1.1)

pub compute-requires-clause-ready : goal.compute-requires-clause-ready
compute-requires-clause-ready g c =
    let host = slice_index_or c.args.hosts.now c.args.number c.index-hosts-number.result in
    let at = slice_get-get_or c.args.hosts.now c.args.number c.index-hosts-number.result c.requires.1.1.1.1.1.1.0 in
    ready_to_compute g.P.Red.Reduction.reducer g.P.VertexProgram.steps g.P.Red.Item.Word.WIDTH g.P.Shown.Word.WIDTH g.moment.program g.moment.division g.moment.rounds c.requires.1.1.1.1.1.0 c.args.number host at
    (some_and (λ h. not h.view.has_computed ≡ true) (slice_get c.args.hosts.now c.args.number) host at c.requires.1.1.1.1.1.1.1)

pub returns : goal.returns
returns g c =
    let host = slice_index_or c.args.hosts.now c.args.number c.index-hosts-number.result in
    let at = slice_get-get_or c.args.hosts.now c.args.number c.index-hosts-number.result c.requires.1.1.1.1.1.1.0 in
    compute_turns g.P.Red.Reduction.reducer g.P.VertexProgram.steps g.P.Red.Item.Word.WIDTH g.P.Shown.Word.WIDTH g.moment.program g.moment.division g.moment.rounds c.requires.1.1.1.1.1.0 c.args.number host at
    (some_and (λ h. not h.view.has_computed ≡ true) (slice_get c.args.hosts.now c.args.number) host at c.requires.1.1.1.1.1.1.1)
    c.compute.new.self c.compute.new.channels c.facts_of.ensures.channels
    (subst (λ (h : HostState g.row.P.Denot g.row.P-Red-Item.Denot g.row.P-State.Denot g.row.P-Shown.Denot). IsHost h) (get_or-set_same c.args.hosts.now c.args.number c.compute.new.self c.index-hosts-number-2.result c.requires.1.1.1.1.1.1.0) c.facts_of.ensures.host) c.compute.ensures.stays c.compute.ensures.becomes c.compute.ensures.serves
