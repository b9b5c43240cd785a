use Rattle.std.proofs.Common.{◌≡◌, true, slice_get, subst}
use Rattle.std.specs.List.{slice_index_or}
use Rattle.std.proofs.lemmas.List.{get_or-set_same}
use Rattle.std.proofs.lemmas.Option.{slice_get-get_or}
use Rattle.host_state.specs.HostState.{HostState, IsHost}
use Rattle.host_state.specs.OwnEffects.{is_ready_to_spread}
use Rattle.round_driver.proofs.Happening.{some_and, ready_to_spread, spread_turns}
use Rattle.round_driver.proofs.events.spread_at.Goals as goal

pub spread-requires-clause-may : goal.spread-requires-clause-may
spread-requires-clause-may g c =
    let host = slice_index_or c.args.hosts.now c.args.number c.index-hosts-number.result in
    let at = slice_get-get_or c.args.hosts.now c.args.number c.index-hosts-number.result c.requires.1.1.1.1.1.1.0 in
    (some_and (λ h. is_ready_to_spread h ≡ true) (slice_get c.args.hosts.now c.args.number) host at c.requires.1.1.1.1.1.1.1)

pub spread-requires-clause-ready : goal.spread-requires-clause-ready
spread-requires-clause-ready g c =
    let host = slice_index_or c.args.hosts.now c.args.number c.index-hosts-number.result in
    let at = slice_get-get_or c.args.hosts.now c.args.number c.index-hosts-number.result c.requires.1.1.1.1.1.1.0 in
    ready_to_spread g.P.Red.Reduction.reducer g.P.VertexProgram.steps g.P.Red.Item.Word.WIDTH g.P.Shown.Word.WIDTH g.moment.program g.moment.division g.moment.rounds c.requires.1.1.1.1.1.0 c.args.number host at
    (some_and (λ h. is_ready_to_spread h ≡ true) (slice_get c.args.hosts.now c.args.number) host at c.requires.1.1.1.1.1.1.1)

pub returns : goal.returns
returns g c =
    let host = slice_index_or c.args.hosts.now c.args.number c.index-hosts-number.result in
    let at = slice_get-get_or c.args.hosts.now c.args.number c.index-hosts-number.result c.requires.1.1.1.1.1.1.0 in
    spread_turns g.P.Red.Reduction.reducer g.P.VertexProgram.steps g.P.Red.Item.Word.WIDTH g.P.Shown.Word.WIDTH g.moment.program g.moment.division g.moment.rounds c.requires.1.1.1.1.1.0 c.args.number host at
    (some_and (λ h. is_ready_to_spread h ≡ true) (slice_get c.args.hosts.now c.args.number) host at c.requires.1.1.1.1.1.1.1)
    c.spread.new.self c.spread.new.channels c.facts_of.ensures.channels
    (subst (λ (h : HostState g.row.P.Denot g.row.P-Red-Item.Denot g.row.P-State.Denot g.row.P-Shown.Denot). IsHost h) (get_or-set_same c.args.hosts.now c.args.number c.spread.new.self c.index-hosts-number-2.result c.requires.1.1.1.1.1.1.0) c.facts_of.ensures.host) c.spread.ensures.stays c.spread.ensures.becomes c.spread.ensures.serves
