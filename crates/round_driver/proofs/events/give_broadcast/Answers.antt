use Rattle.std.proofs.Common.{List, ℕ, sym, subst, ◌∙◌}
use Rattle.std.specs.List.{slice_index_or}
use Rattle.std.proofs.lemmas.Option.{slice_get-get_or}
use Rattle.address_memo.specs.Memos.{list_at}
use Rattle.host_state.specs.OwnEffects.{HasEntries}
use Rattle.round_driver.proofs.Delivering.{broadcast_from_host, broadcast_expected, broadcast_first, broadcast_comes_in_time, broadcast_has_entries, broadcast_turns}
use Rattle.round_driver.proofs.events.give_broadcast.Goals as goal

pub take_broadcast-requires-clause-from : goal.take_broadcast-requires-clause-from
take_broadcast-requires-clause-from g c =
    let host = slice_index_or c.args.hosts.now c.args.to c.index-hosts-to.result in
    let at = slice_get-get_or c.args.hosts.now c.args.to c.index-hosts-to.result c.requires.1.1.1.1.1.1.1.1.0 in
    broadcast_from_host g.P.Red.Reduction.reducer g.P.VertexProgram.steps g.P.Red.Item.Word.WIDTH g.P.Shown.Word.WIDTH g.moment.program g.moment.division g.moment.rounds c.requires.1.1.1.1.1.0 c.args.id c.requires.1.1.1.1.1.1.0 c.requires.1.1.1.1.1.1.1.1.1 c.args.from c.args.to host at c.requires.1.1.1.1.1.1.1.0

pub take_broadcast-requires-clause-expected : goal.take_broadcast-requires-clause-expected
take_broadcast-requires-clause-expected g c =
    let host = slice_index_or c.args.hosts.now c.args.to c.index-hosts-to.result in
    let at = slice_get-get_or c.args.hosts.now c.args.to c.index-hosts-to.result c.requires.1.1.1.1.1.1.1.1.0 in
    broadcast_expected g.P.Red.Reduction.reducer g.P.VertexProgram.steps g.P.Red.Item.Word.WIDTH g.P.Shown.Word.WIDTH g.moment.program g.moment.division g.moment.rounds c.requires.1.1.1.1.1.0 c.args.id c.requires.1.1.1.1.1.1.0 c.requires.1.1.1.1.1.1.1.1.1 c.args.from c.args.to host at c.requires.1.1.1.1.1.1.1.0

pub take_broadcast-requires-clause-first : goal.take_broadcast-requires-clause-first
take_broadcast-requires-clause-first g c =
    let host = slice_index_or c.args.hosts.now c.args.to c.index-hosts-to.result in
    let at = slice_get-get_or c.args.hosts.now c.args.to c.index-hosts-to.result c.requires.1.1.1.1.1.1.1.1.0 in
    broadcast_first g.P.Red.Reduction.reducer g.P.VertexProgram.steps g.P.Red.Item.Word.WIDTH g.P.Shown.Word.WIDTH g.moment.program g.moment.division g.moment.rounds c.requires.1.1.1.1.1.0 c.args.id c.requires.1.1.1.1.1.1.0 c.requires.1.1.1.1.1.1.1.1.1 c.args.from c.args.to host at c.requires.1.1.1.1.1.1.1.0

pub take_broadcast-requires-clause-in_time : goal.take_broadcast-requires-clause-in_time
take_broadcast-requires-clause-in_time g c =
    let host = slice_index_or c.args.hosts.now c.args.to c.index-hosts-to.result in
    let at = slice_get-get_or c.args.hosts.now c.args.to c.index-hosts-to.result c.requires.1.1.1.1.1.1.1.1.0 in
    broadcast_comes_in_time g.P.Red.Reduction.reducer g.P.VertexProgram.steps g.P.Red.Item.Word.WIDTH g.P.Shown.Word.WIDTH g.moment.program g.moment.division g.moment.rounds c.requires.1.1.1.1.1.0 c.args.id c.requires.1.1.1.1.1.1.0 c.requires.1.1.1.1.1.1.1.1.1 c.args.from c.args.to host at c.requires.1.1.1.1.1.1.1.0

pub take_broadcast-requires-clause-well_formed : goal.take_broadcast-requires-clause-well_formed
take_broadcast-requires-clause-well_formed g c =
    let host = slice_index_or c.args.hosts.now c.args.to c.index-hosts-to.result in
    let at = slice_get-get_or c.args.hosts.now c.args.to c.index-hosts-to.result c.requires.1.1.1.1.1.1.1.1.0 in
    subst (λ (bytes : List ℕ). HasEntries g.P.Shown.Word.IsValue g.P.Shown.Word.bytes_of (list_at host.memo.spread_from c.args.from).globals bytes) (sym c.payload.ensures.payload)
    (broadcast_has_entries g.P.Red.Reduction.reducer g.P.VertexProgram.steps g.P.Red.Item.Word.WIDTH g.P.Shown.Word.WIDTH g.moment.program g.moment.division g.moment.rounds c.requires.1.1.1.1.1.0 c.args.id c.requires.1.1.1.1.1.1.0 c.requires.1.1.1.1.1.1.1.1.1 c.args.from c.args.to host at c.requires.1.1.1.1.1.1.1.0)

pub returns : goal.returns
returns g c =
    let host = slice_index_or c.args.hosts.now c.args.to c.index-hosts-to.result in
    let at = slice_get-get_or c.args.hosts.now c.args.to c.index-hosts-to.result c.requires.1.1.1.1.1.1.1.1.0 in
    broadcast_turns g.P.Red.Reduction.reducer g.P.VertexProgram.steps g.P.Red.Item.Word.WIDTH g.P.Shown.Word.WIDTH g.moment.program g.moment.division g.moment.rounds c.requires.1.1.1.1.1.0 c.args.id c.requires.1.1.1.1.1.1.0 c.requires.1.1.1.1.1.1.1.1.1 c.args.from c.args.to host at c.requires.1.1.1.1.1.1.1.0 c.take_broadcast.new.self
    c.facts_of.ensures.host
    c.take_broadcast.ensures.stays c.take_broadcast.ensures.becomes (λ d r s i st is. c.take_broadcast.ensures.serves d r s i st (c.payload.ensures.payload ∙ is))
