use Rattle.std.proofs.Common.{ap, ◌∙◌, subst, ◌≤◌}
use Rattle.std.specs.Prelude.{slice_index}
use Rattle.list_laws.specs.Members.{has_member}
use Rattle.packet_table.specs.Table.{rooms_of}
use Rattle.list_posting.proofs.Numbers.{one_number}
use Rattle.list_posting.proofs.ready_channel.ready_channel.Goals as goal

pub returns-clause-resting : goal.returns-clause-resting
returns-clause-resting c =
    let table = c.args.channels.now in
    let room = c.requires in
    let same = one_number table.specs c.args.leg c.args.host c.args.peer c.in-Some.id room.id c.count.ensures.facts.rise c.in-Some.ensures.found room.is_channel in
    ap (λ id. has_member table.flying id) same ∙ room.rests

pub returns-clause-room : goal.returns-clause-room
returns-clause-room c = λ bytes room.
    let table = c.args.channels.now in
    let same = one_number table.specs c.args.leg c.args.host c.args.peer room.id c.in-Some.id c.count.ensures.facts.rise room.is_channel c.in-Some.ensures.found in
    subst (λ id. bytes ≤ slice_index (rooms_of table.specs) id) same room.fits
