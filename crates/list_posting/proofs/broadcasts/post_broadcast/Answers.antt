use Rattle.std.proofs.Common.{arith, sym, ◌∙◌}
use Rattle.packet_table.specs.declared.channel_spec.Leg.TheVariants.{Spread}
use Rattle.packet_table.specs.Table.{written}
use Rattle.list_posting.proofs.Numbers.{channel_at}
use Rattle.list_posting.proofs.Passing.{posted_packet, packet_fits, list_needed, has_room_least}
use Rattle.list_posting.proofs.broadcasts.post_broadcast.Goals as goal

pub ready_channel-id-requires : goal.ready_channel-id-requires
ready_channel-id-requires g c =
    let lists = c.args.memo.now.spread_to in
    let some = list_needed lists c.args.peer c.list-list.result.now c.globals.result.now c.list-list.ensures.list c.globals.ensures.globals (sym c.is_empty.ensures ∙ c.if-is_empty.false) in
    has_room_least Spread c.args.host c.args.peer _ c.args.channels.now (c.requires.ready some)

pub buffer-requires-clause-known : goal.buffer-requires-clause-known
buffer-requires-clause-known g c =
    (channel_at c.args.channels.now.specs c.ready_channel-id.result Spread c.args.host c.args.peer c.ready_channel-id.ensures.channel).1

pub spread-coded-requires-clause-room : goal.spread-coded-requires-clause-room
spread-coded-requires-clause-room g c =
    let lists = c.args.memo.now.spread_to in
    let some = list_needed lists c.args.peer c.list-list.result.now c.globals.result.now c.list-list.ensures.list c.globals.ensures.globals (sym c.is_empty.ensures ∙ c.if-is_empty.false) in
    let fits = c.ready_channel-id.ensures.room _ (c.requires.ready some) in
    omega (arith, c.buffer.ensures.room, packet_fits g.W.Word.WIDTH lists c.args.peer c.list-list.result.now c.globals-2.result.now _ c.list-list.ensures.list c.globals-2.ensures.globals fits)

pub post-requires-clause-fits : goal.post-requires-clause-fits
post-requires-clause-fits g c =
    let lists = c.args.memo.now.spread_to in
    let some = list_needed lists c.args.peer c.list-list.result.now c.globals.result.now c.list-list.ensures.list c.globals.ensures.globals (sym c.is_empty.ensures ∙ c.if-is_empty.false) in
    let fits = c.ready_channel-id.ensures.room _ (c.requires.ready some) in
    omega (arith, c.spread-coded.ensures.fits, packet_fits g.W.Word.WIDTH lists c.args.peer c.list-list.result.now c.globals-2.result.now _ c.list-list.ensures.list c.globals-2.ensures.globals fits)

pub returns : goal.returns
returns g c =
    let lists = c.args.memo.now.spread_to in
    let some = list_needed lists c.args.peer c.list-list.result.now c.globals.result.now c.list-list.ensures.list c.globals.ensures.globals (sym c.is_empty.ensures ∙ c.if-is_empty.false) in
    record {
      posts = posted_packet g.W.Word.WIDTH g.W.Word.bytes_of Spread c.args.host lists c.args.peer c.args.shown.now c.args.changed.now
          c.list-list.result.now c.locals.result.now c.globals-2.result.now c.args.channels.now (written c.args.channels.now c.ready_channel-id.result c.spread-coded.new.out) c.post.new.self c.ready_channel-id.result c.spread-coded.result.len c.spread-coded.new.out
          c.list-list.ensures.list c.locals.ensures.locals c.globals-2.ensures.globals c.ready_channel-id.ensures.facts c.ready_channel-id.ensures.channel some
          c.spread-coded.ensures.packet (c.buffer.ensures.others_stay c.spread-coded.new.out c.spread-coded.auto.out) c.post.ensures;
    }
