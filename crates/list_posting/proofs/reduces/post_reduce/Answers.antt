use Rattle.std.proofs.Common.{◌≡◌, length, arith, sym, ap, ◌∙◌}
use Rattle.std.specs.Prelude.{◌&&◌, not}
use Rattle.list_laws.specs.Among.{is_among}
use Rattle.list_laws.specs.Members.{has_member}
use Rattle.address_memo.specs.Memos.{Proxies, list_at}
use Rattle.packet_table.specs.declared.channel_spec.Leg.TheVariants.{Reduce}
use Rattle.packet_table.specs.Table.{written}
use Rattle.list_posting.proofs.Numbers.{channel_at}
use Rattle.list_posting.proofs.Passing.{posted_packet, packet_fits, list_needed, has_room_least}
use Rattle.list_posting.proofs.Apart.{has_member-without_all, length-without_all}
use Rattle.list_posting.proofs.reduces.post_reduce.Goals as goal

pub ready_channel-id-requires : goal.ready_channel-id-requires
ready_channel-id-requires g c =
    let lists = c.args.memo.now.reduce_to in
    let some = list_needed lists c.args.peer c.list-list.result.now c.globals.result.now c.list-list.ensures.list c.globals.ensures.globals (sym c.is_empty.ensures ∙ c.if-is_empty.false) in
    has_room_least Reduce c.args.host c.args.peer _ c.args.channels.now (c.requires.ready some)

pub buffer-requires-clause-known : goal.buffer-requires-clause-known
buffer-requires-clause-known g c =
    (channel_at c.args.channels.now.specs c.ready_channel-id.result Reduce c.args.host c.args.peer c.ready_channel-id.ensures.channel).1

pub gather-coded-requires-clause-room : goal.gather-coded-requires-clause-room
gather-coded-requires-clause-room g c =
    let lists = c.args.memo.now.reduce_to in
    let some = list_needed lists c.args.peer c.list-list.result.now c.globals.result.now c.list-list.ensures.list c.globals.ensures.globals (sym c.is_empty.ensures ∙ c.if-is_empty.false) in
    let fits = c.ready_channel-id.ensures.room _ (c.requires.ready some) in
    omega (arith, c.buffer.ensures.room, packet_fits g.R.Item.Word.WIDTH lists c.args.peer c.list-list.result.now c.globals-2.result.now _ c.list-list.ensures.list c.globals-2.ensures.globals fits)

pub post-requires-clause-fits : goal.post-requires-clause-fits
post-requires-clause-fits g c =
    let lists = c.args.memo.now.reduce_to in
    let some = list_needed lists c.args.peer c.list-list.result.now c.globals.result.now c.list-list.ensures.list c.globals.ensures.globals (sym c.is_empty.ensures ∙ c.if-is_empty.false) in
    let fits = c.ready_channel-id.ensures.room _ (c.requires.ready some) in
    omega (arith, c.gather-coded.ensures.fits, packet_fits g.R.Item.Word.WIDTH lists c.args.peer c.list-list.result.now c.globals-2.result.now _ c.list-list.ensures.list c.globals-2.ensures.globals fits)

pub returns-clause-posts : goal.returns-clause-posts
returns-clause-posts g c =
    let lists = c.args.memo.now.reduce_to in
    let some = list_needed lists c.args.peer c.list-list.result.now c.globals.result.now c.list-list.ensures.list c.globals.ensures.globals (sym c.is_empty.ensures ∙ c.if-is_empty.false) in
    posted_packet g.R.Item.Word.WIDTH g.R.Item.Word.bytes_of Reduce c.args.host lists c.args.peer c.args.items.now c.args.news.now
    c.list-list.result.now c.locals.result.now c.globals-2.result.now c.args.channels.now (written c.args.channels.now c.ready_channel-id.result c.gather-coded.new.out) c.post.new.self c.ready_channel-id.result c.gather-coded.result.len c.gather-coded.new.out
    c.list-list.ensures.list c.locals.ensures.locals c.globals-2.ensures.globals c.ready_channel-id.ensures.facts c.ready_channel-id.ensures.channel some
    c.gather-coded.ensures.packet (c.buffer.ensures.others_stay c.gather-coded.new.out c.gather-coded.auto.out) c.post.ensures

pub returns-clause-cleared : goal.returns-clause-cleared
returns-clause-cleared g c = λ local.
    let is_list : c.locals.result.now ≡ (list_at c.args.memo.now.reduce_to c.args.peer).locals = c.locals.ensures.locals ∙ ap (λ (l : Proxies). l.locals) c.list-list.ensures.list in
    ap (λ bits. has_member bits local) c.gather-coded.ensures.cleared
    ∙ has_member-without_all c.args.news.now c.locals.result.now local
    ∙ ap (λ numbers. has_member c.args.news.now local && not (is_among numbers local)) is_list

pub returns-clause-news_length : goal.returns-clause-news_length
returns-clause-news_length g c = ap length c.gather-coded.ensures.cleared ∙ length-without_all c.args.news.now c.locals.result.now
