use Rattle.std.proofs.Common.{◌≡◌, length, arith, refl}
use Rattle.packet_table.specs.declared.channel_spec.Leg.TheVariants.{Spread}
use Rattle.list_posting.specs.Steps.{packets_of}
use Rattle.list_posting.proofs.Passing.{still_ready, passed_more, passed_all}
use Rattle.list_posting.proofs.broadcasts.post_broadcasts.Goals as goal

pub post_broadcast-requires-clause-ready : goal.post_broadcast-requires-clause-ready
post_broadcast-requires-clause-ready g c = λ some.
    let lists = c.args.memo.now.spread_to in
    still_ready Spread c.args.host lists c.loop-peer.peer _ (packets_of g.W.Word.WIDTH g.W.Word.bytes_of lists c.args.shown.now c.args.changed.now)
    c.args.channels.now c.loop-peer.channels c.loop-peer.invariant (c.requires.ready c.loop-peer.peer some)

pub loop-peer-preserved : goal.loop-peer-preserved
loop-peer-preserved g c =
    let lists = c.args.memo.now.spread_to in
    let bytes = packets_of g.W.Word.WIDTH g.W.Word.bytes_of lists c.args.shown.now c.args.changed.now in
    passed_more Spread c.args.host lists c.loop-peer.peer bytes bytes c.args.channels.now c.loop-peer.channels c.post_broadcast.new.channels
    c.loop-peer.invariant c.post_broadcast.ensures.posts refl

pub returns : goal.returns
returns g c =
    let lists = c.args.memo.now.spread_to in
    let many : length lists ≡ c.loop-peer.peer = omega (arith, c.requires.memo.spread_to_each, c.requires.hosts) in
    record {
      posts = passed_all Spread c.args.host lists c.loop-peer.peer (packets_of g.W.Word.WIDTH g.W.Word.bytes_of lists c.args.shown.now c.args.changed.now)
          c.args.channels.now c.loop-peer.channels many c.loop-peer.invariant;
    }
