use Rattle.std.proofs.Common.{◌≡◌, ◌<◌, length, arith, ◌∙◌}
use Rattle.std.specs.Prelude.{not}
use Rattle.packet_table.specs.declared.channel_spec.Leg.TheVariants.{Reduce}
use Rattle.list_posting.specs.Steps.{packets_of}
use Rattle.list_posting.proofs.Passing.{still_ready, passed_more, passed_all}
use Rattle.list_posting.proofs.Apart.{same_packet, cleared_more, kept_more}
use Rattle.list_posting.proofs.reduces.post_reduces.Goals as goal

pub post_reduce-requires-clause-ready : goal.post_reduce-requires-clause-ready
post_reduce-requires-clause-ready g c = λ some.
    let lists = c.args.memo.now.reduce_to in
    still_ready Reduce c.args.host lists c.loop-peer.peer _ (packets_of g.R.Item.Word.WIDTH g.R.Item.Word.bytes_of lists c.args.items.now c.args.news.now)
    c.args.channels.now c.loop-peer.channels c.loop-peer.invariant.posts (c.requires.ready c.loop-peer.peer some)

pub loop-peer-preserved : goal.loop-peer-preserved
loop-peer-preserved g c =
    let lists = c.args.memo.now.reduce_to in
    let peer = c.loop-peer.peer in
    let reducer = g.R.Reduction.reducer in
    let within : peer < length lists = omega (arith, c.requires.memo.reduce_to_each, c.requires.hosts) in
    record {
      posts = passed_more Reduce c.args.host lists peer
          (packets_of g.R.Item.Word.WIDTH g.R.Item.Word.bytes_of lists c.args.items.now c.args.news.now)
          (packets_of g.R.Item.Word.WIDTH g.R.Item.Word.bytes_of lists c.loop-peer.items c.loop-peer.news)
          c.args.channels.now c.loop-peer.channels c.post_reduce.new.channels c.loop-peer.invariant.posts c.post_reduce.ensures.posts
          (same_packet g.R.Item.Word.WIDTH g.R.Item.Word.bytes_of lists peer (not reducer.keeps) reducer.identity c.args.items.now c.loop-peer.items c.args.news.now c.loop-peer.news
          (omega arith) c.requires.apart c.loop-peer.auto.items c.loop-peer.invariant.cleared c.loop-peer.invariant.kept);
      cleared = λ local. cleared_more lists peer local _ _ _ within (c.loop-peer.invariant.cleared local) (c.post_reduce.ensures.cleared local);
      news_length = c.post_reduce.ensures.news_length ∙ c.loop-peer.invariant.news_length;
      kept = λ local d. kept_more lists peer local (not reducer.keeps) reducer.identity _ _ _ within (c.loop-peer.invariant.kept local d) (c.post_reduce.ensures.kept local d);
    }

pub returns-clause-posts : goal.returns-clause-posts
returns-clause-posts g c =
    let lists = c.args.memo.now.reduce_to in
    let many : length lists ≡ c.loop-peer.peer = omega (arith, c.requires.memo.reduce_to_each, c.requires.hosts) in
    passed_all Reduce c.args.host lists c.loop-peer.peer (packets_of g.R.Item.Word.WIDTH g.R.Item.Word.bytes_of lists c.args.items.now c.args.news.now)
    c.args.channels.now c.loop-peer.channels many c.loop-peer.invariant.posts
