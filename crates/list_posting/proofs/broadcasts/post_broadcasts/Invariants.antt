use Rattle.packet_table.specs.declared.channel_spec.Leg.TheVariants.{Spread}
use Rattle.list_posting.specs.Steps.{packets_of, PostsWhere}
use Rattle.list_posting.proofs.Passing.{posts_below}
use Rattle.list_posting.proofs.broadcasts.post_broadcasts.Given as goal

-- the peers below this one are posted for
abbrev pub invariant-loop-peer : goal.invariant-loop-peer
invariant-loop-peer g l =
    PostsWhere (posts_below Spread l.host l.memo.spread_to l.peer) (packets_of g.W.Word.WIDTH g.W.Word.bytes_of l.memo.spread_to l.shown l.changed) l.initial.channels l.channels
