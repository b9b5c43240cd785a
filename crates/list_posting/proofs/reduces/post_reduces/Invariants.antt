use Rattle.std.proofs.Common.{◌≡◌, ℕ, length, take, get_or}
use Rattle.std.specs.Prelude.{◌&&◌, not, if◌then◌else◌}
use Rattle.list_laws.specs.Members.{has_member}
use Rattle.packet_table.specs.declared.channel_spec.Leg.TheVariants.{Reduce}
use Rattle.host_state.specs.Posting.{is_listed}
use Rattle.list_posting.specs.Steps.{packets_of, PostsWhere}
use Rattle.list_posting.proofs.Passing.{posts_below}
use Rattle.list_posting.proofs.reduces.post_reduces.Given as goal

-- the peers below this one are posted for, and their lists are cleared
abbrev pub invariant-loop-peer : goal.invariant-loop-peer
invariant-loop-peer g l = record {
  posts : PostsWhere (posts_below Reduce l.host l.memo.reduce_to l.peer) (packets_of g.R.Item.Word.WIDTH g.R.Item.Word.bytes_of l.memo.reduce_to l.initial.items l.initial.news) l.initial.channels l.channels;
  cleared : (local : ℕ) → has_member l.news local ≡ (has_member l.initial.news local && not (is_listed (take l.peer l.memo.reduce_to) local));
  news_length : length l.news ≡ length l.initial.news;
  kept : (local : ℕ) (d : g.row.R-Item.Denot) → get_or l.items local d
      ≡ (if is_listed (take l.peer l.memo.reduce_to) local && not g.R.Reduction.reducer.keeps then g.R.Reduction.reducer.identity else get_or l.initial.items local d);
}
