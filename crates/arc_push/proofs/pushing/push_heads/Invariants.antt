use Rattle.std.proofs.Common.{◌≡◌, ◌++◌, length}
use Rattle.std.specs.List.{All}
use Rattle.arc_push.proofs.Followed.{Follows}
use Rattle.arc_push.proofs.pushing.push_heads.Given as goal

-- the arcs that were followed brought what they bring
abbrev pub invariant-loop-head : goal.invariant-loop-head
invariant-loop-head g l = record {
  order : l.yielded ++ l.head-iterator ≡ l.fn.heads;
  items_fit : length l.items ≡ length l.initial.items;
  news_fit : length l.news ≡ length l.initial.news;
  values : All g.P.Red.Item.Word.IsValue l.items;
  brings : Follows g.P.Red.Item.Word.IsValue g.P.Red.Reduction.reducer (g.P.VertexProgram.steps l.program) l.y l.masters (length l.initial.items) l.yielded
      l.initial.items l.initial.news l.items l.news;
}
