use Rattle.std.proofs.Common.{◌≡◌, ◌≤◌, ◌-◌, length}
use Rattle.std.specs.List.{All}
use Rattle.graph_division.specs.Shares.{masters_here, proxies_here}
use Rattle.arc_push.specs.Pushing.{Brings}
use Rattle.arc_push.proofs.Tails.{gained_below}
use Rattle.arc_push.proofs.pushing.push_awake.Given as goal

-- the arcs of the tails that were passed brought what they bring
abbrev pub invariant-loop-tail : goal.invariant-loop-tail
invariant-loop-tail g l = record {
  within : l.at ≤ length l.awake;
  items_fit : length l.items ≡ length l.initial.items;
  news_fit : length l.news ≡ length l.initial.news;
  values : All g.P.Red.Item.Word.IsValue l.items;
  brings : Brings g.P.Red.Item.Word.IsValue g.P.Red.Reduction.reducer (length (masters_here l.graph)) (length (proxies_here l.graph))
      (gained_below g.P.Red.Reduction.reducer (g.P.VertexProgram.steps l.program) l.graph l.way l.shown l.awake l.at)
      l.initial.items l.initial.news l.items l.news;
}

-- each tail is behind the one before
abbrev pub decreases-loop-tail : goal.decreases-loop-tail
decreases-loop-tail g l = length l.awake - l.at
