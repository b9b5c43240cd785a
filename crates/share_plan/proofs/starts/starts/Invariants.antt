use Rattle.std.proofs.Common.{◌+◌, ◌≤◌, length}
use Rattle.share_plan.proofs.StartsLaws.{AreStartsSoFar}
use Rattle.share_plan.proofs.starts.starts.Given as goal

-- each source that was read is below the number of starts
abbrev pub invariant-loop-place : goal.invariant-loop-place
invariant-loop-place l = record {
  few : length l.starts.items ≤ l.nodes + 1;
  so_far : AreStartsSoFar l.edges l.place l.starts.items;
}
