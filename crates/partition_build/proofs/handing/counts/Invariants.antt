use Rattle.std.proofs.Common.{◌≡◌, ◌≤◌, ℕ, length, slice_index}
use Rattle.graph_model.specs.Graph.{most_edges}
use Rattle.partition_build.proofs.handing.counts.Given as goal

-- no host owns more than the edges so far
abbrev pub invariant-loop-owner : goal.invariant-loop-owner
invariant-loop-owner l = record {
  long : length l.counts.items ≡ l.hosts;
  few : (k : ℕ) → slice_index l.counts.items k ≤ l.owner-index;
  edges : length l.owners ≤ most_edges;
}
