use Rattle.std.proofs.Common.{◌≡◌, ◌≤◌, ◌*◌, ◌^◌, take, length}
use Rattle.graph_division.specs.Classes.{mirror_count}
use Rattle.invariant_probe.proofs.count.mirrors.Given as goal

-- the mirrors of the graphs so far are counted, fewer than 2 ^ 32 each
abbrev pub invariant-loop-graph : goal.invariant-loop-graph
invariant-loop-graph l = record {
  count : l.count ≡ mirror_count (take l.graph-index l.graphs);
  few : l.count ≤ l.graph-index * 2 ^ 32;
}
