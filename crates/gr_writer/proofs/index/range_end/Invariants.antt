use Rattle.std.proofs.Common.{length, ◌-◌, ◌≤◌}
use Rattle.gr_writer.specs.File.{end_of}
use Rattle.gr_writer.proofs.index.range_end.Given as goal

abbrev pub invariant-loop-end : goal.invariant-loop-end
invariant-loop-end l = l.end ≤ end_of l.edges l.node

abbrev pub decreases-loop-end : goal.decreases-loop-end
decreases-loop-end l = length l.edges - l.end
