use Rattle.std.proofs.Common.{◌-◌, length}
use Rattle.gr_reader.specs.EdgeLists.{IsCursor}
use Rattle.gr_reader.proofs.destinations.next_source.Given as goal

abbrev pub invariant-loop-source : goal.invariant-loop-source
invariant-loop-source l = IsCursor l.ends l.source l.edge

abbrev pub decreases-loop-source : goal.decreases-loop-source
decreases-loop-source l = length l.ends - l.source
