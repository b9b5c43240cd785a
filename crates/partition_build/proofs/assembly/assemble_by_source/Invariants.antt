use Rattle.std.proofs.Common.{◌≡◌}
use Rattle.partition_build.specs.Rooms.{shares_by_source}
use Rattle.partition_build.proofs.assembly.assemble_by_source.Given as goal

-- the shares of the hosts so far
abbrev pub invariant-loop-host : goal.invariant-loop-host
invariant-loop-host l = l.graphs.items ≡ shares_by_source l.plan l.list l.host
