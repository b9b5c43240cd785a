use Rattle.std.proofs.Common.{◌≡◌, ◌++◌, reverse}
use Rattle.partition_build.specs.Rooms.{edges_below, shares_by_source}
use Rattle.partition_build.proofs.assembly.assemble_and_give_up.Given as goal

-- the edges of the hosts still to come are left, whose shares stand before those that are made
abbrev pub invariant-loop-host : goal.invariant-loop-host
invariant-loop-host l = record {
  left : l.edges.items ≡ edges_below l.plan l.fn.list l.host;
  made : shares_by_source l.plan l.fn.list l.host ++ reverse l.graphs.items ≡ shares_by_source l.plan l.fn.list l.plan.hosts;
}
