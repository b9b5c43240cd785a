use Rattle.std.proofs.Common.{◌≤◌}
use Rattle.round_driver.specs.ClusterState.{division_in}
use Rattle.run_answers.proofs.vertex.answer_at.Given as goal

-- the master is on none of the hosts so far
abbrev pub invariant-loop-host : goal.invariant-loop-host
invariant-loop-host g l = l.host-index ≤ (division_in l.cluster).master l.v
