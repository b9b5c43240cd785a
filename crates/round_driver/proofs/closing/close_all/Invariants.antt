use Rattle.std.proofs.Common.{◌≡◌, ◌<◌, ℕ, ◌++◌, map, take, drop}
use Rattle.std.specs.List.{sum_by, slice_index_or}
use Rattle.cluster_laws.specs.Tally.{woken}
use Rattle.host_state.specs.HostState.{HostState, IsHost}
use Rattle.round_driver.specs.Closing.{closed_host}
use Rattle.round_driver.proofs.closing.close_all.Given as goal

-- the hosts so far are closed, and those who woke there are counted
abbrev pub invariant-loop-number : goal.invariant-loop-number
invariant-loop-number g l = record {
  closed : l.hosts ≡ map closed_host (take l.number l.fn.hosts) ++ drop l.number l.fn.hosts;
  counted : l.woken ≡ sum_by (λ host. woken host.view) (take l.number l.fn.hosts);
  facts : (k : ℕ) (d : HostState g.row.P.Denot g.row.P-Red-Item.Denot g.row.P-State.Denot g.row.P-Shown.Denot) → k < l.number → IsHost (closed_host (slice_index_or l.fn.hosts k d));
}
