use Rattle.std.proofs.Common.{◌≡◌, ◌≤◌, take}
use Rattle.list_laws.specs.Members.{count_of}
use Rattle.round_driver.specs.Choices.{who_may}
use Rattle.round_driver.proofs.choosing.count_who_may.Given as goal

-- the hosts so far are counted
abbrev pub invariant-loop-host : goal.invariant-loop-host
invariant-loop-host g l = record {
  counted : l.count ≡ count_of (take l.host-index (who_may l.doing l.hosts));
  few : l.count ≤ l.host-index;
}
