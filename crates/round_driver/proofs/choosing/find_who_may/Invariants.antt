use Rattle.std.proofs.Common.{◌≡◌, ◌≤◌, take}
use Rattle.list_laws.specs.Members.{count_of}
use Rattle.round_driver.specs.Choices.{who_may}
use Rattle.round_driver.proofs.choosing.find_who_may.Given as goal

-- those so far come before the place
abbrev pub invariant-loop-number : goal.invariant-loop-number
invariant-loop-number g l = record {
  counted : l.before ≡ count_of (take l.number (who_may l.doing l.hosts));
  before : l.before ≤ l.place;
}
