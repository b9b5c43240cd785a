use Rattle.std.proofs.Common.{◌-◌}
use Rattle.address_memo.proofs.Search.{IsBetween}
use Rattle.address_memo.proofs.own_lists.mirrors_from.Given as goal

-- the place lies between low and high
abbrev pub invariant-loop-low : goal.invariant-loop-low
invariant-loop-low l = IsBetween l.graph l.peer l.low l.high

abbrev pub decreases-loop-low : goal.decreases-loop-low
decreases-loop-low l = l.high - l.low
