use Rattle.std.proofs.Common.{◌≡◌, ◌++◌, take}
use Rattle.round_driver.specs.ChannelSpecs.{specs_of_leg}
use Rattle.round_driver.proofs.channel_specs.add_leg.Given as goal

-- the channels of the hosts so far are added
abbrev pub invariant-loop-from : goal.invariant-loop-from
invariant-loop-from l = l.specs.items ≡ l.fn.specs.items ++ specs_of_leg l.leg l.size 0 (take l.from l.memos)
