use Rattle.std.proofs.Common.{◌≡◌, ◌++◌}
use Rattle.round_driver.specs.ChannelSpecs.{specs_below}
use Rattle.round_driver.proofs.channel_specs.add_host.Given as goal

-- the channels to the hosts so far are added
abbrev pub invariant-loop-to : goal.invariant-loop-to
invariant-loop-to l = l.specs.items ≡ l.fn.specs.items ++ specs_below l.leg l.size l.from l.memo l.to
