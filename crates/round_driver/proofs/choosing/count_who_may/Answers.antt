use Rattle.std.proofs.Common.{ap, sym, ◌∙◌, ◌+◌, arith}
use Rattle.round_driver.specs.Choices.{may_do}
use Rattle.round_driver.proofs.Counted.{counted_yes, counted_no, counted_all}
use Rattle.round_driver.proofs.choosing.count_who_may.Goals as goal
use Rattle.round_driver.proofs.choosing.count_who_may.Goals.{then-may, else-may}

pub overflow_add-count : goal.overflow_add-count
overflow_add-count g c =
    let few = c.loop-host.invariant.few in
    let within = c.loop-host-test.true in
    let fits = c.well_formed.0.0 in
    omega arith

pub loop-host-preserved : goal.loop-host-preserved
loop-host-preserved g c =
    let few = c.loop-host.invariant.few in
    elim c.if-may.branch [
      | then-may w ↦ record {
        counted = w.count-is ∙ ap (λ n. n + 1) c.loop-host.invariant.counted ∙ sym (counted_yes (may_do c.args.doing) c.args.hosts.now c.loop-host.host-index c.host-item.result c.may.result c.loop-host-test.true c.host-item.is c.may.ensures w.if-may.true);
        few = let is = w.count-is in omega arith;
      }
      | else-may w ↦ record {
        counted = w.count-is ∙ c.loop-host.invariant.counted ∙ sym (counted_no (may_do c.args.doing) c.args.hosts.now c.loop-host.host-index c.host-item.result c.may.result c.loop-host-test.true c.host-item.is c.may.ensures w.if-may.false);
        few = let is = w.count-is in omega arith;
      }
    ]

pub returns : goal.returns
returns g c = c.loop-host.invariant.counted ∙ counted_all (may_do c.args.doing) c.args.hosts.now c.loop-host.host-index c.loop-host-test.false
