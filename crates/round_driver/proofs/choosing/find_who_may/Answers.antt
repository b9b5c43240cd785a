use Rattle.std.proofs.Common.{ap, sym, ◌∙◌, ◌+◌, arith}
use Rattle.round_driver.specs.Choices.{may_do}
use Rattle.round_driver.proofs.Counted.{counted_yes, counted_no, found_at}
use Rattle.round_driver.proofs.choosing.find_who_may.Goals as goal
use Rattle.round_driver.proofs.choosing.find_who_may.Goals.{then-may+else-before-place, else-may}

pub returns-then-before-place : goal.returns-then-before-place
returns-then-before-place g c =
    found_at (may_do c.args.doing) c.args.hosts.now c.loop-number.number c.args.place c.index-hosts-number.result c.may.result c.loop-number-test.true c.index-hosts-number.is c.may.ensures c.if-may.true
    (sym c.loop-number.invariant.counted ∙ c.if-before-place.true)

pub loop-number-preserved : goal.loop-number-preserved
loop-number-preserved g c =
    let so_far = c.loop-number.invariant.before in
    elim c.if-may.branch [
      | then-may+else-before-place w ↦ record {
        counted = w.before-is ∙ ap (λ n. n + 1) c.loop-number.invariant.counted ∙ sym (counted_yes (may_do c.args.doing) c.args.hosts.now c.loop-number.number c.index-hosts-number.result c.may.result c.loop-number-test.true c.index-hosts-number.is c.may.ensures w.if-may.true);
        before = let is = w.before-is in let apart = w.if-before-place.false in omega arith;
      }
      | else-may w ↦ record {
        counted = w.before-is ∙ c.loop-number.invariant.counted ∙ sym (counted_no (may_do c.args.doing) c.args.hosts.now c.loop-number.number c.index-hosts-number.result c.may.result c.loop-number-test.true c.index-hosts-number.is c.may.ensures w.if-may.false);
        before = let is = w.before-is in omega arith;
      }
    ]
