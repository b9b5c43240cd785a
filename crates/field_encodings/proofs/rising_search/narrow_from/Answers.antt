use Rattle.std.proofs.Common.{◌+◌, arith}
use Rattle.field_encodings.proofs.RisingSearch.{not_lower, lower_before}
use Rattle.field_encodings.proofs.rising_search.narrow_from.Goals as goal

pub returns-then-x-xs-clause-higher : goal.returns-then-x-xs-clause-higher
returns-then-x-xs-clause-higher c k since inside =
    omega (arith, not_lower c.args.xs.now (c.loop-step.start + c.loop-step.step) k c.requires.rising since inside)

pub loop-step-preserved : goal.loop-step-preserved
loop-step-preserved c = record {
  since = omega arith;
  inside = omega arith;
  some = omega arith;
  lower = λ k a b. omega (arith, lower_before c.args.xs.now k (c.loop-step.start + c.loop-step.step) c.requires.rising b (omega arith));
}
