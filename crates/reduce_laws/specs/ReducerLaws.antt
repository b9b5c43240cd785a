-- The least of numbers and their wrapping sum keep the laws of a reducer.
use Rattle.std.specs.Prelude.{◌≡◌, ◌<◌, ◌+◌, ◌%◌, ◌^◌, ℕ}
use Rattle.std.proofs.Common.{arith}
use Rattle.reduce_laws.specs.NumberWords.{nat_eq_is_same}
use Rattle.reduce_laws.specs.ReductionLaws.{ReductionLaws}
use Rattle.reduce_laws.specs.Reducers.{least_below, wrapping_sum}

-- the least keeps the laws
pub least_laws : (limit : ℕ) → 0 < limit → ReductionLaws (λ x. x < limit) (least_below limit)
least_laws limit some = record {
  identity_is_value = omega arith;
  combine_is_value = λ x y hx hy. omega arith;
  combine_comm = λ x y hx hy. omega arith;
  combine_assoc = λ x y z hx hy hz. omega arith;
  combine-identity = λ x hx. omega arith;
  same_tells = λ x y _ _. nat_eq_is_same x y;
  combine_itself = λ _ x hx. omega arith;
}

-- a sum of three may wrap on the way
wraps_on_the_way : (x y z : ℕ) → ((x + y) % 2 ^ 32 + z) % 2 ^ 32 ≡ (x + (y + z) % 2 ^ 32) % 2 ^ 32
wraps_on_the_way x y z = omega arith

-- the wrapping sum keeps the laws
pub sum_laws : ReductionLaws (λ x. x < 256 ^ 4) wrapping_sum
sum_laws = record {
  identity_is_value = omega arith;
  combine_is_value = λ x y hx hy. omega arith;
  combine_comm = λ x y hx hy. omega arith;
  combine_assoc = λ x y z hx hy hz. wraps_on_the_way x y z;
  combine-identity = λ x hx. omega arith;
  same_tells = λ x y _ _. nat_eq_is_same x y;
  combine_itself = λ h. absurd (cc);
}
