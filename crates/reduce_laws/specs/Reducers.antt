-- The reducers of this crate: the least of numbers, and their sum.
use Rattle.std.specs.Prelude.{◌+◌, ◌-◌, ◌%◌, ◌^◌, ℕ, min, true, false, nat_eq}
use Rattle.reduce_laws.specs.ReductionLaws.{Reducer}

-- the least of numbers below a limit; the greatest of these adds nothing
abbrev pub least_below : ℕ → Reducer ℕ
least_below limit = record { identity = limit - 1; combine = min; same = nat_eq; keeps = true }

-- the sum of numbers, modulo 2^32
abbrev pub wrapping_sum : Reducer ℕ
wrapping_sum = record { identity = 0; combine = λ x y. (x + y) % 2 ^ 32; same = nat_eq; keeps = false }
