use Rattle.std.specs.Prelude.{◌≤◌, ◌<◌, ◌-◌, ℕ, length, slice_index}
use Rattle.field_encodings.proofs.rising_search.narrow_from.Given as goal

-- the numbers before the place that is reached are lower
abbrev pub invariant-loop-step : goal.invariant-loop-step
invariant-loop-step l = record {
  since : l.from ≤ l.start;
  inside : l.start ≤ length l.xs;
  some : 0 < l.step;
  lower : (k : ℕ) → l.from ≤ k → k < l.start → slice_index l.xs k < l.x;
}

-- each step goes on
abbrev pub decreases-loop-step : goal.decreases-loop-step
decreases-loop-step l = length l.xs - l.start
