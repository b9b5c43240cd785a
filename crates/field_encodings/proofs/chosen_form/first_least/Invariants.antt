use Rattle.std.specs.Prelude.{◌≤◌, ◌<◌, ℕ, slice_index}
use Rattle.field_encodings.proofs.chosen_form.first_least.Given as goal

-- the best so far is no greater than those before, and less than those before it
abbrev pub invariant-loop-place : goal.invariant-loop-place
invariant-loop-place l =
    (l.best < l.place) × ((k : ℕ) → k < l.place → slice_index l.numbers l.best ≤ slice_index l.numbers k)
    × ((k : ℕ) → k < l.best → slice_index l.numbers l.best < slice_index l.numbers k)
