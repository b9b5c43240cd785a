use Rattle.std.specs.Prelude.{◌≡◌, ◌<◌, ◌*◌, ℕ, slice_index, vec_len}
use Rattle.field_encodings.proofs.encoder.tests.multiples.Given as goal

-- the numbers so far
abbrev pub invariant-loop-k : goal.invariant-loop-k
invariant-loop-k l = (vec_len l.numbers ≡ l.k) × ((j : ℕ) → j < l.k → slice_index l.numbers.items j ≡ j * l.step)
