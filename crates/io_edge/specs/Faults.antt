-- How the counts of an object of the outside move: faults that it met, picks that it was asked for.
use Rattle.std.specs.Prelude.{◌≡◌, ℕ, ◌+◌, ◌-◌, ◌^◌, ◌<◌, ◌≤◌, min}

-- the last value of a count, where it stands still
abbrev pub last_count : ℕ
last_count = 2 ^ 64 - 1

-- one more, as far as a count goes
abbrev pub count_up : ℕ → ℕ
count_up n = min (n + 1) last_count

-- the count rose in a call: it did not fall, and it rose if it stood below its last value
pub record Rose (old new : ℕ) : Type 0 where
  pub kept : old ≤ new
  pub above : old < last_count → old < new
  pub bounded : new ≤ last_count

-- the count did not rise in a call, and an error would have made it rise
pub record IsQuiet (old new : ℕ) : Type 0 where
  pub below : old < last_count
  pub same : new ≡ old
