-- What a receiver may rely on of the entries that it is handed.
use Rattle.std.specs.Prelude.{◌<◌, ℕ, List, map}
use Rattle.std.specs.List.{All}
use Rattle.std.specs.List.Sorted.{IsStrictlyIncreasing}

-- the entries are for a list of so many positions
pub record AreEntries {X : Type 0} (IsValue : X → Type 0) (count : ℕ) (found : List (ℕ × X)) : Type 0 where
  -- each position is one of the list's
  pub below : All (λ entry. entry.0 < count) found
  -- the positions rise
  pub rise : IsStrictlyIncreasing (map (λ entry. entry.0) found)
  -- each value is one of the word's values
  pub values : All (λ entry. IsValue entry.1) found
