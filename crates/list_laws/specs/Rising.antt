-- Lists of numbers that rise: strictly, each above the one before, or weakly, none below it.
use Rattle.std.specs.Prelude.{ℕ, ◌+◌, ◌≤◌, List, [], ◌∷◌}

-- each number is at least `low`, and each next one at least what `after` makes of the one before
abbrev pub Climbs : (after : ℕ → ℕ) (low : ℕ) → List ℕ → Type 0
Climbs after low [] = Unit {0}
Climbs after low (x ∷ xs) = (low ≤ x) × Climbs after (after x) xs

-- they rise strictly, from `low` on
abbrev pub Rises : (low : ℕ) → List ℕ → Type 0
Rises low xs = Climbs (λ x. x + 1) low xs

-- none falls below the one before, from `low` on
abbrev pub NeverFalls : (low : ℕ) → List ℕ → Type 0
NeverFalls low xs = Climbs (λ x. x) low xs
