-- Lines with numbers that count on.
use Rattle.std.specs.Prelude.{ℕ, ◌+◌, List, [], ◌∷◌, ◌++◌}

-- the line of each element, the first of which has this number
abbrev pub numbered : {X : Type 0} → (line : ℕ → X → List ℕ) → ℕ → List X → List ℕ
numbered line i [] = []
numbered line i (x ∷ xs) = line i x ++ numbered line (i + 1) xs
