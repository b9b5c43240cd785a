-- Which numbers are in a list, and where.
use Rattle.std.specs.Prelude.{◌≡◌, ℕ, Bool, true, nat_eq, List}
use Rattle.std.specs.List.{list_any, position_or_len, AllByRecursion}

-- whether x is one of the numbers
abbrev pub is_among : List ℕ → ℕ → Bool
is_among xs x = list_any (λ other. nat_eq other x) xs

-- the first place of x, and the length where it is none of the numbers
abbrev pub place_of : List ℕ → ℕ → ℕ
place_of xs x = position_or_len (λ other. nat_eq other x) xs

-- each of the second list is in the first
abbrev pub AllAmong : List ℕ → List ℕ → Type 0
AllAmong ids xs = AllByRecursion (λ x. is_among ids x ≡ true) xs
