-- What one host's mirrors lack.
use Rattle.std.specs.Prelude.{ℕ, Bool, not, List}
use Rattle.std.specs.List.{list_all}
use Rattle.graph_division.specs.Shares.{Share}

-- none of these vertices is of the kind
abbrev pub none_of : (Share → ℕ → Bool) → Share → List ℕ → Bool
none_of kind share vertices = list_all (λ v. not (kind share v)) vertices
