-- Walks along arcs, and what they cost.
use Rattle.std.specs.Prelude.{◌≡◌, ℕ, List, [], ◌∷◌, Contains, sum_by}
use Rattle.graph_model.specs.Arcs.{Arc}

-- The path leads from u to v along these arcs: its first arc starts at u, each other starts where the
-- one before ends, and its last ends at v. The empty path leads from u to u.
abbrev pub IsWalk : List Arc → ℕ → List Arc → ℕ → Type 0
IsWalk arcs u [] v = u ≡ v
IsWalk arcs u (arc ∷ rest) v = Contains arcs arc × (arc.tail ≡ u) × IsWalk arcs arc.head rest v

-- what a path costs, where an arc costs `cost` of its weight
abbrev pub cost_of : (ℕ → ℕ) → List Arc → ℕ
cost_of cost path = sum_by (λ arc. cost arc.weight) path
