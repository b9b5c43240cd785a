-- Peeling: in each round those nodes leave that have too few arcs from the nodes that are left.
use Rattle.std.specs.Prelude.{◌≡◌, ◌<◌, ◌≤◌, ◌&&◌, ℕ, zero, suc, nat_lt, nat_le, Bool, List}
use Rattle.graph_model.specs.Arcs.{Arc}
use Rattle.graph_model.specs.Core.{inner_degree}

-- whether v is left after so many rounds
abbrev pub peel : (k nodes : ℕ) → List Arc → (rounds : ℕ) → ℕ → Bool
peel k nodes arcs zero v = nat_lt v nodes
peel k nodes arcs (suc rounds) v = peel k nodes arcs rounds v && nat_le k (inner_degree arcs (peel k nodes arcs rounds) v)

-- nobody leaves in the round after so many
abbrev pub NobodyLeaves : (k nodes : ℕ) → List Arc → (rounds : ℕ) → Type 0
NobodyLeaves k nodes arcs rounds = (v : ℕ) → v < nodes → peel k nodes arcs (suc rounds) v ≡ peel k nodes arcs rounds v

-- how many rounds peeling takes: the last of them is the first in which nobody leaves
pub record IsPeelCount (k nodes : ℕ) (arcs : List Arc) (rounds : ℕ) : Type 0 where
  pub before : ℕ
  pub last : rounds ≡ suc before
  pub quiet : NobodyLeaves k nodes arcs before
  pub first : (earlier : ℕ) → NobodyLeaves k nodes arcs earlier → before ≤ earlier
