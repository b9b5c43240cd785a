-- How many rounds it takes to find the least of all walks, where each round follows one arc more.
use Rattle.std.specs.Prelude.{◌≡◌, ◌<◌, ◌≤◌, ◌↔◌, ℕ, suc, List, Option, Some}
use Rattle.graph_model.specs.Arcs.{Arc}
use Rattle.graph_model.specs.Least.{Fares, IsLeast}

-- walks within one limit give each node the same least as walks within another
abbrev pub HaveSameLeast : Fares → (nodes : ℕ) → List Arc → (limit other : Option ℕ) → Type 0
HaveSameLeast fares nodes arcs limit other =
    (v : ℕ) (least : Option ℕ) → v < nodes → IsLeast fares arcs limit v least ↔ IsLeast fares arcs other v least

-- walks of one arc more than so many give no node less
abbrev pub NothingNearer : Fares → (nodes : ℕ) → List Arc → (rounds : ℕ) → Type 0
NothingNearer fares nodes arcs rounds = HaveSameLeast fares nodes arcs (Some rounds) (Some (suc rounds))

-- how many rounds walks take: the last of them is the first that gives no node less
pub record IsWalkCount (fares : Fares) (nodes : ℕ) (arcs : List Arc) (rounds : ℕ) : Type 0 where
  pub before : ℕ
  pub last : rounds ≡ suc before
  pub quiet : NothingNearer fares nodes arcs before
  pub first : (earlier : ℕ) → NothingNearer fares nodes arcs earlier → before ≤ earlier
