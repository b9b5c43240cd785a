-- How many rounds a program takes on a whole graph.
use Rattle.std.specs.Prelude.{◌≡◌, ◌<◌, ◌≤◌, ℕ, suc, List}
use Rattle.graph_model.specs.Arcs.{Arc}
use Rattle.reduce_laws.specs.ReductionLaws.{Reducer}
use Rattle.reduce_laws.specs.ProgramLaws.{Steps}
use Rattle.lone_rounds.specs.Moments.{shown_after}

-- the round after so many changes no shown value
abbrev pub IsQuietRound : {Item State Shown : Type 0} → Reducer Item → Steps Item State Shown → (nodes : ℕ) → List Arc → (rounds : ℕ) → Type 0
IsQuietRound reducer steps nodes arcs rounds =
    (v : ℕ) → v < nodes → shown_after reducer steps arcs (suc rounds) v ≡ shown_after reducer steps arcs rounds v

-- a program takes so many rounds: the last of them is the first that changes no shown value
pub record IsRoundCount {Item State Shown : Type 0} (reducer : Reducer Item) (steps : Steps Item State Shown) (nodes : ℕ) (arcs : List Arc) (rounds : ℕ) : Type 0 where
  pub before : ℕ
  pub last : rounds ≡ suc before
  pub quiet : IsQuietRound reducer steps nodes arcs before
  pub first : (earlier : ℕ) → IsQuietRound reducer steps nodes arcs earlier → before ≤ earlier
