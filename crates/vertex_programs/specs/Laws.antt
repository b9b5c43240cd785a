-- The rounds of a program of labels follow walks: its labels are the least that walks give, and it ends.
use Rattle.std.specs.Prelude.{◌≡◌, ◌<◌, ◌≤◌, ◌+◌, ◌-◌, ◌^◌, ◌↔◌, ℕ, max, Option, Some, None, List, Contains}
use Rattle.graph_model.specs.Graph.{most_nodes}
use Rattle.graph_model.specs.Arcs.{Arc}
use Rattle.graph_model.specs.Least.{Fares, IsLeast, bfs_fares, sssp_fares, cc_fares}
use Rattle.graph_model.specs.WalkCount.{HaveSameLeast, NothingNearer, IsWalkCount}
use Rattle.graph_division.specs.ProgramArcs.{AreArcsOf}
use Rattle.reduce_laws.specs.Reducers.{least_below}
use Rattle.lone_rounds.specs.RoundCount.{IsQuietRound, IsRoundCount}
use Rattle.vertex_programs.specs.Labels.{number_of, answer_of, label_steps, label_after, Fits}

-- the fares of the three programs fit on every graph
abbrev pub ProgramsFit : Type 0
ProgramsFit =
    (nodes root : ℕ) → nodes ≤ most_nodes
    → Fits (256 ^ 4) nodes (bfs_fares root) × Fits (256 ^ 8) nodes (sssp_fares root) × Fits (256 ^ 4) nodes cc_fares

-- after so many rounds the label of a vertex says the least that walks of at most so many arcs give
abbrev pub RoundsAreWalks : ℕ → Fares → Type 0
RoundsAreWalks limit fares =
    (nodes : ℕ) (arcs : List Arc) (rounds v : ℕ) → AreArcsOf nodes arcs → Fits limit nodes fares → v < nodes
    → IsLeast fares arcs (Some rounds) v (answer_of (limit - 1) (label_after limit fares arcs rounds v))

-- so whatever is the least, the label is its number
abbrev pub LabelsAreLeast : ℕ → Fares → Type 0
LabelsAreLeast limit fares =
    (nodes : ℕ) (arcs : List Arc) (rounds v : ℕ) (least : Option ℕ) → AreArcsOf nodes arcs → Fits limit nodes fares → v < nodes
    → IsLeast fares arcs (Some rounds) v least → label_after limit fares arcs rounds v ≡ number_of (limit - 1) least

-- no sum saturates: a label and the cost of an arc that it goes along come to a label
abbrev pub SumsAreLabels : ℕ → Fares → Type 0
SumsAreLabels limit fares =
    (nodes : ℕ) (arcs : List Arc) (rounds : ℕ) (arc : Arc) → AreArcsOf nodes arcs → Fits limit nodes fares → Contains arcs arc
    → label_after limit fares arcs rounds arc.tail < limit - 1
    → label_after limit fares arcs rounds arc.tail + fares.cost arc.weight < limit - 1

-- a round changes no label exactly where walks of one arc more give no vertex less
abbrev pub QuietRounds : ℕ → Fares → Type 0
QuietRounds limit fares =
    (nodes : ℕ) (arcs : List Arc) (rounds : ℕ) → AreArcsOf nodes arcs → Fits limit nodes fares
    → IsQuietRound (least_below limit) (label_steps limit fares) nodes arcs rounds ↔ NothingNearer fares nodes arcs rounds

-- so the program takes as many rounds as walks do
abbrev pub CountsAgree : ℕ → Fares → Type 0
CountsAgree limit fares =
    (nodes : ℕ) (arcs : List Arc) (rounds : ℕ) → AreArcsOf nodes arcs → Fits limit nodes fares
    → IsRoundCount (least_below limit) (label_steps limit fares) nodes arcs rounds ↔ IsWalkCount fares nodes arcs rounds

-- there is such a number, at most the greater of 1 and the number of nodes
abbrev pub RoundsEnd : ℕ → Fares → Type 0
RoundsEnd limit fares =
    (nodes : ℕ) (arcs : List Arc) → AreArcsOf nodes arcs → Fits limit nodes fares
    → (rounds : ℕ) × (rounds ≤ max 1 nodes) × IsWalkCount fares nodes arcs rounds

-- from the last round on walks of so many arcs give what all walks do
abbrev pub LastIsAllWalks : ℕ → Fares → Type 0
LastIsAllWalks limit fares =
    (nodes : ℕ) (arcs : List Arc) (rounds later : ℕ) → AreArcsOf nodes arcs → Fits limit nodes fares
    → IsWalkCount fares nodes arcs rounds → rounds ≤ later → HaveSameLeast fares nodes arcs (Some later) None

-- and labels say the least of all walks
abbrev pub LastLabelsAreLeast : ℕ → Fares → Type 0
LastLabelsAreLeast limit fares =
    (nodes : ℕ) (arcs : List Arc) (rounds later v : ℕ) → AreArcsOf nodes arcs → Fits limit nodes fares → v < nodes
    → IsWalkCount fares nodes arcs rounds → rounds ≤ later
    → IsLeast fares arcs None v (answer_of (limit - 1) (label_after limit fares arcs later v))
