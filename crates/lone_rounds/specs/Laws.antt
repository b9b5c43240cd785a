-- Laws of the rounds of a program on a whole graph.
use Rattle.std.specs.Prelude.{◌≡◌, ◌<◌, ◌≤◌, ℕ, suc, List, [], All}
use Rattle.std.specs.List.{flat_map}
use Rattle.std.specs.List.Sorted.{IsPermutation}
use Rattle.graph_model.specs.Arcs.{Arc}
use Rattle.reduce_laws.specs.ReductionLaws.{Reducer, combined}
use Rattle.reduce_laws.specs.ProgramLaws.{Steps}
use Rattle.lone_rounds.specs.Moments.{live_arcs, brought, moment_after, state_after}
use Rattle.graph_division.specs.ProgramArcs.{IsArcOf, AreArcsOf}
use Rattle.lone_rounds.specs.RoundCount.{IsQuietRound, IsRoundCount}

-- after a round that changed no shown value no state changes any more
abbrev pub QuietStays : {Item State Shown : Type 0} → Reducer Item → Steps Item State Shown → Type 0
QuietStays reducer steps =
    (nodes : ℕ) (arcs : List Arc) (rounds later v : ℕ) → AreArcsOf nodes arcs → v < nodes
    → IsQuietRound reducer steps nodes arcs rounds → suc rounds ≤ later
    → state_after reducer steps arcs later v ≡ state_after reducer steps arcs (suc rounds) v

-- from the second round on only the heads of arcs from awake tails can change
abbrev pub OnlyReachedChange : {Item State Shown : Type 0} → Reducer Item → Steps Item State Shown → Type 0
OnlyReachedChange reducer steps =
    (nodes : ℕ) (arcs : List Arc) (rounds v : ℕ) → AreArcsOf nodes arcs → v < nodes
    → live_arcs (moment_after reducer steps arcs (suc rounds)) arcs v ≡ []
    → state_after reducer steps arcs (suc (suc rounds)) v ≡ state_after reducer steps arcs (suc rounds) v

-- the order of the arcs makes no difference
abbrev pub ArcOrderIsFree : {Item State Shown : Type 0} → Reducer Item → Steps Item State Shown → Type 0
ArcOrderIsFree reducer steps =
    (nodes : ℕ) (arcs others : List Arc) (rounds v : ℕ) → AreArcsOf nodes arcs → IsPermutation arcs others → v < nodes
    → state_after reducer steps arcs rounds v ≡ state_after reducer steps others rounds v

-- what the arcs of all hosts bring in a round is what each host's own arcs bring, combined
abbrev pub SharesBring : {Item State Shown : Type 0} → Reducer Item → Steps Item State Shown → Type 0
SharesBring reducer steps =
    (nodes : ℕ) (arcs : List Arc) (share : ℕ → List Arc) (hosts : List ℕ) (rounds v : ℕ)
    → AreArcsOf nodes arcs → All (λ host. All (IsArcOf nodes) (share host)) hosts
    → brought reducer steps (flat_map share hosts) (moment_after reducer steps arcs rounds) v
    ≡ combined reducer (λ host. brought reducer steps (share host) (moment_after reducer steps arcs rounds) v) hosts

-- a program takes one number of rounds
abbrev pub RoundCountIsUnique : {Item State Shown : Type 0} → Reducer Item → Steps Item State Shown → Type 0
RoundCountIsUnique reducer steps =
    (nodes : ℕ) (arcs : List Arc) (rounds others : ℕ)
    → IsRoundCount reducer steps nodes arcs rounds → IsRoundCount reducer steps nodes arcs others → rounds ≡ others

-- from its last round on no state changes
abbrev pub LastStays : {Item State Shown : Type 0} → Reducer Item → Steps Item State Shown → Type 0
LastStays reducer steps =
    (nodes : ℕ) (arcs : List Arc) (rounds later v : ℕ) → AreArcsOf nodes arcs → v < nodes
    → IsRoundCount reducer steps nodes arcs rounds → rounds ≤ later
    → state_after reducer steps arcs later v ≡ state_after reducer steps arcs rounds v

-- the order of the arcs makes no difference to the number of rounds
abbrev pub RoundCountOrderIsFree : {Item State Shown : Type 0} → Reducer Item → Steps Item State Shown → Type 0
RoundCountOrderIsFree reducer steps =
    (nodes : ℕ) (arcs others : List Arc) (rounds : ℕ) → AreArcsOf nodes arcs → IsPermutation arcs others
    → IsRoundCount reducer steps nodes arcs rounds → IsRoundCount reducer steps nodes others rounds
