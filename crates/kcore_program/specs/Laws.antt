-- The rounds of k-core on a whole graph are peeling, and its answers are the core.
use Rattle.std.specs.Prelude.{◌≡◌, ◌<◌, ◌≤◌, ◌^◌, ◌↔◌, ℕ, Bool, if◌then◌else◌, Some, List, length}
use Rattle.std.specs.List.{All}
use Rattle.graph_model.specs.Arcs.{Arc, arcs_of}
use Rattle.graph_model.specs.Core.{IsCore}
use Rattle.graph_model.specs.Graph.{Graph, IsGraph}
use Rattle.graph_model.specs.Peeling.{peel, NobodyLeaves, IsPeelCount}
use Rattle.graph_model.specs.declared.edge.Way.{Way}
use Rattle.reduce_laws.specs.ReductionLaws.{Reducer}
use Rattle.reduce_laws.specs.ProgramLaws.{Steps}
use Rattle.lone_rounds.specs.Moments.{brought, moment_after, state_after, shown_after}
use Rattle.lone_rounds.specs.RoundCount.{IsQuietRound, IsRoundCount}
use Rattle.kcore_program.specs.declared.core_state.CoreState.{CoreState}
use Rattle.kcore_program.specs.declared.core_state.CoreState.TheVariants.{Stays}
use Rattle.kcore_program.specs.Tallies.{tally, peeled_state}

-- arcs that can be counted in four bytes
pub record AreCounted (nodes : ℕ) (arcs : List Arc) : Type 0 where
  pub within : All (λ arc. arc.tail < nodes) arcs
  pub few : length arcs < 2 ^ 32

-- those of a graph can
abbrev pub GraphsAreCounted : Type 0
GraphsAreCounted = (graph : Graph) (way : Way) → IsGraph graph → AreCounted graph.nodes (arcs_of way graph.edges)

-- a vertex has left exactly where it is peeled off, and else knows its inner degree
abbrev pub RoundsPeel : Reducer ℕ → Steps ℕ CoreState ℕ → ℕ → Type 0
RoundsPeel reducer steps k =
    (nodes : ℕ) (arcs : List Arc) (rounds v : ℕ) → AreCounted nodes arcs → v < nodes
    → state_after reducer steps arcs rounds v ≡ peeled_state k nodes arcs rounds v

-- who is left shows 0, and who has left shows 1
abbrev pub ShownIsLeft : Reducer ℕ → Steps ℕ CoreState ℕ → ℕ → Type 0
ShownIsLeft reducer steps k =
    (nodes : ℕ) (arcs : List Arc) (rounds v : ℕ) → AreCounted nodes arcs → v < nodes
    → shown_after reducer steps arcs rounds v ≡ (if peel k nodes arcs rounds v then 0 else 1)

-- what some arcs bring in a round is their tally: it does not wrap
abbrev pub TalliesCount : Reducer ℕ → Steps ℕ CoreState ℕ → ℕ → Type 0
TalliesCount reducer steps k =
    (nodes : ℕ) (arcs some : List Arc) (rounds v : ℕ) → AreCounted nodes arcs → AreCounted nodes some
    → brought reducer steps some (moment_after reducer steps arcs rounds) v ≡ tally k nodes arcs some rounds v

-- who stays loses no more arcs than it has: no subtraction saturates
abbrev pub NoLossSaturates : Reducer ℕ → Steps ℕ CoreState ℕ → Type 0
NoLossSaturates reducer steps =
    (nodes : ℕ) (arcs : List Arc) (rounds v degree : ℕ) → AreCounted nodes arcs → v < nodes
    → state_after reducer steps arcs rounds v ≡ Stays degree
    → brought reducer steps arcs (moment_after reducer steps arcs rounds) v ≤ degree

-- a round changes no shown value exactly where nobody leaves in it
abbrev pub QuietIsNobodyLeaves : Reducer ℕ → Steps ℕ CoreState ℕ → ℕ → Type 0
QuietIsNobodyLeaves reducer steps k =
    (nodes : ℕ) (arcs : List Arc) (rounds : ℕ) → AreCounted nodes arcs
    → IsQuietRound reducer steps nodes arcs rounds ↔ NobodyLeaves k nodes arcs rounds

-- so the program takes as many rounds as peeling does
abbrev pub RoundCountIsPeelCount : Reducer ℕ → Steps ℕ CoreState ℕ → ℕ → Type 0
RoundCountIsPeelCount reducer steps k =
    (nodes : ℕ) (arcs : List Arc) (rounds : ℕ) → AreCounted nodes arcs
    → IsRoundCount reducer steps nodes arcs rounds ↔ IsPeelCount k nodes arcs rounds

-- from the last round of peeling on the answer is 1 for who is in the core, and 0 for all others
abbrev pub AnswersAreCore : Reducer ℕ → Steps ℕ CoreState ℕ → ℕ → Type 0
AnswersAreCore reducer steps k =
    (nodes : ℕ) (arcs : List Arc) (core : ℕ → Bool) (rounds later v : ℕ) → AreCounted nodes arcs
    → IsCore k nodes arcs core → IsPeelCount k nodes arcs rounds → rounds ≤ later → v < nodes
    → steps.answer (state_after reducer steps arcs later v) ≡ Some (if core v then 1 else 0)
