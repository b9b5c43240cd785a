-- A program's rounds on a whole graph, which is given as its arcs: no hosts and no packets here.
use Rattle.std.specs.Prelude.{ℕ, zero, suc, ◌==◌, ◌&&◌, Bool, true, not, List}
use Rattle.std.specs.List.{filter}
use Rattle.graph_model.specs.Arcs.{Arc}
use Rattle.reduce_laws.specs.ReductionLaws.{Reducer, combined}
use Rattle.reduce_laws.specs.ProgramLaws.{Steps}

-- what stands between two rounds: the state of each vertex, and which vertices are awake in the next
pub record Moment (State : Type 0) : Type 0 where
  pub state : ℕ → State
  pub awake : ℕ → Bool

-- the item that goes along an arc in the round after a moment
abbrev pub carried_along : {Item State Shown : Type 0} → Steps Item State Shown → Moment State → Arc → Item
carried_along steps moment arc = steps.along (steps.shown (moment.state arc.tail)) arc.weight

-- the arcs into a vertex whose tails are awake
abbrev pub live_arcs : {State : Type 0} → Moment State → List Arc → ℕ → List Arc
live_arcs moment arcs v = filter (λ arc. arc.head == v && moment.awake arc.tail) arcs

-- what arcs bring to a vertex in the round after a moment: the items along the live ones, combined
unfoldable pub brought : {Item State Shown : Type 0} → Reducer Item → Steps Item State Shown → List Arc → Moment State → ℕ → Item
brought reducer steps arcs moment v = combined reducer (carried_along steps moment) (live_arcs moment arcs v)

-- the moment before the first round: each vertex is at its start, and awake
abbrev pub first_moment : {Item State Shown : Type 0} → Steps Item State Shown → Moment State
first_moment steps = record { state = steps.start; awake = λ v. true }

-- the state in which a vertex settles in the round after a moment
abbrev pub settled : {Item State Shown : Type 0} → Reducer Item → Steps Item State Shown → List Arc → Moment State → ℕ → State
settled reducer steps arcs moment v = steps.settle (moment.state v) (brought reducer steps arcs moment v)

-- the moment one round later: awake are the vertices whose shown value changed
abbrev pub next_moment : {Item State Shown : Type 0} → Reducer Item → Steps Item State Shown → List Arc → Moment State → Moment State
next_moment reducer steps arcs moment = record {
  state = settled reducer steps arcs moment;
  awake = λ v. not (steps.same (steps.shown (moment.state v)) (steps.shown (settled reducer steps arcs moment v)));
}

-- the moment after so many rounds
abbrev pub moment_after : {Item State Shown : Type 0} → Reducer Item → Steps Item State Shown → List Arc → ℕ → Moment State
moment_after reducer steps arcs zero = first_moment steps
moment_after reducer steps arcs (suc rounds) = next_moment reducer steps arcs (moment_after reducer steps arcs rounds)

-- the state of a vertex after so many rounds
abbrev pub state_after : {Item State Shown : Type 0} → Reducer Item → Steps Item State Shown → List Arc → ℕ → ℕ → State
state_after reducer steps arcs rounds v = (moment_after reducer steps arcs rounds).state v

-- what a vertex shows after so many rounds
abbrev pub shown_after : {Item State Shown : Type 0} → Reducer Item → Steps Item State Shown → List Arc → ℕ → ℕ → Shown
shown_after reducer steps arcs rounds v = steps.shown (state_after reducer steps arcs rounds v)
