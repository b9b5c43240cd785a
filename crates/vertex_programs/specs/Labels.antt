-- Programs in which each vertex has a label, a number, and takes the least that comes along its arcs.
use Rattle.std.specs.Prelude.{◌≡◌, ◌<◌, ◌≤◌, ◌+◌, ◌*◌, ◌-◌, ◌^◌, ◌==◌, if◌then◌else◌, ℕ, min, nat_eq, Option, Some, None, List}
use Rattle.graph_model.specs.Arcs.{Arc}
use Rattle.graph_model.specs.Least.{Fares}
use Rattle.reduce_laws.specs.Reducers.{least_below}
use Rattle.reduce_laws.specs.ProgramLaws.{Steps}
use Rattle.lone_rounds.specs.Moments.{state_after}

-- an answer as a number: where there is none, the number that stands for none
abbrev pub number_of : (none : ℕ) → Option ℕ → ℕ
number_of none None = none
number_of none (Some label) = label

-- a number as an answer
abbrev pub answer_of : (none : ℕ) → ℕ → Option ℕ
answer_of none label = if label == none then None else Some label

-- the steps of the program of these fares, whose labels are the numbers below a limit: the greatest of
-- them stands for none, and no sum comes above it
abbrev pub label_steps : (limit : ℕ) → Fares → Steps ℕ ℕ ℕ
label_steps limit fares = record {
  start = λ v. number_of (limit - 1) (fares.start v);
  shown = λ label. label;
  same = nat_eq;
  along = λ label weight. min (label + fares.cost weight) (limit - 1);
  settle = min;
  keep = λ label. label;
  answer = answer_of (limit - 1);
}

-- the label of a vertex after so many rounds
abbrev pub label_after : (limit : ℕ) → Fares → List Arc → (rounds v : ℕ) → ℕ
label_after limit fares arcs rounds v = state_after (least_below limit) (label_steps limit fares) arcs rounds v

-- fares that fit: where walks start, and what arcs cost, has a bound, and the greatest start with as many
-- of the greatest costs as there are nodes stays below the number that stands for none
pub record Fits (limit nodes : ℕ) (fares : Fares) : Type 0 where
  pub most_start : ℕ
  pub most_cost : ℕ
  pub starts : (v begin : ℕ) → v < nodes → fares.start v ≡ Some begin → begin ≤ most_start
  pub costs : (weight : ℕ) → weight < 2 ^ 32 → fares.cost weight ≤ most_cost
  pub room : most_start + nodes * most_cost < limit - 1

-- walks start with labels, wherever they may
abbrev pub StartsBelow : (limit : ℕ) → Fares → Type 0
StartsBelow limit fares = (v begin : ℕ) → v < 2 ^ 32 → fares.start v ≡ Some begin → begin < limit
