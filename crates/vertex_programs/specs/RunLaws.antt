-- What a run of a program of labels over hosts comes to: the least of the walks of the whole graph, and
-- the packets that walks call for.
use Rattle.std.specs.Prelude.{◌≡◌, ◌<◌, ◌≤◌, ◌-◌, ◌^◌, ◌↔◌, ℕ, max, Option, Some, None}
use Rattle.graph_model.specs.Graph.{Graph, IsGraph}
use Rattle.graph_model.specs.Arcs.{arcs_of}
use Rattle.graph_model.specs.declared.edge.Way.{Way}
use Rattle.graph_model.specs.Least.{Fares, IsLeast}
use Rattle.graph_model.specs.WalkCount.{IsWalkCount}
use Rattle.graph_division.specs.Division.{Division, IsDivision, whole}
use Rattle.reduce_laws.specs.Reducers.{least_below}
use Rattle.lone_rounds.specs.RoundCount.{IsRoundCount}
use Rattle.graph_division.specs.DivisionOf.{IsDivisionOf}
use Rattle.round_packets.specs.Runs.{Run, state_of}
use Rattle.round_packets.specs.Packets.{Agree}
use Rattle.round_packets.specs.RunPackets.{reduce_packet, broadcast_packet}
use Rattle.vertex_programs.specs.Labels.{number_of, label_steps, Fits, StartsBelow}
use Rattle.vertex_programs.specs.LabelPackets.{AreLeast, label_reduce_packet, label_broadcast_packet}

-- a run of the program of these fares, whose labels have so many bytes
abbrev pub label_run : (size : ℕ) → Fares → Division → Run ℕ ℕ ℕ
label_run size fares division = record {
  reducer = least_below (256 ^ size);
  steps = label_steps (256 ^ size) fares;
  division = division;
  item_size = size;
  shown_size = size;
}

-- a run finds the least that walks give on a graph whose edges are followed in a way, with this number for none
pub record FindsLeast (none : ℕ) (fares : Fares) (graph : Graph) (way : Way) (run : Run ℕ ℕ ℕ) : Type 0 where
  -- a vertex's state is its answer as a number
  pub states : (rounds v : ℕ) → state_of run rounds v ≡ number_of none (run.steps.answer (state_of run rounds v))
  -- after so many rounds it answers the least that walks of at most so many arcs give
  pub by_round : (rounds v : ℕ) → v < graph.nodes → IsLeast fares (arcs_of way graph.edges) (Some rounds) v (run.steps.answer (state_of run rounds v))
  -- the last round is the first after which walks of one arc more gave no vertex less
  pub counts : (rounds : ℕ) → IsRoundCount run.reducer run.steps run.division.nodes (whole run.division) rounds ↔ IsWalkCount fares graph.nodes (arcs_of way graph.edges) rounds
  -- and comes soon
  pub ends : (rounds : ℕ) × (rounds ≤ max 1 graph.nodes) × IsRoundCount run.reducer run.steps run.division.nodes (whole run.division) rounds
  -- from it on it answers the least of all walks
  pub at_last : (rounds later v : ℕ) → IsRoundCount run.reducer run.steps run.division.nodes (whole run.division) rounds → rounds ≤ later → v < graph.nodes
      → IsLeast fares (arcs_of way graph.edges) None v (run.steps.answer (state_of run later v))

-- every run of a program of labels does
abbrev pub LabelsFindLeast : (size : ℕ) → Fares → Type 0
LabelsFindLeast size fares =
    (graph : Graph) (way : Way) (division : Division) → IsGraph graph → IsDivisionOf graph way division → Fits (256 ^ size) graph.nodes fares
    → FindsLeast (256 ^ size - 1) fares graph way (label_run size fares division)

-- each packet of a run is the one that walks call for
pub record SendsLabels (none : ℕ) (fares : Fares) (plain : ℕ → ℕ → Option ℕ) (run : Run ℕ ℕ ℕ) : Type 0 where
  pub reduces : (rounds from to : ℕ) → from < run.division.hosts → Agree (reduce_packet run rounds from to) (label_reduce_packet none fares run.division plain rounds from to)
  pub broadcasts : (rounds from to : ℕ) → Agree (broadcast_packet run rounds from to) (label_broadcast_packet none run.division plain rounds from to)

-- so it is in every run of a program of labels
abbrev pub LabelsAreSent : (size : ℕ) → Fares → Type 0
LabelsAreSent size fares =
    (graph : Graph) (way : Way) (division : Division) (plain : ℕ → ℕ → Option ℕ)
    → IsGraph graph → IsDivision division → IsDivisionOf graph way division
    → Fits (256 ^ size) graph.nodes fares → StartsBelow (256 ^ size) fares → AreLeast fares graph.nodes (arcs_of way graph.edges) plain
    → SendsLabels (256 ^ size - 1) fares plain (label_run size fares division)

-- there are such answers, round by round
abbrev pub LeastExist : (size : ℕ) → Fares → Type 0
LeastExist size fares =
    (graph : Graph) (way : Way) → IsGraph graph → Fits (256 ^ size) graph.nodes fares
    → (plain : ℕ → ℕ → Option ℕ) × AreLeast fares graph.nodes (arcs_of way graph.edges) plain
