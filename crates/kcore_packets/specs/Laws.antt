-- What a run of k-core over hosts comes to: peeling on the whole graph, its core at last, and the packets
-- that peeling calls for.
use Rattle.std.specs.Prelude.{◌≡◌, ◌<◌, ◌≤◌, ◌+◌, ◌↔◌, ℕ, Bool, if◌then◌else◌, Some, List}
use Rattle.graph_model.specs.Graph.{Graph}
use Rattle.graph_model.specs.Arcs.{Arc, arcs_of}
use Rattle.graph_model.specs.declared.edge.Way.{Way}
use Rattle.graph_model.specs.Core.{IsCore}
use Rattle.graph_model.specs.Peeling.{IsPeelCount}
use Rattle.graph_division.specs.Division.{whole}
use Rattle.lone_rounds.specs.RoundCount.{IsRoundCount}
use Rattle.kcore_program.specs.declared.core_state.CoreState.{CoreState}
use Rattle.kcore_program.specs.Tallies.{peeled_state}
use Rattle.round_packets.specs.Runs.{Run, state_of}
use Rattle.round_packets.specs.Packets.{Agree}
use Rattle.round_packets.specs.RunPackets.{reduce_packet, broadcast_packet}
use Rattle.kcore_packets.specs.Packets.{tally_packet, leaving_packet}

-- a run finds the core of a graph whose edges are followed in a way
pub record FindsCore (k : ℕ) (graph : Graph) (way : Way) (run : Run ℕ CoreState ℕ) : Type 0 where
  -- after so many rounds who is peeled off has left, and who is left knows its inner degree
  pub by_round : (rounds v : ℕ) → v < graph.nodes → state_of run rounds v ≡ peeled_state k graph.nodes (arcs_of way graph.edges) rounds v
  -- the last round is the first in which nobody leaves
  pub counts : (rounds : ℕ) → IsRoundCount run.reducer run.steps run.division.nodes (whole run.division) rounds ↔ IsPeelCount k graph.nodes (arcs_of way graph.edges) rounds
  -- and comes soon
  pub ends : (rounds : ℕ) × (rounds ≤ graph.nodes + 1) × IsRoundCount run.reducer run.steps run.division.nodes (whole run.division) rounds
  -- from it on the answer is 1 for who is in the core, and 0 for all others
  pub at_last : (core : ℕ → Bool) (rounds later v : ℕ) → IsCore k graph.nodes (arcs_of way graph.edges) core
      → IsRoundCount run.reducer run.steps run.division.nodes (whole run.division) rounds → rounds ≤ later → v < graph.nodes
      → run.steps.answer (state_of run later v) ≡ Some (if core v then 1 else 0)

-- each packet of a run is the one that peeling along these arcs calls for
pub record SendsTallies (k : ℕ) (arcs : List Arc) (run : Run ℕ CoreState ℕ) : Type 0 where
  -- what mirrors send to their masters are tallies
  pub reduces : (rounds from to : ℕ) → from < run.division.hosts → Agree (reduce_packet run rounds from to) (tally_packet k arcs run.division rounds from to)
  -- what masters tell their mirrors is who leaves
  pub broadcasts : (rounds from to : ℕ) → Agree (broadcast_packet run rounds from to) (leaving_packet k arcs run.division rounds from to)
