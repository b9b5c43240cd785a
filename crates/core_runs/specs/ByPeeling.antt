-- What a run of k-core tells, in the words of peeling.
use Rattle.std.specs.Prelude.{ℕ, Bool, if◌then◌else◌, List, Option, Some}
use Rattle.list_laws.specs.LittleEndian.{le_bytes}
use Rattle.graph_model.specs.Graph.{Graph}
use Rattle.graph_model.specs.Arcs.{Arc, arcs_of}
use Rattle.graph_model.specs.declared.edge.Way.{Way}
use Rattle.graph_model.specs.Core.{IsCore}
use Rattle.graph_model.specs.Peeling.{IsPeelCount}
use Rattle.graph_division.specs.Division.{Division}
use Rattle.graph_division.specs.Shares.{Share}
use Rattle.graph_division.specs.Partition.{division_of}
use Rattle.round_packets.specs.Packets.{bytes_of_packet}
use Rattle.cluster_laws.specs.Channels.{Leg}
use Rattle.cluster_laws.specs.Channels.Leg.{reduce, broadcast}
use Rattle.kcore_packets.specs.Packets.{tally_packet, leaving_packet}
use Rattle.run_text.specs.Told.{Told}
use Rattle.run_text.specs.Text.{Asked, IsRunText}

module _ (k : ℕ) (arcs : List Arc) (division : Division) where
  -- the bytes of the packet of a leg from one host to another in the round after so many: tallies of four
  -- bytes to masters, and marks of one byte for who leaves to mirrors
  abbrev pub peel_payload : (rounds : ℕ) → Leg → (from to : ℕ) → List ℕ
  peel_payload rounds reduce from to = bytes_of_packet 4 (le_bytes 4) (tally_packet k arcs division rounds from to)
  peel_payload rounds broadcast from to = bytes_of_packet 1 (le_bytes 1) (leaving_packet k arcs division rounds from to)

  -- the packets that peeling calls for, and at last 1 for who is in the core and 0 for all others
  abbrev pub told_by_peeling : (core : ℕ → Bool) → Told
  told_by_peeling core = record {
    payload = λ rounds channel. peel_payload rounds channel.leg channel.from channel.to;
    answer = λ rounds v. Some (if core v then 1 else 0);
  }

-- The text of a run on a graph that is divided among hosts: after how many rounds it ends, if it does within
-- those that it may have, and what it tells. Answers are told only where it ends.
pub record TellsPeeling (k : ℕ) (graph : Graph) (asked : Asked) (way : Way) (shares : List Share) (budget : ℕ) (rounds : Option ℕ) (text : List ℕ) : Type 0 where
  -- the largest set of nodes in which each has at least k arcs from the set
  pub core : ℕ → Bool
  pub is_core : IsCore k graph.nodes (arcs_of way graph.edges) core
  pub is_text : IsRunText (IsPeelCount k graph.nodes (arcs_of way graph.edges)) asked way shares (told_by_peeling k (arcs_of way graph.edges) (division_of way shares) core) budget rounds text
