-- What a run of a program of labels tells, in the words of walks.
use Rattle.std.specs.Prelude.{◌-◌, ◌^◌, ℕ, List, Option}
use Rattle.list_laws.specs.LittleEndian.{le_bytes}
use Rattle.graph_model.specs.Graph.{Graph}
use Rattle.graph_model.specs.Arcs.{arcs_of}
use Rattle.graph_model.specs.declared.edge.Way.{Way}
use Rattle.graph_model.specs.Least.{Fares, bfs_fares, sssp_fares, cc_fares}
use Rattle.graph_model.specs.WalkCount.{IsWalkCount}
use Rattle.graph_division.specs.Division.{Division}
use Rattle.graph_division.specs.Shares.{Share}
use Rattle.graph_division.specs.Partition.{division_of}
use Rattle.round_packets.specs.Packets.{bytes_of_packet}
use Rattle.cluster_laws.specs.Channels.{Leg}
use Rattle.cluster_laws.specs.Channels.Leg.{reduce, broadcast}
use Rattle.vertex_programs.specs.LabelPackets.{AreLeast, label_reduce_packet, label_broadcast_packet}
use Rattle.run_text.specs.Told.{Told}
use Rattle.run_text.specs.Text.{Asked, IsRunText}

-- a program of labels: how many bytes a label has, where walks start, and what arcs cost
pub record Labels : Type 0 where
  pub size : ℕ
  pub fares : Fares

-- those of breadth-first search, of shortest paths and of components
abbrev pub bfs_labels : (root : ℕ) → Labels
bfs_labels root = record { size = 4; fares = bfs_fares root }

abbrev pub sssp_labels : (root : ℕ) → Labels
sssp_labels root = record { size = 8; fares = sssp_fares root }

abbrev pub cc_labels : Labels
cc_labels = record { size = 4; fares = cc_fares }

module _ (labels : Labels) (division : Division) (plain : (rounds v : ℕ) → Option ℕ) where
  -- the bytes of the packet of a leg from one host to another in the round after so many
  abbrev pub walk_payload : (rounds : ℕ) → Leg → (from to : ℕ) → List ℕ
  walk_payload rounds reduce from to =
      bytes_of_packet labels.size (le_bytes labels.size) (label_reduce_packet (256 ^ labels.size - 1) labels.fares division plain rounds from to)
  walk_payload rounds broadcast from to =
      bytes_of_packet labels.size (le_bytes labels.size) (label_broadcast_packet (256 ^ labels.size - 1) division plain rounds from to)

  -- the packets that walks call for, and the least that they give
  abbrev pub told_by_walks : Told
  told_by_walks = record {
    payload = λ rounds channel. walk_payload rounds channel.leg channel.from channel.to;
    answer = plain;
  }

-- The text of a run on a graph that is divided among hosts: after how many rounds it ends, if it does within
-- those that it may have, and what it tells.
pub record TellsWalks (labels : Labels) (graph : Graph) (asked : Asked) (way : Way) (shares : List Share) (budget : ℕ) (rounds : Option ℕ) (text : List ℕ) : Type 0 where
  -- the least that walks of at most so many arcs give to each vertex
  pub plain : (rounds v : ℕ) → Option ℕ
  pub least : AreLeast labels.fares graph.nodes (arcs_of way graph.edges) plain
  pub is_text : IsRunText (IsWalkCount labels.fares graph.nodes (arcs_of way graph.edges)) asked way shares (told_by_walks labels (division_of way shares) plain) budget rounds text
