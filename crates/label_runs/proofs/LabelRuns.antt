-- The text of a run of a program of labels, in the words of walks.
use Rattle.std.proofs.Common.{◌≡◌, ℕ, ◌-◌, ◌<◌, ◌^◌, List, Option, Some, arith}
use Rattle.std.specs.Int.{w32, w64, to_le_bytes}
use Rattle.list_laws.specs.LittleEndian.{le_bytes}
use Rattle.list_laws.proofs.WholeNumbers.{to_le_bytes-le}
use Rattle.graph_model.specs.Graph.{Graph, IsGraph}
use Rattle.graph_model.specs.Arcs.{arcs_of}
use Rattle.graph_model.specs.declared.edge.Way.{Way}
use Rattle.graph_model.specs.Least.{Fares, bfs_fares, sssp_fares, cc_fares}
use Rattle.graph_model.specs.WalkCount.{IsWalkCount}
use Rattle.graph_model.proofs.LeastLaws.{IsLeast_unique}
use Rattle.graph_division.specs.DivisionOf.{IsDivisionOf}
use Rattle.graph_division.specs.Shares.{Share}
use Rattle.graph_division.specs.Partition.{IsPartition, division_of}
use Rattle.graph_division.specs.Division.{Division, whole}
use Rattle.graph_division.proofs.GraphArcs.{graphs_have_arcs}
use Rattle.graph_division.proofs.Partitions.{partitions_divide}
use Rattle.lone_rounds.specs.RoundCount.{IsRoundCount}
use Rattle.round_packets.specs.RunPackets.{reduce_packet, broadcast_packet}
use Rattle.round_packets.specs.Runs.{state_of}
use Rattle.cluster_laws.specs.Channels.{Leg, payload, payload_of}
use Rattle.cluster_laws.specs.Channels.Leg.{reduce, broadcast}
use Rattle.vertex_programs.specs.Labels.{Fits, StartsBelow}
use Rattle.vertex_programs.specs.Programs.{root_starts_below, own_starts_below}
use Rattle.vertex_programs.specs.LabelPackets.{AreLeast, label_reduce_packet, label_broadcast_packet}
use Rattle.vertex_programs.specs.RunLaws.{label_run, FindsLeast, SendsLabels}
use Rattle.vertex_programs.proofs.Ending.{rounds_end}
use Rattle.vertex_programs.proofs.Fitting.{programs_fit}
use Rattle.vertex_programs.proofs.GraphRuns.{labels_find_least, labels_are_sent, least_exist}
use Rattle.run_text.specs.Told.{told_by}
use Rattle.label_runs.specs.ByWalks.{Labels, walk_payload, told_by_walks, bfs_labels, sssp_labels, cc_labels}
use Rattle.label_runs.specs.Laws.{TellsWhatWalksDo, WalksEnd}
use Rattle.run_text.proofs.SameText.{TellSame, on_channels, same_run_text}
use Rattle.run_text.proofs.SamePackets.{same_packet}

module _ (size : ℕ) (fares : Fares) (bytes : ℕ → List ℕ) (alike : (x : ℕ) → bytes x ≡ le_bytes size x) where
  -- what is sent on a leg is what walks call for
  same_payload : (division : Division) (plain : ℕ → ℕ → Option ℕ) → SendsLabels (256 ^ size - 1) fares plain (label_run size fares division) → (rounds : ℕ) (leg : Leg) (from to : ℕ) → from < division.hosts →
      payload_of bytes bytes (label_run size fares division) rounds leg from to ≡ walk_payload (record { size = size; fares = fares }) division plain rounds leg from to
  same_payload division plain sends rounds reduce from to there =
      same_packet size bytes (le_bytes size) (reduce_packet (label_run size fares division) rounds from to) (label_reduce_packet (256 ^ size - 1) fares division plain rounds from to)
      (λ v. alike ((label_reduce_packet (256 ^ size - 1) fares division plain rounds from to).value v)) (sends.reduces rounds from to there)
  same_payload division plain sends rounds broadcast from to there =
      same_packet size bytes (le_bytes size) (broadcast_packet (label_run size fares division) rounds from to) (label_broadcast_packet (256 ^ size - 1) division plain rounds from to)
      (λ v. alike ((label_broadcast_packet (256 ^ size - 1) division plain rounds from to).value v)) (sends.broadcasts rounds from to)

  -- a run tells what walks call for
  tells_same : (graph : Graph) (way : Way) (division : Division) (plain : ℕ → ℕ → Option ℕ) → IsDivisionOf graph way division
      → FindsLeast (256 ^ size - 1) fares graph way (label_run size fares division) → SendsLabels (256 ^ size - 1) fares plain (label_run size fares division) → AreLeast fares graph.nodes (arcs_of way graph.edges) plain
      → TellSame division (IsRoundCount (label_run size fares division).reducer (label_run size fares division).steps division.nodes (whole division)) (told_by bytes bytes (label_run size fares division)) (told_by_walks (record { size = size; fares = fares }) division plain)
  tells_same graph way division plain divides finds sends least =
      let run = label_run size fares division in
      let labels : Labels = record { size = size; fares = fares } in
      record {
        payloads = λ rounds.
            on_channels run (λ channel. payload bytes bytes run rounds channel ≡ walk_payload labels division plain rounds channel.leg channel.from channel.to)
            (λ channel there. same_payload division plain sends rounds channel.leg channel.from channel.to there);
        answers = λ rounds v count below.
            let node : v < graph.nodes = omega (arith, below, divides.nodes) in
            IsLeast_unique fares (arcs_of way graph.edges) (Some rounds) v (run.steps.answer (state_of run rounds v)) (plain rounds v) (finds.by_round rounds v node) (least rounds v node);
      }

  -- so its text is that of walks
  pub tells_walks : (graph : Graph) (way : Way) (shares : List Share) → IsGraph graph → IsPartition shares → IsDivisionOf graph way (division_of way shares)
      → Fits (256 ^ size) graph.nodes fares → StartsBelow (256 ^ size) fares
      → TellsWhatWalksDo (record { size = size; fares = fares }) bytes (label_run size fares (division_of way shares)) graph way shares
  tells_walks graph way shares is_graph partition divides fits starts asked budget rounds text is =
      let division = division_of way shares in
      let labels : Labels = record { size = size; fares = fares } in
      let run = label_run size fares division in
      let found = least_exist size fares graph way is_graph fits in
      let finds = labels_find_least size fares graph way division is_graph divides fits in
      let sends = labels_are_sent size fares graph way division found.0 is_graph (partitions_divide way shares partition) divides fits starts found.1 in
      record {
        plain = found.0;
        least = found.1;
        is_text =
            same_run_text asked way shares (IsRoundCount run.reducer run.steps run.division.nodes (whole run.division)) (told_by bytes bytes run) (told_by_walks labels division found.0)
            (tells_same graph way division found.0 divides finds sends found.1) (IsWalkCount fares graph.nodes (arcs_of way graph.edges)) finds.counts budget rounds text is;
      }

-- walks end
walks_end : (size : ℕ) (fares : Fares) (graph : Graph) (way : Way) → IsGraph graph → Fits (256 ^ size) graph.nodes fares → WalksEnd (record { size = size; fares = fares }) graph way
walks_end size fares graph way is_graph fits = rounds_end (256 ^ size) fares graph.nodes (arcs_of way graph.edges) (graphs_have_arcs graph way is_graph) fits

-- the three programs
pub bfs_tells : (root : ℕ) (graph : Graph) (way : Way) (shares : List Share) → IsGraph graph → IsPartition shares → IsDivisionOf graph way (division_of way shares) → TellsWhatWalksDo (bfs_labels root) (to_le_bytes w32) (label_run 4 (bfs_fares root) (division_of way shares)) graph way shares
bfs_tells root graph way shares is_graph partition divides =
    tells_walks 4 (bfs_fares root) (to_le_bytes w32) (to_le_bytes-le w32) graph way shares is_graph partition divides
    (programs_fit graph.nodes root is_graph.nodes_fit).0 (root_starts_below (256 ^ 4) root (λ weight. 1) (omega arith))

pub sssp_tells : (root : ℕ) (graph : Graph) (way : Way) (shares : List Share) → IsGraph graph → IsPartition shares → IsDivisionOf graph way (division_of way shares) → TellsWhatWalksDo (sssp_labels root) (to_le_bytes w64) (label_run 8 (sssp_fares root) (division_of way shares)) graph way shares
sssp_tells root graph way shares is_graph partition divides =
    tells_walks 8 (sssp_fares root) (to_le_bytes w64) (to_le_bytes-le w64) graph way shares is_graph partition divides
    (programs_fit graph.nodes root is_graph.nodes_fit).1 (root_starts_below (256 ^ 8) root (λ weight. weight) (omega arith))

pub cc_tells : (graph : Graph) (way : Way) (shares : List Share) → IsGraph graph → IsPartition shares → IsDivisionOf graph way (division_of way shares) → TellsWhatWalksDo cc_labels (to_le_bytes w32) (label_run 4 cc_fares (division_of way shares)) graph way shares
cc_tells graph way shares is_graph partition divides =
    tells_walks 4 cc_fares (to_le_bytes w32) (to_le_bytes-le w32) graph way shares is_graph partition divides
    (programs_fit graph.nodes 0 is_graph.nodes_fit).2 own_starts_below

pub bfs_ends : (root : ℕ) (graph : Graph) (way : Way) → IsGraph graph → WalksEnd (bfs_labels root) graph way
bfs_ends root graph way is_graph = walks_end 4 (bfs_fares root) graph way is_graph (programs_fit graph.nodes root is_graph.nodes_fit).0

pub sssp_ends : (root : ℕ) (graph : Graph) (way : Way) → IsGraph graph → WalksEnd (sssp_labels root) graph way
sssp_ends root graph way is_graph = walks_end 8 (sssp_fares root) graph way is_graph (programs_fit graph.nodes root is_graph.nodes_fit).1

pub cc_ends : (graph : Graph) (way : Way) → IsGraph graph → WalksEnd cc_labels graph way
cc_ends graph way is_graph = walks_end 4 cc_fares graph way is_graph (programs_fit graph.nodes 0 is_graph.nodes_fit).2
