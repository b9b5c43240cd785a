-- The text of a run of k-core, in the words of peeling.
use Rattle.std.proofs.Common.{◌≡◌, ℕ, suc, ◌<◌, Bool, true, false, cond, List, [], ◌∷◌, refl, arith}
use Rattle.std.specs.Int.{w32, to_le_bytes}
use Rattle.list_laws.specs.LittleEndian.{le_bytes}
use Rattle.list_laws.proofs.WholeNumbers.{to_le_bytes-le}
use Rattle.graph_model.specs.Graph.{Graph, IsGraph}
use Rattle.graph_model.specs.Arcs.{Arc, arcs_of}
use Rattle.graph_model.specs.Core.{IsCore}
use Rattle.graph_model.specs.Peeling.{peel, IsPeelCount}
use Rattle.graph_model.specs.declared.edge.Way.{Way}
use Rattle.graph_model.proofs.PeelLaws.{core_exists}
use Rattle.graph_division.specs.DivisionOf.{IsDivisionOf}
use Rattle.graph_division.specs.Shares.{Share}
use Rattle.graph_division.specs.Partition.{division_of}
use Rattle.graph_division.specs.Division.{Division, whole}
use Rattle.lone_rounds.specs.RoundCount.{IsRoundCount}
use Rattle.round_packets.specs.RunPackets.{reduce_packet, broadcast_packet}
use Rattle.cluster_laws.specs.Channels.{Leg, payload, payload_of}
use Rattle.cluster_laws.specs.Channels.Leg.{reduce, broadcast}
use Rattle.kcore_packets.specs.Packets.{tally_packet, leaving_packet}
use Rattle.kcore_packets.specs.Laws.{FindsCore, SendsTallies}
use Rattle.kcore_packets.proofs.Closed.{kcore_run}
use Rattle.kcore_packets.proofs.GraphRuns.{finds_core, sends_tallies}
use Rattle.run_text.specs.Told.{told_by}
use Rattle.run_text.proofs.SameText.{TellSame, on_channels, same_run_text}
use Rattle.run_text.proofs.SamePackets.{same_packet}
use Rattle.core_runs.specs.ByPeeling.{peel_payload, told_by_peeling}
use Rattle.core_runs.specs.Laws.{TellsWhatPeelingDoes}

-- the byte of a mark
abbrev mark_byte : ℕ → List ℕ
mark_byte mark = mark ∷ []

byte_of_mark : (stays : Bool) → mark_byte (cond stays 0 1) ≡ le_bytes 1 (cond stays 0 1)
unfolding le_bytes
byte_of_mark true = refl
byte_of_mark false = refl

module _ (k : ℕ) (division : Division) where
  -- what is sent on a leg is what peeling calls for
  same_payload : (arcs : List Arc) → SendsTallies k arcs (kcore_run k division) → (rounds : ℕ) (leg : Leg) (from to : ℕ) → from < division.hosts →
      payload_of (to_le_bytes w32) mark_byte (kcore_run k division) rounds leg from to ≡ peel_payload k arcs division rounds leg from to
  same_payload arcs sends rounds reduce from to there =
      same_packet 4 (to_le_bytes w32) (le_bytes 4) (reduce_packet (kcore_run k division) rounds from to) (tally_packet k arcs division rounds from to)
      (λ v. to_le_bytes-le w32 ((tally_packet k arcs division rounds from to).value v)) (sends.reduces rounds from to there)
  same_payload arcs sends rounds broadcast from to there =
      same_packet 1 mark_byte (le_bytes 1) (broadcast_packet (kcore_run k division) rounds from to) (leaving_packet k arcs division rounds from to)
      (λ v. byte_of_mark (peel k division.nodes arcs (suc rounds) v)) (sends.broadcasts rounds from to)

  -- a run tells what peeling calls for
  tells_same : (graph : Graph) (way : Way) (core : ℕ → Bool) → IsDivisionOf graph way division → IsCore k graph.nodes (arcs_of way graph.edges) core
      → FindsCore k graph way (kcore_run k division) → SendsTallies k (arcs_of way graph.edges) (kcore_run k division)
      → TellSame division (IsRoundCount (kcore_run k division).reducer (kcore_run k division).steps division.nodes (whole division)) (told_by (to_le_bytes w32) mark_byte (kcore_run k division)) (told_by_peeling k (arcs_of way graph.edges) division core)
  tells_same graph way core divides is_core finds sends =
      let run = kcore_run k division in
      let arcs = arcs_of way graph.edges in
      record {
        payloads = λ rounds.
            on_channels run (λ channel. payload (to_le_bytes w32) mark_byte run rounds channel ≡ peel_payload k arcs division rounds channel.leg channel.from channel.to)
            (λ channel there. same_payload arcs sends rounds channel.leg channel.from channel.to there);
        answers = λ rounds v count below.
            let node : v < graph.nodes = omega (arith, below, divides.nodes) in
            finds.at_last core rounds rounds v is_core count (omega arith) node;
      }

-- so its text is that of peeling
pub tells_peeling : (k : ℕ) (graph : Graph) (way : Way) (shares : List Share) → IsGraph graph → IsDivisionOf graph way (division_of way shares)
    → TellsWhatPeelingDoes k (to_le_bytes w32) mark_byte (kcore_run k (division_of way shares)) graph way shares
tells_peeling k graph way shares is_graph divides asked budget rounds text is =
    let division = division_of way shares in
    let arcs = arcs_of way graph.edges in
    let run = kcore_run k division in
    let finds = finds_core k graph way division is_graph divides in
    let sends = sends_tallies k graph way division is_graph divides in
    let found = core_exists k graph.nodes arcs in
    record {
      core = found.0;
      is_core = found.1;
      is_text =
          same_run_text asked way shares (IsRoundCount run.reducer run.steps run.division.nodes (whole run.division)) (told_by (to_le_bytes w32) mark_byte run) (told_by_peeling k arcs division found.0)
          (tells_same k division graph way found.0 divides found.1 finds sends) (IsPeelCount k graph.nodes arcs) finds.counts budget rounds text is;
    }
