-- The text of a run over hosts: packets, answers, and a report.
use Rattle.std.specs.Prelude.{◌≤◌, ◌<◌, ◌*◌, ◌+◌, ℕ, suc, Bool, true, false, List, [], ◌++◌, length, Option, Some, None}
use Rattle.std.specs.List.{flat_map, range_with_len, sum_by}
use Rattle.answer_writer.specs.declared.report.Report.{Report}
use Rattle.answer_writer.specs.Lines.{answer_line}
use Rattle.answer_writer.specs.Report.{report_lines}
use Rattle.answer_writer.specs.Trace.{trace_line}
use Rattle.graph_model.specs.declared.edge.Way.{Way}
use Rattle.graph_division.specs.Division.{Division}
use Rattle.graph_division.specs.Shares.{Share}
use Rattle.graph_division.specs.Partition.{division_of}
use Rattle.graph_division.specs.Classes.{has_out, has_in, has_both, no_mirror, mirror_count}
use Rattle.cluster_laws.specs.Channels.{Channel, channels}
use Rattle.cluster_laws.specs.Tally.{packets_of}
use Rattle.round_driver.specs.ClusterState.{leg_in_table}
use Rattle.run_text.specs.Told.{Told}

-- what a run is asked to tell besides the answers: its packets, and a report
pub record Asked : Type 0 where
  pub trace : Bool
  pub report : Bool

-- a text where it is asked for
abbrev pub if_asked : Bool → List ℕ → List ℕ
if_asked true text = text
if_asked false text = []

module _ (division : Division) (told : Told) (rounds : ℕ) where
  -- the line of a packet of the round after so many
  abbrev pub packet_line : Channel → List ℕ
  packet_line channel =
      trace_line (suc rounds) (record { leg = leg_in_table channel.leg; from = channel.from; to = channel.to; room = 0 }) (told.payload rounds channel)

  -- the lines of its packets, by leg, sender and receiver
  abbrev pub round_lines : List ℕ
  round_lines = flat_map packet_line (channels division)

  -- the bytes of its packets
  abbrev pub round_bytes : ℕ
  round_bytes = sum_by (λ channel. length (told.payload rounds channel)) (channels division)

module _ (division : Division) (told : Told) (rounds : ℕ) where
  -- the lines of all packets of so many rounds
  abbrev pub trace_lines : List ℕ
  trace_lines = flat_map (round_lines division told) (range_with_len 0 rounds)

  -- the bytes of all packets of so many rounds
  abbrev pub bytes_sent : ℕ
  bytes_sent = sum_by (round_bytes division told) (range_with_len 0 rounds)

  -- each vertex with its answer after so many rounds
  abbrev pub answer_lines : List ℕ
  answer_lines = flat_map (λ v. answer_line v (told.answer rounds v)) (range_with_len 0 division.nodes)

module _ (asked : Asked) (way : Way) (shares : List Share) (told : Told) (rounds : ℕ) where
  -- what so many rounds came to, and what the partition's mirrors lack
  abbrev pub report_of : Report
  report_of = record {
    rounds = rounds;
    packets = rounds * packets_of (division_of way shares);
    bytes = bytes_sent (division_of way shares) told rounds;
    mirrors = mirror_count shares;
    no_out = no_mirror has_out shares;
    no_in = no_mirror has_in shares;
    no_both = no_mirror has_both shares;
  }

  -- the packets of so many rounds, where they are asked for
  abbrev pub packets_text : List ℕ
  packets_text = if_asked asked.trace (trace_lines (division_of way shares) told rounds)

  -- then the answers after them, and the report, where it is asked for
  abbrev pub whole_text : List ℕ
  whole_text = packets_text ++ (answer_lines (division_of way shares) told rounds ++ if_asked asked.report (report_lines report_of))

-- the most rounds that a run may have: as many as it is given, or one more than there are vertices
abbrev pub budget_of : Option ℕ → (nodes : ℕ) → ℕ
budget_of None nodes = nodes + 1
budget_of (Some rounds) nodes = rounds

-- The text of a run that may have so many rounds, where `IsCount` says how many it takes. It ends after
-- these, or it is still going on after all that it may have, and then its packets alone are told.
pub data IsRunText (IsCount : ℕ → Type 0) (asked : Asked) (way : Way) (shares : List Share) (told : Told) (budget : ℕ) : Option ℕ → List ℕ → Type 0 where
  ends : (rounds : ℕ) → IsCount rounds → rounds ≤ budget → IsRunText IsCount asked way shares told budget (Some rounds) (whole_text asked way shares told rounds)
  goes_on : ((rounds : ℕ) → IsCount rounds → budget < rounds) → IsRunText IsCount asked way shares told budget None (packets_text asked way shares told budget)
