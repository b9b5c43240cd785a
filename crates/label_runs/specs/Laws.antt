-- The text of a run of a program of labels is what walks call for.
use Rattle.std.specs.Prelude.{◌≤◌, ℕ, max, List, Option}
use Rattle.graph_model.specs.Graph.{Graph}
use Rattle.graph_model.specs.Arcs.{arcs_of}
use Rattle.graph_model.specs.WalkCount.{IsWalkCount}
use Rattle.graph_model.specs.declared.edge.Way.{Way}
use Rattle.graph_division.specs.Division.{whole}
use Rattle.graph_division.specs.Shares.{Share}
use Rattle.lone_rounds.specs.RoundCount.{IsRoundCount}
use Rattle.round_packets.specs.Runs.{Run}
use Rattle.run_text.specs.Told.{told_by}
use Rattle.run_text.specs.Text.{Asked, IsRunText}
use Rattle.label_runs.specs.ByWalks.{Labels, TellsWalks}

-- so it is of every run of these labels on the graph of a partition, where `bytes` are those of a label
abbrev pub TellsWhatWalksDo : Labels → (bytes : ℕ → List ℕ) → Run ℕ ℕ ℕ → Graph → Way → List Share → Type 0
TellsWhatWalksDo labels bytes run graph way shares =
    (asked : Asked) (budget : ℕ) (rounds : Option ℕ) (text : List ℕ)
    → IsRunText (IsRoundCount run.reducer run.steps run.division.nodes (whole run.division)) asked way shares (told_by bytes bytes run) budget rounds text
    → TellsWalks labels graph asked way shares budget rounds text

-- walks take some number of rounds, at most the greater of 1 and the number of nodes
abbrev pub WalksEnd : Labels → Graph → Way → Type 0
WalksEnd labels graph way =
    (rounds : ℕ) × (rounds ≤ max 1 graph.nodes) × IsWalkCount labels.fares graph.nodes (arcs_of way graph.edges) rounds
