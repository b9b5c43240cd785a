-- The text of a run of k-core is what peeling calls for.
use Rattle.std.specs.Prelude.{◌≤◌, ◌+◌, ℕ, List, Option}
use Rattle.graph_model.specs.Graph.{Graph}
use Rattle.graph_model.specs.Arcs.{arcs_of}
use Rattle.graph_model.specs.Peeling.{IsPeelCount}
use Rattle.graph_model.specs.declared.edge.Way.{Way}
use Rattle.graph_division.specs.Division.{whole}
use Rattle.graph_division.specs.Shares.{Share}
use Rattle.lone_rounds.specs.RoundCount.{IsRoundCount}
use Rattle.kcore_program.specs.declared.core_state.CoreState.{CoreState}
use Rattle.round_packets.specs.Runs.{Run}
use Rattle.run_text.specs.Told.{told_by}
use Rattle.run_text.specs.Text.{Asked, IsRunText}
use Rattle.core_runs.specs.ByPeeling.{TellsPeeling}

-- so it is of every run of k-core on the graph of a partition, where these are the bytes of a tally and of
-- a mark
abbrev pub TellsWhatPeelingDoes : (k : ℕ) → (tally_bytes mark_bytes : ℕ → List ℕ) → Run ℕ CoreState ℕ → Graph → Way → List Share → Type 0
TellsWhatPeelingDoes k tally_bytes mark_bytes run graph way shares =
    (asked : Asked) (budget : ℕ) (rounds : Option ℕ) (text : List ℕ)
    → IsRunText (IsRoundCount run.reducer run.steps run.division.nodes (whole run.division)) asked way shares (told_by tally_bytes mark_bytes run) budget rounds text
    → TellsPeeling k graph asked way shares budget rounds text

-- peeling takes some number of rounds, at most one more than there are nodes
abbrev pub PeelingEndsOn : (k : ℕ) → Graph → Way → Type 0
PeelingEndsOn k graph way =
    (rounds : ℕ) × (rounds ≤ graph.nodes + 1) × IsPeelCount k graph.nodes (arcs_of way graph.edges) rounds
