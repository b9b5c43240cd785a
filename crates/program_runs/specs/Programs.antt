-- What the runs of a program are on a whole graph: how many rounds they take, and what they tell.
use Rattle.std.specs.Prelude.{◌≤◌, ◌+◌, ℕ, List, Option, Some, None}
use Rattle.graph_model.specs.Graph.{Graph}
use Rattle.graph_model.specs.Arcs.{arcs_of}
use Rattle.graph_model.specs.Least.{bfs_fares, sssp_fares, cc_fares}
use Rattle.graph_model.specs.Peeling.{IsPeelCount}
use Rattle.graph_model.specs.WalkCount.{IsWalkCount}
use Rattle.graph_model.specs.declared.edge.Way.{Way}
use Rattle.graph_division.specs.Shares.{Share}
use Rattle.run_text.specs.Text.{Asked}
use Rattle.label_runs.specs.ByWalks.{bfs_labels, sssp_labels, cc_labels, TellsWalks}
use Rattle.core_runs.specs.ByPeeling.{TellsPeeling}
use Rattle.program_runs.specs.declared.program.Program.{Program}
use Rattle.program_runs.specs.declared.program.Program.TheVariants.{Bfs, Sssp, Cc, Kcore}

-- so many rounds are those of its walks, or of its peeling
abbrev pub TakesRounds : Program → Graph → Way → (rounds : ℕ) → Type 0
TakesRounds (Bfs root) graph way rounds = IsWalkCount (bfs_fares root) graph.nodes (arcs_of way graph.edges) rounds
TakesRounds (Sssp root) graph way rounds = IsWalkCount (sssp_fares root) graph.nodes (arcs_of way graph.edges) rounds
TakesRounds Cc graph way rounds = IsWalkCount cc_fares graph.nodes (arcs_of way graph.edges) rounds
TakesRounds (Kcore k) graph way rounds = IsPeelCount k graph.nodes (arcs_of way graph.edges) rounds

-- there are so many rounds, at most one more than there are nodes
abbrev pub ProgramEnds : Program → Graph → Way → Type 0
ProgramEnds program graph way = (rounds : ℕ) × (rounds ≤ graph.nodes + 1) × TakesRounds program graph way rounds

-- The text of its run on a graph that is divided among hosts: after how many rounds it ends, if it does within
-- those that it may have, and what it tells.
abbrev pub TellsRun : Program → Graph → Asked → Way → List Share → (budget : ℕ) → (rounds : Option ℕ) → (text : List ℕ) → Type 0
TellsRun (Bfs root) graph asked way shares budget rounds text = TellsWalks (bfs_labels root) graph asked way shares budget rounds text
TellsRun (Sssp root) graph asked way shares budget rounds text = TellsWalks (sssp_labels root) graph asked way shares budget rounds text
TellsRun Cc graph asked way shares budget rounds text = TellsWalks cc_labels graph asked way shares budget rounds text
TellsRun (Kcore k) graph asked way shares budget rounds text = TellsPeeling k graph asked way shares budget rounds text

-- the root, where it has one
abbrev pub root_of : Program → Option ℕ
root_of (Bfs root) = Some root
root_of (Sssp root) = Some root
root_of Cc = None
root_of (Kcore k) = None
