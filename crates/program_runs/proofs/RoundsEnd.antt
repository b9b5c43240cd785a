-- The rounds of every program end.
use Rattle.std.proofs.Common.{ℕ, ◌+◌, ◌≤◌, max, arith}
use Rattle.graph_model.specs.Graph.{Graph, IsGraph}
use Rattle.graph_model.specs.Arcs.{arcs_of}
use Rattle.graph_model.specs.declared.edge.Way.{Way}
use Rattle.graph_model.proofs.PeelLaws.{peeling_ends}
use Rattle.label_runs.proofs.LabelRuns.{bfs_ends, sssp_ends, cc_ends}
use Rattle.program_runs.specs.declared.program.Program.{Program}
use Rattle.program_runs.specs.declared.program.Program.TheVariants.{Bfs, Sssp, Cc, Kcore}
use Rattle.program_runs.specs.Programs.{ProgramEnds}

-- the greater of 1 and a number is at most one more than that
within_one_more : (rounds nodes : ℕ) → rounds ≤ max 1 nodes → rounds ≤ nodes + 1
within_one_more rounds nodes few = grind arith

pub programs_end : (program : Program) (graph : Graph) (way : Way) → IsGraph graph → ProgramEnds program graph way
programs_end (Bfs root) graph way fact = let end = bfs_ends root graph way fact in (end.0, within_one_more end.0 graph.nodes end.1, end.2)
programs_end (Sssp root) graph way fact = let end = sssp_ends root graph way fact in (end.0, within_one_more end.0 graph.nodes end.1, end.2)
programs_end Cc graph way fact = let end = cc_ends graph way fact in (end.0, within_one_more end.0 graph.nodes end.1, end.2)
programs_end (Kcore k) graph way fact = peeling_ends k graph.nodes (arcs_of way graph.edges)
