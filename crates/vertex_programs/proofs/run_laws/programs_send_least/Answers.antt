use Rattle.vertex_programs.proofs.GraphRuns.{bfs_sends, sssp_sends, cc_sends}
use Rattle.vertex_programs.proofs.run_laws.programs_send_least.Goals as goal

pub returns-clause-bfs : goal.returns-clause-bfs
returns-clause-bfs c program = bfs_sends program.root

pub returns-clause-sssp : goal.returns-clause-sssp
returns-clause-sssp c program = sssp_sends program.root

pub returns-clause-components : goal.returns-clause-components
returns-clause-components c program = cc_sends
