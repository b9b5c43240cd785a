use Rattle.vertex_programs.proofs.GraphRuns.{bfs_finds, sssp_finds, cc_finds}
use Rattle.vertex_programs.proofs.run_laws.programs_find_least.Goals as goal

pub returns-clause-bfs : goal.returns-clause-bfs
returns-clause-bfs c program = bfs_finds program.root

pub returns-clause-sssp : goal.returns-clause-sssp
returns-clause-sssp c program = sssp_finds program.root

pub returns-clause-components : goal.returns-clause-components
returns-clause-components c program = cc_finds
