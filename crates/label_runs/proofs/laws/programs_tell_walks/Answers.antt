use Rattle.label_runs.proofs.LabelRuns.{bfs_tells, sssp_tells, cc_tells}
use Rattle.label_runs.proofs.laws.programs_tell_walks.Goals as goal

pub returns-clause-bfs : goal.returns-clause-bfs
returns-clause-bfs c program = bfs_tells program.root

pub returns-clause-sssp : goal.returns-clause-sssp
returns-clause-sssp c program = sssp_tells program.root

pub returns-clause-components : goal.returns-clause-components
returns-clause-components c program = cc_tells
