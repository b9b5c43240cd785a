use Rattle.label_runs.proofs.LabelRuns.{bfs_ends, sssp_ends, cc_ends}
use Rattle.label_runs.proofs.laws.walks_end.Goals as goal

pub returns-clause-bfs : goal.returns-clause-bfs
returns-clause-bfs c = bfs_ends

pub returns-clause-sssp : goal.returns-clause-sssp
returns-clause-sssp c = sssp_ends

pub returns-clause-components : goal.returns-clause-components
returns-clause-components c = cc_ends
