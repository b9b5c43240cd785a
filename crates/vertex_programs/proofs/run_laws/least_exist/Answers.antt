use Rattle.vertex_programs.proofs.GraphRuns.{least_exist}
use Rattle.vertex_programs.proofs.run_laws.least_exist.Goals as goal

pub returns : goal.returns
returns c = least_exist
