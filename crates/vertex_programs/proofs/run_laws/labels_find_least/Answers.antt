use Rattle.vertex_programs.proofs.GraphRuns.{labels_find_least}
use Rattle.vertex_programs.proofs.run_laws.labels_find_least.Goals as goal

pub returns : goal.returns
returns c = labels_find_least
