use Rattle.vertex_programs.proofs.GraphRuns.{labels_are_sent}
use Rattle.vertex_programs.proofs.run_laws.labels_are_sent.Goals as goal

pub returns : goal.returns
returns c = labels_are_sent
