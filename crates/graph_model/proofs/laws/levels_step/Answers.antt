use Rattle.graph_model.proofs.LeastLaws.{Gives_step}
use Rattle.graph_model.proofs.laws.levels_step.Goals as goal

pub returns : goal.returns
returns c = Gives_step
