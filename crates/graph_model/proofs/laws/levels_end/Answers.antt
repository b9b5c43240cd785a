use Rattle.graph_model.proofs.LeastLaws.{Gives_all}
use Rattle.graph_model.proofs.laws.levels_end.Goals as goal

pub returns : goal.returns
returns c = Gives_all
