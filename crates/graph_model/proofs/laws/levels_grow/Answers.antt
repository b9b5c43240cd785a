use Rattle.graph_model.proofs.LeastLaws.{Gives_more}
use Rattle.graph_model.proofs.laws.levels_grow.Goals as goal

pub returns : goal.returns
returns c = Gives_more
