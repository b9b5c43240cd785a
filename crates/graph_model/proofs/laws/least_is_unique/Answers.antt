use Rattle.graph_model.proofs.LeastLaws.{IsLeast_unique}
use Rattle.graph_model.proofs.laws.least_is_unique.Goals as goal

pub returns : goal.returns
returns c = IsLeast_unique
