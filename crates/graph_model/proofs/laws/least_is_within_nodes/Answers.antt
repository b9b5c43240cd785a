use Rattle.graph_model.proofs.ShortWalks.{IsLeast_within}
use Rattle.graph_model.proofs.laws.least_is_within_nodes.Goals as goal

pub returns : goal.returns
returns c = IsLeast_within
