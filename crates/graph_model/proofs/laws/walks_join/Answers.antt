use Rattle.graph_model.proofs.WalkLaws.{IsWalk-append}
use Rattle.graph_model.proofs.laws.walks_join.Goals as goal

pub returns : goal.returns
returns c = IsWalk-append
