use Rattle.graph_model.proofs.WalkLaws.{IsWalk_last}
use Rattle.graph_model.proofs.laws.walks_end_by_arc.Goals as goal

pub returns : goal.returns
returns c = IsWalk_last
