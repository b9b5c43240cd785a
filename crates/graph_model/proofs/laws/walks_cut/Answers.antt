use Rattle.graph_model.proofs.WalkLaws.{IsWalk_cut}
use Rattle.graph_model.proofs.laws.walks_cut.Goals as goal

pub returns : goal.returns
returns c = IsWalk_cut
