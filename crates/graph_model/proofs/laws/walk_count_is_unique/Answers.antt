use Rattle.graph_model.proofs.ArcSets.{walk_count_is_unique}
use Rattle.graph_model.proofs.laws.walk_count_is_unique.Goals as goal

pub returns : goal.returns
returns c = walk_count_is_unique
