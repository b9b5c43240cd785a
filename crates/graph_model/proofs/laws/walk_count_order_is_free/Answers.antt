use Rattle.graph_model.proofs.ArcSets.{walk_count_order_is_free}
use Rattle.graph_model.proofs.laws.walk_count_order_is_free.Goals as goal

pub returns : goal.returns
returns c = walk_count_order_is_free
