use Rattle.graph_model.proofs.ArcSets.{least_order_is_free}
use Rattle.graph_model.proofs.laws.least_order_is_free.Goals as goal

pub returns : goal.returns
returns c = least_order_is_free
