use Rattle.graph_model.proofs.PeelLaws.{core_order_is_free}
use Rattle.graph_model.proofs.core_laws.core_order_is_free.Goals as goal

pub returns : goal.returns
returns c = core_order_is_free
