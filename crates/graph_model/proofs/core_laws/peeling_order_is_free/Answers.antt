use Rattle.graph_model.proofs.PeelLaws.{peeling_order_is_free}
use Rattle.graph_model.proofs.core_laws.peeling_order_is_free.Goals as goal

pub returns : goal.returns
returns c = peeling_order_is_free
