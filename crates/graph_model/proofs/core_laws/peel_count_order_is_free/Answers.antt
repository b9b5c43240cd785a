use Rattle.graph_model.proofs.PeelLaws.{peel_count_order_is_free}
use Rattle.graph_model.proofs.core_laws.peel_count_order_is_free.Goals as goal

pub returns : goal.returns
returns c = peel_count_order_is_free
