use Rattle.graph_division.proofs.FileOrder.{file_order_stays}
use Rattle.graph_division.proofs.laws.file_order_stays.Goals as goal

pub returns : goal.returns
returns c = file_order_stays
