use Rattle.graph_model.proofs.PeelLaws.{peeling_stays}
use Rattle.graph_model.proofs.core_laws.peeling_stays.Goals as goal

pub returns : goal.returns
returns c = peeling_stays
