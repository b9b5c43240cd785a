use Rattle.graph_model.proofs.PeelLaws.{peeling_ends}
use Rattle.graph_model.proofs.core_laws.peeling_ends.Goals as goal

pub returns : goal.returns
returns c = peeling_ends
