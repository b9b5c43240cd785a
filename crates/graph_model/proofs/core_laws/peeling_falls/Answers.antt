use Rattle.graph_model.proofs.PeelLaws.{peeling_falls}
use Rattle.graph_model.proofs.core_laws.peeling_falls.Goals as goal

pub returns : goal.returns
returns c = peeling_falls
