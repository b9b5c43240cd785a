use Rattle.graph_model.proofs.PeelLaws.{core_exists}
use Rattle.graph_model.proofs.core_laws.core_exists.Goals as goal

pub returns : goal.returns
returns c = core_exists
