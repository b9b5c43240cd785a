use Rattle.graph_model.proofs.PeelLaws.{core_is_unique}
use Rattle.graph_model.proofs.core_laws.core_is_unique.Goals as goal

pub returns : goal.returns
returns c = core_is_unique
