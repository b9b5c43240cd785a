use Rattle.graph_model.proofs.PeelLaws.{last_peel_is_core}
use Rattle.graph_model.proofs.core_laws.last_peel_is_core.Goals as goal

pub returns : goal.returns
returns c = last_peel_is_core
