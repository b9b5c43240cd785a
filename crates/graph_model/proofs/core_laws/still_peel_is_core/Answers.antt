use Rattle.graph_model.proofs.PeelLaws.{still_peel_is_core}
use Rattle.graph_model.proofs.core_laws.still_peel_is_core.Goals as goal

pub returns : goal.returns
returns c = still_peel_is_core
