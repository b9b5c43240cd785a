use Rattle.graph_model.proofs.PeelLaws.{peel_count_is_unique}
use Rattle.graph_model.proofs.core_laws.peel_count_is_unique.Goals as goal

pub returns : goal.returns
returns c = peel_count_is_unique
