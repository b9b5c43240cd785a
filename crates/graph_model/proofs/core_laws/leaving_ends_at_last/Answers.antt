use Rattle.graph_model.proofs.PeelLaws.{leaving_ends_at_last}
use Rattle.graph_model.proofs.core_laws.leaving_ends_at_last.Goals as goal

pub returns : goal.returns
returns c = leaving_ends_at_last
