use Rattle.graph_model.proofs.ArcSets.{arcs_are_a_set}
use Rattle.graph_model.proofs.laws.arcs_are_a_set.Goals as goal

pub returns : goal.returns
returns c = arcs_are_a_set
