use Rattle.graph_division.proofs.PrunedLists.{written_is_reduced}
use Rattle.graph_division.proofs.laws.written_is_reduced.Goals as goal

pub returns : goal.returns
returns c = written_is_reduced
