use Rattle.graph_division.proofs.PrunedLists.{lists_rise}
use Rattle.graph_division.proofs.laws.lists_rise.Goals as goal

pub returns : goal.returns
returns c = lists_rise
