use Rattle.graph_division.proofs.Partitions.{mirrors_are_of_no_way}
use Rattle.graph_division.proofs.laws.mirrors_are_of_no_way.Goals as goal

pub returns : goal.returns
returns c = mirrors_are_of_no_way
