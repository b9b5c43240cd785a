use Rattle.graph_division.proofs.Partitions.{partitions_divide}
use Rattle.graph_division.proofs.laws.partitions_divide.Goals as goal

pub returns : goal.returns
returns c = partitions_divide
