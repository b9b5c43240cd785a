use Rattle.graph_division.proofs.Partitions.{hosts_see_themselves}
use Rattle.graph_division.proofs.laws.hosts_see_themselves.Goals as goal

pub returns : goal.returns
returns c = hosts_see_themselves
