use Rattle.share_plan.proofs.Partitions.{shares_are_partition}
use Rattle.share_plan.proofs.laws.shares_are_partition.Goals as goal

pub returns : goal.returns
returns c = shares_are_partition
