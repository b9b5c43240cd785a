use Rattle.share_plan.proofs.Partitions.{arcs_are_shared}
use Rattle.share_plan.proofs.laws.arcs_are_shared.Goals as goal

pub returns : goal.returns
returns c = arcs_are_shared
