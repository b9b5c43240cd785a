use Rattle.share_plan.proofs.Lacks.{dest_has_no_in}
use Rattle.share_plan.proofs.laws.dest_has_no_in.Goals as goal

pub returns : goal.returns
returns c = dest_has_no_in
