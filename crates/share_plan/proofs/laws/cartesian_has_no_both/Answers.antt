use Rattle.share_plan.proofs.Lacks.{cartesian_has_no_both}
use Rattle.share_plan.proofs.laws.cartesian_has_no_both.Goals as goal

pub returns : goal.returns
returns c = cartesian_has_no_both
