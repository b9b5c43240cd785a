use Rattle.share_plan.proofs.Lacks.{source_has_no_out}
use Rattle.share_plan.proofs.laws.source_has_no_out.Goals as goal

pub returns : goal.returns
returns c = source_has_no_out
