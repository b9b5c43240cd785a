use Rattle.share_plan.proofs.OwnersLaws.{plans_tell_owners}
use Rattle.share_plan.proofs.laws.plans_tell_owners.Goals as goal

pub returns : goal.returns
returns c = plans_tell_owners
