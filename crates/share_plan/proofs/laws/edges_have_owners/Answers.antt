use Rattle.share_plan.proofs.OwnersLaws.{edges_have_owners}
use Rattle.share_plan.proofs.laws.edges_have_owners.Goals as goal

pub returns : goal.returns
returns c = edges_have_owners
