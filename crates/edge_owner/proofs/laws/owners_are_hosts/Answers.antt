use Rattle.edge_owner.proofs.Places.{owner-below}
use Rattle.edge_owner.proofs.laws.owners_are_hosts.Goals as goal

pub returns : goal.returns
returns c = owner-below
