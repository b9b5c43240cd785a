use Rattle.edge_owner.proofs.Places.{both_ways-master}
use Rattle.edge_owner.proofs.laws.both_ways_is_master.Goals as goal

pub returns : goal.returns
returns c = λ hosts host m to from outdegree other_outdegree here out into. both_ways-master hosts host m to from here out into
