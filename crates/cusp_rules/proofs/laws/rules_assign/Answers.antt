use Rattle.cusp_rules.proofs.Formed.{IsAssignment-masters_of}
use Rattle.cusp_rules.proofs.laws.rules_assign.Goals as goal

pub returns : goal.returns
returns c = IsAssignment-masters_of
