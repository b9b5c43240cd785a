use Rattle.std.proofs.Common.{subst}
use Rattle.cusp_rules.specs.Assignment.{Assignment, IsAssignment}
use Rattle.cusp_rules.proofs.Holds.{IsAssignment-of}
use Rattle.cusp_rules.proofs.masters.Masters.try_clone.Goals as goal

pub returns-in_err-from_slice-clause-facts : goal.returns-in_err-from_slice-clause-facts
returns-in_err-from_slice-clause-facts c =
    let P : Assignment → Type 0 = IsAssignment in
    subst P c.self.view_is (IsAssignment-of c.self.inside.bounds.items c.self.invariant)

pub returns-clause-facts : goal.returns-clause-facts
returns-clause-facts c =
    let P : Assignment → Type 0 = IsAssignment in
    subst P c.self.view_is (IsAssignment-of c.self.inside.bounds.items c.self.invariant)
