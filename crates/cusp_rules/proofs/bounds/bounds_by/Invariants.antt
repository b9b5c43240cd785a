use Rattle.cusp_rules.specs.Blocks.{IsCut, quotient_of}
use Rattle.cusp_rules.specs.Formulas.{vertices_of}
use Rattle.cusp_rules.proofs.bounds.bounds_by.Given as goal

abbrev pub invariant-loop-host : goal.invariant-loop-host
invariant-loop-host l = IsCut (quotient_of l.rule l.block l.starts) (vertices_of l.starts) l.host l.bounds.items
