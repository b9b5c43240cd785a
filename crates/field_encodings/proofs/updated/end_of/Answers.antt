use Rattle.field_encodings.proofs.Runs.{first_last}
use Rattle.std.proofs.Common.{arith}
use Rattle.field_encodings.proofs.updated.end_of.Goals as goal

pub returns-clause-order : goal.returns-clause-order
returns-clause-order c = omega (arith, first_last c.args.locals.now c.requires.rise c.requires.some)
