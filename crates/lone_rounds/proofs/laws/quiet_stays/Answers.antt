use Rattle.lone_rounds.proofs.Rounds.{quiet_stays}
use Rattle.lone_rounds.proofs.laws.quiet_stays.Goals as goal

pub returns : goal.returns
returns g c program = quiet_stays g.met.P.Red.Reduction.laws (g.met.P.VertexProgram.laws program)
