use Rattle.lone_rounds.proofs.Rounds.{last_stays}
use Rattle.lone_rounds.proofs.laws.last_stays.Goals as goal

pub returns : goal.returns
returns g c program = last_stays g.met.P.Red.Reduction.laws (g.met.P.VertexProgram.laws program)
