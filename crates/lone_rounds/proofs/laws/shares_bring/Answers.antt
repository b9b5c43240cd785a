use Rattle.lone_rounds.proofs.Rounds.{shares_bring}
use Rattle.lone_rounds.proofs.laws.shares_bring.Goals as goal

pub returns : goal.returns
returns g c program = shares_bring g.met.P.Red.Reduction.laws (g.met.P.VertexProgram.laws program)
