use Rattle.lone_rounds.proofs.Rounds.{only_reached_change}
use Rattle.lone_rounds.proofs.laws.only_reached_change.Goals as goal

pub returns : goal.returns
returns g c program = only_reached_change g.met.P.Red.Reduction.laws (g.met.P.VertexProgram.laws program)
