use Rattle.lone_rounds.proofs.RoundCount.{round_count_is_unique}
use Rattle.lone_rounds.proofs.laws.round_count_is_unique.Goals as goal

pub returns : goal.returns
returns g c program = round_count_is_unique g.P.Red.Reduction.reducer (g.P.VertexProgram.steps program)
