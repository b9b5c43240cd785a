use Rattle.lone_rounds.proofs.ArcOrder.{round_count_order_is_free}
use Rattle.lone_rounds.proofs.laws.round_count_order_is_free.Goals as goal

pub returns : goal.returns
returns g c program = round_count_order_is_free g.met.P.Red.Reduction.laws (g.met.P.VertexProgram.laws program)
