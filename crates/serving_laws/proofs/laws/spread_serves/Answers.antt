use Rattle.serving_laws.proofs.Spreading.{spread_all, posted}
use Rattle.serving_laws.proofs.laws.spread_serves.Goals as goal

pub returns : goal.returns
returns g c = λ program division rounds host states next items awake_next old new serving stands ready after own posts. record {
  effect = spread_all g.P.Red.Reduction.reducer (g.P.VertexProgram.steps program) g.P.Red.Item.Word.WIDTH g.P.Shown.Word.WIDTH g.P.Shown.Word.bytes_of division rounds host serving.is_host serving.serves serving.is_run stands ready states next items awake_next old new after own;
  posts = posted g.P.Red.Reduction.reducer (g.P.VertexProgram.steps program) g.P.Red.Item.Word.WIDTH g.P.Shown.Word.WIDTH g.P.Shown.Word.bytes_of division rounds host serving.is_host serving.serves serving.is_run stands ready states next items awake_next old new after own posts;
}
