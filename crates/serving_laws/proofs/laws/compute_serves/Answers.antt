use Rattle.serving_laws.proofs.Computing.{computed, posted}
use Rattle.serving_laws.proofs.laws.compute_serves.Goals as goal

pub returns : goal.returns
returns g c = λ program division rounds host items old new serving stands early values own. record {
  effect = computed g.P.Red.Reduction.reducer (g.P.VertexProgram.steps program) g.P.Red.Item.Word.WIDTH g.P.Shown.Word.WIDTH g.P.Red.Item.Word.bytes_of division rounds host serving.is_host serving.serves serving.is_run stands early items old new own;
  posts = posted g.P.Red.Reduction.reducer (g.P.VertexProgram.steps program) g.P.Red.Item.Word.WIDTH g.P.Shown.Word.WIDTH g.P.Red.Item.Word.bytes_of division rounds host serving.is_host serving.serves serving.is_run stands early items old new own;
}
