use Rattle.serving_laws.proofs.Taking.{took_reduce}
use Rattle.serving_laws.proofs.laws.take_reduce_serves.Goals as goal

pub returns : goal.returns
returns g c = λ program division rounds from host items serving stands there own.
    took_reduce g.P.Red.Reduction.reducer (g.P.VertexProgram.steps program) g.P.Red.Item.Word.WIDTH g.P.Shown.Word.WIDTH division rounds from host serving.is_host serving.serves stands there items own
