use Rattle.serving_laws.proofs.Taking.{took_broadcast}
use Rattle.serving_laws.proofs.laws.take_broadcast_serves.Goals as goal

pub returns : goal.returns
returns g c = λ program division rounds from host next items awake_next serving stands there values own.
    took_broadcast g.P.Red.Reduction.reducer (g.P.VertexProgram.steps program) g.P.Red.Item.Word.WIDTH g.P.Shown.Word.WIDTH division rounds from host serving.is_host serving.serves stands there
    serving.is_run g.P.Shown.PartialEq.eq g.met.P.Shown.Word.laws.eq_is_same values next items awake_next own
