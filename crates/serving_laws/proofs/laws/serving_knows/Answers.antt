use Rattle.serving_laws.proofs.Knowing.{serving_knows}
use Rattle.serving_laws.proofs.laws.serving_knows.Goals as goal

pub returns : goal.returns
returns g c = serving_knows _ _ _ _
