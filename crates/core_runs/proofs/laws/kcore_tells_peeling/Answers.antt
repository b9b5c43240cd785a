use Rattle.core_runs.proofs.CoreRuns.{tells_peeling}
use Rattle.core_runs.proofs.laws.kcore_tells_peeling.Goals as goal

pub returns : goal.returns
returns c program graph way shares is_graph partition divides = tells_peeling program.k graph way shares is_graph divides
