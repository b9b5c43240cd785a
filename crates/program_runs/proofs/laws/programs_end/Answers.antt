use Rattle.program_runs.proofs.RoundsEnd.{programs_end}
use Rattle.program_runs.proofs.laws.programs_end.Goals as goal

pub returns : goal.returns
returns c = programs_end
