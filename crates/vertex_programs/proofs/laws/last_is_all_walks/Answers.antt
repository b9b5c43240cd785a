use Rattle.vertex_programs.proofs.Ending.{last_is_all_walks}
use Rattle.vertex_programs.proofs.laws.last_is_all_walks.Goals as goal

pub returns : goal.returns
returns c = last_is_all_walks
