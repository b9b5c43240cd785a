use Rattle.vertex_programs.proofs.Ending.{counts_agree}
use Rattle.vertex_programs.proofs.laws.counts_agree.Goals as goal

pub returns : goal.returns
returns c = counts_agree
