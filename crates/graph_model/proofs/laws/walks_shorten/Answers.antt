use Rattle.graph_model.proofs.ShortWalks.{Gives_shorten}
use Rattle.graph_model.proofs.laws.walks_shorten.Goals as goal

pub returns : goal.returns
returns c = Gives_shorten
