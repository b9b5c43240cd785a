use Rattle.round_packets.proofs.Absorbing.{kept_is_no_news}
use Rattle.round_packets.proofs.laws.kept_is_no_news.Goals as goal

pub returns : goal.returns
returns g c = kept_is_no_news _ _ _
