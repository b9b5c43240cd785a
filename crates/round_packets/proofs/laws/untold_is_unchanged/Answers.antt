use Rattle.round_packets.proofs.Carried.{untold_is_unchanged}
use Rattle.round_packets.proofs.laws.untold_is_unchanged.Goals as goal

pub returns : goal.returns
returns g c = untold_is_unchanged _ _ _
