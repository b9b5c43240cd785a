use Rattle.round_packets.proofs.Carried.{entries_are_carried}
use Rattle.round_packets.proofs.laws.entries_are_carried.Goals as goal

pub returns : goal.returns
returns g c = entries_are_carried _
