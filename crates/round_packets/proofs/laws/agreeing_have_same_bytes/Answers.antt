use Rattle.round_packets.proofs.SameBytes.{same_bytes}
use Rattle.round_packets.proofs.laws.agreeing_have_same_bytes.Goals as goal

pub returns : goal.returns
returns g c = same_bytes _
