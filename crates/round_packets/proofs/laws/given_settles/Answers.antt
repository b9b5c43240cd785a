use Rattle.round_packets.proofs.Given.{given_settles}
use Rattle.round_packets.proofs.laws.given_settles.Goals as goal

pub returns : goal.returns
returns g c = given_settles _ _ _
