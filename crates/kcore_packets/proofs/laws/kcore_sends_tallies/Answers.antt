use Rattle.kcore_packets.proofs.GraphRuns.{sends_tallies}
use Rattle.kcore_packets.proofs.laws.kcore_sends_tallies.Goals as goal

pub returns : goal.returns
returns c program graph way division is_graph divides = sends_tallies program.k graph way division is_graph divides
