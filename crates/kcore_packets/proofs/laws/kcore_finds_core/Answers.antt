use Rattle.kcore_packets.proofs.GraphRuns.{finds_core}
use Rattle.kcore_packets.proofs.laws.kcore_finds_core.Goals as goal

pub returns : goal.returns
returns c program graph way division is_graph divides = finds_core program.k graph way division is_graph divides
