use Rattle.graph_model.specs.Arcs.{arcs_of}
use Rattle.graph_model.proofs.PeelLaws.{peeling_ends}
use Rattle.core_runs.proofs.laws.peeling_ends.Goals as goal

pub returns : goal.returns
returns c k graph way = peeling_ends k graph.nodes (arcs_of way graph.edges)
