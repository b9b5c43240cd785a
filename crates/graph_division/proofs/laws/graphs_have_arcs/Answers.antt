use Rattle.graph_division.proofs.GraphArcs.{graphs_have_arcs}
use Rattle.graph_division.proofs.laws.graphs_have_arcs.Goals as goal

pub returns : goal.returns
returns c = graphs_have_arcs
