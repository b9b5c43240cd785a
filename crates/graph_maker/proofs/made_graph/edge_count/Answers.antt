use Rattle.std.proofs.Common.{arith}
use Rattle.graph_maker.proofs.Made.{sum_by-degree_of}
use Rattle.graph_maker.proofs.made_graph.edge_count.Goals as goal

pub returns : goal.returns
returns c = omega (arith, sum_by-degree_of c.args.size, c.div_ceil.ensures)
