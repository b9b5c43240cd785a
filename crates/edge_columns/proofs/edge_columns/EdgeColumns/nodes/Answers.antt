use Rattle.std.proofs.Common.{subst}
use Rattle.graph_model.specs.Graph.{IsGraph}
use Rattle.edge_columns.proofs.ColumnLaws.{columns_graph}
use Rattle.edge_columns.proofs.edge_columns.EdgeColumns.nodes.Goals as goal

pub returns-clause-facts : goal.returns-clause-facts
returns-clause-facts c = subst IsGraph c.self.view_is (columns_graph _ _ _ c.self.invariant)
