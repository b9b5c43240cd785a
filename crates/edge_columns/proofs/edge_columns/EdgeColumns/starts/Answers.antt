use Rattle.std.proofs.Common.{sym, ap, subst, ◌∙◌}
use Rattle.graph_model.specs.Graph.{IsGraph}
use Rattle.edge_columns.specs.Starts.{starts_of}
use Rattle.edge_columns.proofs.ColumnLaws.{columns_graph, columns_starts}
use Rattle.edge_columns.proofs.edge_columns.EdgeColumns.starts.Goals as goal

pub returns-clause-starts : goal.returns-clause-starts
returns-clause-starts c = c.as_slice.ensures.value ∙ sym (columns_starts _ _ _ c.self.invariant) ∙ ap starts_of c.self.view_is

pub returns-clause-facts : goal.returns-clause-facts
returns-clause-facts c = subst IsGraph c.self.view_is (columns_graph _ _ _ c.self.invariant)
