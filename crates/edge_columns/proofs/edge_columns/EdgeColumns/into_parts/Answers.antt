use Rattle.std.proofs.Common.{map, sym, ap, subst, ◌∙◌}
use Rattle.graph_model.specs.Graph.{Graph, IsGraph}
use Rattle.edge_columns.specs.Starts.{starts_of}
use Rattle.edge_columns.proofs.EdgeLaws.{destination, weight_of}
use Rattle.edge_columns.proofs.ColumnLaws.{columns_graph, columns_starts, columns_destinations, columns_weights}
use Rattle.edge_columns.proofs.edge_columns.EdgeColumns.into_parts.Goals as goal

pub returns-clause-starts : goal.returns-clause-starts
returns-clause-starts c = sym (columns_starts _ _ _ c.self.invariant) ∙ ap starts_of c.self.view_is

pub returns-clause-destinations : goal.returns-clause-destinations
returns-clause-destinations c =
    sym (columns_destinations _ _ _ c.self.invariant) ∙ ap (λ (graph : Graph). map destination graph.edges) c.self.view_is

pub returns-clause-weights : goal.returns-clause-weights
returns-clause-weights c =
    sym (columns_weights _ _ _ c.self.invariant) ∙ ap (λ (graph : Graph). map weight_of graph.edges) c.self.view_is

pub returns-clause-facts : goal.returns-clause-facts
returns-clause-facts c = subst IsGraph c.self.view_is (columns_graph _ _ _ c.self.invariant)
