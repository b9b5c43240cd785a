use Rattle.std.proofs.Common.{map, sym, ap, ◌∙◌}
use Rattle.graph_model.specs.Graph.{Graph}
use Rattle.edge_columns.proofs.EdgeLaws.{weight_of}
use Rattle.edge_columns.proofs.ColumnLaws.{columns_weights}
use Rattle.edge_columns.proofs.edge_columns.EdgeColumns.weights.Goals as goal

pub returns : goal.returns
returns c =
    c.as_slice.ensures.value ∙ sym (columns_weights _ _ _ c.self.invariant) ∙ ap (λ (graph : Graph). map weight_of graph.edges) c.self.view_is
