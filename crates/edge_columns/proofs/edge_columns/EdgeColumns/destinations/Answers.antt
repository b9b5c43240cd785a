use Rattle.std.proofs.Common.{map, sym, ap, ◌∙◌}
use Rattle.graph_model.specs.Graph.{Graph}
use Rattle.edge_columns.proofs.EdgeLaws.{destination}
use Rattle.edge_columns.proofs.ColumnLaws.{columns_destinations}
use Rattle.edge_columns.proofs.edge_columns.EdgeColumns.destinations.Goals as goal

pub returns : goal.returns
returns c =
    c.as_slice.ensures.value ∙ sym (columns_destinations _ _ _ c.self.invariant) ∙ ap (λ (graph : Graph). map destination graph.edges) c.self.view_is
