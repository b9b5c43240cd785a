use Rattle.std.proofs.Common.{◌≡◌, ℕ, IfOk, List, map, sym, ap, subst, ◌∙◌}
use Rattle.graph_model.specs.Graph.{Graph}
use Rattle.edge_columns.specs.Columns.{sources_by}
use Rattle.edge_columns.proofs.EdgeLaws.{source}
use Rattle.edge_columns.proofs.ColumnLaws.{columns_sources}
use Rattle.edge_columns.proofs.edge_columns.EdgeColumns.sources.Goals as goal

pub returns : goal.returns
returns c =
    let same : sources_by c.deref.result.now ≡ map source c.args.self.now.edges =
    ap sources_by c.deref.ensures.value ∙ sym (columns_sources _ _ _ c.self.invariant) ∙ ap (λ (graph : Graph). map source graph.edges) c.self.view_is in
    subst (λ (l : List ℕ). IfOk c.sources.result (λ sources. sources.items ≡ l)) same c.sources.ensures
