use Rattle.std.proofs.Common.{ℕ, ◌+◌, ◌*◌, ◌≤◌, List, length, ap, ◌∙◌, arith}
use Rattle.std.proofs.lemmas.Result.{err_from_is_err_and}
use Rattle.graph_model.specs.declared.edge.Edge.{Edge}
use Rattle.graph_model.specs.Graph.{most_edges}
use Rattle.gr_reader.specs.declared.section.Section.TheVariants as section
use Rattle.gr_reader.specs.Cause.{cause_of}
use Rattle.edge_columns.specs.Columns.{sources, plain_edges, weighed}
use Rattle.gr_reader.specs.File.{padding, weight_bytes}
use Rattle.gr_reader.proofs.CauseLaws.{ComesFromRest-from, cause_reach-section}
use Rattle.gr_reader.proofs.TakingLaws.{TakesAtMost-then, TakesAtMost-more}
use Rattle.edge_columns.proofs.EdgeLaws.{length-weighed}
use Rattle.gr_reader.proofs.GraphLaws.{edges-graph}
use Rattle.gr_reader.proofs.RestLaws.{IfSome-told, rest_broke-index, rest_broke-destinations, rest_broke-padding, rest_broke-weights, rest_came}
use Rattle.gr_reader.proofs.graph.read_sections.Goals as goal

pub returns-in_err-ends-clause-means : goal.returns-in_err-ends-clause-means
returns-in_err-ends-clause-means g c =
    let head = c.args.head in
    let p = err_from_is_err_and c.from_residual.result c.from_residual.ensures.1 in
    let fault = c.in_err-ends.field-0.0 in
    rw (p.1, p.2) (IfSome-told (g.S.Source.left c.args.source.now) _ (rest_broke-index head _ fault c.in_err-ends.ensures.broke))

pub returns-in_err-ends-clause-faults : goal.returns-in_err-ends-clause-faults
returns-in_err-ends-clause-faults g c =
    let p = err_from_is_err_and c.from_residual.result c.from_residual.ensures.1 in
    rw (p.1, p.2) (ComesFromRest-from section.Index (cause_of c.in_err-ends.field-0.0) tt c.in_err-ends.ensures.kind)

pub returns-in_err-ends-clause-taken : goal.returns-in_err-ends-clause-taken
returns-in_err-ends-clause-taken g c =
    let head = c.args.head in
    let p = err_from_is_err_and c.from_residual.result c.from_residual.ensures.1 in
    let fault = c.in_err-ends.field-0.0 in
    rw (p.1, p.2) (TakesAtMost-more (8 * head.nodes) _ _ _ (cause_reach-section head section.Index (cause_of fault) (omega arith) c.in_err-ends.ensures.kind) c.in_err-ends.ensures.taken)

pub returns-in_err-edges-clause-means : goal.returns-in_err-edges-clause-means
returns-in_err-edges-clause-means g c =
    let head = c.args.head in
    let p = err_from_is_err_and c.from_residual-in_err-edges.result c.from_residual-in_err-edges.ensures.1 in
    let fault = c.in_err-edges.field-0.0 in
    rw (p.1, p.2) (IfSome-told (g.S.Source.left c.args.source.now) _ (rest_broke-destinations head _ _ _ fault c.in_ok-ends.ensures.came c.in_err-edges.ensures.broke))

pub returns-in_err-edges-clause-faults : goal.returns-in_err-edges-clause-faults
returns-in_err-edges-clause-faults g c =
    let p = err_from_is_err_and c.from_residual-in_err-edges.result c.from_residual-in_err-edges.ensures.1 in
    rw (p.1, p.2) (ComesFromRest-from section.Destinations (cause_of c.in_err-edges.field-0.0) tt c.in_err-edges.ensures.kind)

pub returns-in_err-edges-clause-taken : goal.returns-in_err-edges-clause-taken
returns-in_err-edges-clause-taken g c =
    let head = c.args.head in
    let p = err_from_is_err_and c.from_residual-in_err-edges.result c.from_residual-in_err-edges.ensures.1 in
    let fault = c.in_err-edges.field-0.0 in
    rw (p.1, p.2) (TakesAtMost-then (8 * head.nodes) (4 * head.edges) _ _ _ _ (cause_reach-section head section.Destinations (cause_of fault) (omega arith) c.in_err-edges.ensures.kind) c.in_ok-ends.ensures.taken c.in_err-edges.ensures.taken)

pub returns-in_err-read_padding-clause-means : goal.returns-in_err-read_padding-clause-means
returns-in_err-read_padding-clause-means g c =
    let head = c.args.head in
    let p = err_from_is_err_and c.from_residual-in_err-read_padding.result c.from_residual-in_err-read_padding.ensures.1 in
    let fault = c.in_err-read_padding.field-0.0 in
    rw (p.1, p.2) (IfSome-told (g.S.Source.left c.args.source.now) _ (rest_broke-padding head _ _ _ _ _ fault c.in_ok-ends.ensures.came c.in_ok-edges.ensures.came c.in_err-read_padding.ensures.broke))

pub returns-in_err-read_padding-clause-faults : goal.returns-in_err-read_padding-clause-faults
returns-in_err-read_padding-clause-faults g c =
    let p = err_from_is_err_and c.from_residual-in_err-read_padding.result c.from_residual-in_err-read_padding.ensures.1 in
    rw (p.1, p.2) (ComesFromRest-from section.Padding (cause_of c.in_err-read_padding.field-0.0) tt c.in_err-read_padding.ensures.kind)

pub returns-in_err-read_padding-clause-taken : goal.returns-in_err-read_padding-clause-taken
returns-in_err-read_padding-clause-taken g c =
    let head = c.args.head in
    let p = err_from_is_err_and c.from_residual-in_err-read_padding.result c.from_residual-in_err-read_padding.ensures.1 in
    let fault = c.in_err-read_padding.field-0.0 in
    let edges = TakesAtMost-then (8 * head.nodes) (4 * head.edges) (8 * head.nodes + 4 * head.edges) _ _ _ (omega arith) c.in_ok-ends.ensures.taken c.in_ok-edges.ensures.taken in
    rw (p.1, p.2) (TakesAtMost-then (8 * head.nodes + 4 * head.edges) (padding head) _ _ _ _ (cause_reach-section head section.Padding (cause_of fault) (omega arith) c.in_err-read_padding.ensures.kind) edges c.in_err-read_padding.ensures.taken)

pub returns-in_err-edges-2-clause-means : goal.returns-in_err-edges-2-clause-means
returns-in_err-edges-2-clause-means g c =
    let head = c.args.head in
    let p = err_from_is_err_and c.from_residual-in_err-edges-2.result c.from_residual-in_err-edges-2.ensures.1 in
    let fault = c.in_err-edges-2.field-0.0 in
    rw (p.1, p.2) (IfSome-told (g.S.Source.left c.args.source.now) _ (rest_broke-weights head _ _ _ _ _ _ _ fault c.in_ok-ends.ensures.came c.in_ok-edges.ensures.came c.in_ok-read_padding.ensures.came c.in_err-edges-2.ensures.broke))

pub returns-in_err-edges-2-clause-faults : goal.returns-in_err-edges-2-clause-faults
returns-in_err-edges-2-clause-faults g c =
    let p = err_from_is_err_and c.from_residual-in_err-edges-2.result c.from_residual-in_err-edges-2.ensures.1 in
    rw (p.1, p.2) (ComesFromRest-from section.Weights (cause_of c.in_err-edges-2.field-0.0) tt c.in_err-edges-2.ensures.kind)

pub returns-in_err-edges-2-clause-taken : goal.returns-in_err-edges-2-clause-taken
returns-in_err-edges-2-clause-taken g c =
    let head = c.args.head in
    let p = err_from_is_err_and c.from_residual-in_err-edges-2.result c.from_residual-in_err-edges-2.ensures.1 in
    let fault = c.in_err-edges-2.field-0.0 in
    let edges = TakesAtMost-then (8 * head.nodes) (4 * head.edges) (8 * head.nodes + 4 * head.edges) _ _ _ (omega arith) c.in_ok-ends.ensures.taken c.in_ok-edges.ensures.taken in
    let padded = TakesAtMost-then (8 * head.nodes + 4 * head.edges) (padding head) (8 * head.nodes + 4 * head.edges + padding head) _ _ _ (omega arith) edges c.in_ok-read_padding.ensures.taken in
    rw (p.1, p.2) (TakesAtMost-then (8 * head.nodes + 4 * head.edges + padding head) (weight_bytes head) _ _ _ _ (cause_reach-section head section.Weights (cause_of fault) (omega arith) c.in_err-edges-2.ensures.kind) padded c.in_err-edges-2.ensures.taken)

pub from_parts-requires : goal.from_parts-requires
from_parts-requires g c =
    let head = c.args.head in
    let plain = c.in_ok-edges.edges.items in
    let destinations = c.in_ok-edges.ensures.came in
    let weights = c.in_ok-edges-2.ensures.came in
    let are = weights.taken.0 ∙ ap (λ (l : List Edge). weighed l weights.numbers) destinations.taken.edges_are in
    let few : length c.in_ok-edges-2.edges.items ≤ most_edges = omega (arith, ap length weights.taken.0, length-weighed plain weights.numbers, c.in_ok-edges.ensures.count, c.requires.head.edges) in
    edges-graph head.nodes c.deref.result.now destinations.numbers weights.numbers c.in_ok-edges-2.edges.items c.requires.head.nodes few
    (omega (arith, c.in_ok-ends.ensures.nodes, ap length c.deref.ensures.value)) destinations.taken.clear are weights.taken.1

pub returns-clause-means : goal.returns-clause-means
returns-clause-means g c =
    let index = c.in_ok-ends.ensures.came in
    let destinations = c.in_ok-edges.ensures.came in
    let weights = c.in_ok-edges-2.ensures.came in
    let made = λ (ends : List ℕ). plain_edges (sources 0 0 ends) destinations.numbers in
    let are = weights.taken.0 ∙ ap (λ (l : List Edge). weighed l weights.numbers) (destinations.taken.edges_are ∙ ap made (c.deref.ensures.value ∙ index.taken)) in
    rw c.from_parts.ensures (rest_came c.args.head _ _ _ _ _ _ _ _ _ c.in_ok-edges-2.edges.items index destinations c.in_ok-read_padding.ensures.came weights are)

pub returns-clause-taken : goal.returns-clause-taken
returns-clause-taken g c =
    let head = c.args.head in
    let edges = TakesAtMost-then (8 * head.nodes) (4 * head.edges) (8 * head.nodes + 4 * head.edges) _ _ _ (omega arith) c.in_ok-ends.ensures.taken c.in_ok-edges.ensures.taken in
    let padded = TakesAtMost-then (8 * head.nodes + 4 * head.edges) (padding head) (8 * head.nodes + 4 * head.edges + padding head) _ _ _ (omega arith) edges c.in_ok-read_padding.ensures.taken in
    TakesAtMost-then (8 * head.nodes + 4 * head.edges + padding head) (weight_bytes head) _ _ _ _ (omega arith) padded c.in_ok-edges-2.ensures.taken
