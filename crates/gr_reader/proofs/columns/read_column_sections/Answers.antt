use Rattle.std.proofs.Common.{◌+◌, ◌*◌, arith, refl}
use Rattle.std.proofs.lemmas.Result.{err_from_is_err_and}
use Rattle.gr_reader.specs.declared.section.Section.TheVariants as section
use Rattle.gr_reader.specs.Cause.{cause_of}
use Rattle.edge_columns.specs.Columns.{sources, plain_edges, weighed}
use Rattle.gr_reader.specs.File.{padding, weight_bytes}
use Rattle.gr_reader.proofs.CauseLaws.{cause_reach-section}
use Rattle.gr_reader.proofs.TakingLaws.{TakesAtMost-then}
use Rattle.gr_reader.proofs.ColumnLaws.{columns_of_file, graph_of_file}
use Rattle.gr_reader.proofs.RestLaws.{IfSome-told, rest_broke-index, rest_broke-destinations, rest_broke-padding, rest_broke-weights, rest_came}
use Rattle.gr_reader.proofs.columns.read_column_sections.Goals as goal

pub returns-in_err-starts-clause-means : goal.returns-in_err-starts-clause-means
returns-in_err-starts-clause-means g c =
    let head = c.args.head in
    let p = err_from_is_err_and c.from_residual.result c.from_residual.ensures.1 in
    let fault = c.in_err-starts.field-0.0 in
    rw (p.1, p.2) (IfSome-told (g.S.Source.left c.args.source.now) _ (rest_broke-index head _ fault c.in_err-starts.ensures.broke))

pub returns-in_err-destinations-clause-means : goal.returns-in_err-destinations-clause-means
returns-in_err-destinations-clause-means g c =
    let head = c.args.head in
    let p = err_from_is_err_and c.from_residual-in_err-destinations.result c.from_residual-in_err-destinations.ensures.1 in
    let fault = c.in_err-destinations.field-0.0 in
    rw (p.1, p.2) (IfSome-told (g.S.Source.left c.args.source.now) _ (rest_broke-destinations head _ _ _ fault c.in_ok-starts.ensures.came c.in_err-destinations.ensures.broke))

pub returns-in_err-destinations-clause-taken : goal.returns-in_err-destinations-clause-taken
returns-in_err-destinations-clause-taken g c =
    let head = c.args.head in
    let p = err_from_is_err_and c.from_residual-in_err-destinations.result c.from_residual-in_err-destinations.ensures.1 in
    let fault = c.in_err-destinations.field-0.0 in
    rw (p.1, p.2) (TakesAtMost-then (8 * head.nodes) (4 * head.edges) _ _ _ _ (cause_reach-section head section.Destinations (cause_of fault) (omega arith) c.in_err-destinations.ensures.kind) c.in_ok-starts.ensures.taken c.in_err-destinations.ensures.taken)

pub returns-in_err-read_padding-clause-means : goal.returns-in_err-read_padding-clause-means
returns-in_err-read_padding-clause-means g c =
    let head = c.args.head in
    let p = err_from_is_err_and c.from_residual-in_err-read_padding.result c.from_residual-in_err-read_padding.ensures.1 in
    let fault = c.in_err-read_padding.field-0.0 in
    rw (p.1, p.2) (IfSome-told (g.S.Source.left c.args.source.now) _ (rest_broke-padding head _ _ _ _ _ fault c.in_ok-starts.ensures.came c.in_ok-destinations.ensures.came c.in_err-read_padding.ensures.broke))

pub returns-in_err-read_padding-clause-taken : goal.returns-in_err-read_padding-clause-taken
returns-in_err-read_padding-clause-taken g c =
    let head = c.args.head in
    let p = err_from_is_err_and c.from_residual-in_err-read_padding.result c.from_residual-in_err-read_padding.ensures.1 in
    let fault = c.in_err-read_padding.field-0.0 in
    let edges = TakesAtMost-then (8 * head.nodes) (4 * head.edges) (8 * head.nodes + 4 * head.edges) _ _ _ (omega arith) c.in_ok-starts.ensures.taken c.in_ok-destinations.ensures.taken in
    rw (p.1, p.2) (TakesAtMost-then (8 * head.nodes + 4 * head.edges) (padding head) _ _ _ _ (cause_reach-section head section.Padding (cause_of fault) (omega arith) c.in_err-read_padding.ensures.kind) edges c.in_err-read_padding.ensures.taken)

pub returns-in_err-weights-clause-means : goal.returns-in_err-weights-clause-means
returns-in_err-weights-clause-means g c =
    let head = c.args.head in
    let p = err_from_is_err_and c.from_residual-in_err-weights.result c.from_residual-in_err-weights.ensures.1 in
    let fault = c.in_err-weights.field-0.0 in
    rw (p.1, p.2) (IfSome-told (g.S.Source.left c.args.source.now) _ (rest_broke-weights head _ _ _ _ _ _ _ fault c.in_ok-starts.ensures.came c.in_ok-destinations.ensures.came c.in_ok-read_padding.ensures.came c.in_err-weights.ensures.broke))

pub returns-in_err-weights-clause-taken : goal.returns-in_err-weights-clause-taken
returns-in_err-weights-clause-taken g c =
    let head = c.args.head in
    let p = err_from_is_err_and c.from_residual-in_err-weights.result c.from_residual-in_err-weights.ensures.1 in
    let fault = c.in_err-weights.field-0.0 in
    let edges = TakesAtMost-then (8 * head.nodes) (4 * head.edges) (8 * head.nodes + 4 * head.edges) _ _ _ (omega arith) c.in_ok-starts.ensures.taken c.in_ok-destinations.ensures.taken in
    let padded = TakesAtMost-then (8 * head.nodes + 4 * head.edges) (padding head) (8 * head.nodes + 4 * head.edges + padding head) _ _ _ (omega arith) edges c.in_ok-read_padding.ensures.taken in
    rw (p.1, p.2) (TakesAtMost-then (8 * head.nodes + 4 * head.edges + padding head) (weight_bytes head) _ _ _ _ (cause_reach-section head section.Weights (cause_of fault) (omega arith) c.in_err-weights.ensures.kind) padded c.in_err-weights.ensures.taken)

pub from_parts-requires : goal.from_parts-requires
from_parts-requires g c =
    let index = c.in_ok-starts.ensures.came in
    let destinations = c.in_ok-destinations.ensures.came in
    let weights = c.in_ok-weights.ensures.came in
    columns_of_file c.args.head c.in_ok-starts.starts.items c.in_ok-destinations.destinations.items c.in_ok-weights.weights.items index.numbers destinations.numbers weights.numbers
    c.requires.head index.taken destinations.taken c.in_ok-destinations.ensures.count weights.taken

pub returns-clause-means : goal.returns-clause-means
returns-clause-means g c =
    let index = c.in_ok-starts.ensures.came in
    let destinations = c.in_ok-destinations.ensures.came in
    let weights = c.in_ok-weights.ensures.came in
    let edges = weighed (plain_edges (sources 0 0 index.numbers) destinations.numbers) weights.numbers in
    let graph = graph_of_file c.args.head c.in_ok-starts.starts.items c.in_ok-destinations.destinations.items c.in_ok-weights.weights.items index.numbers destinations.numbers weights.numbers index.taken destinations.taken weights.taken in
    rw (c.from_parts.ensures, graph) (rest_came c.args.head _ _ _ _ _ _ _ _ _ edges index destinations c.in_ok-read_padding.ensures.came weights refl)

pub returns-clause-taken : goal.returns-clause-taken
returns-clause-taken g c =
    let head = c.args.head in
    let edges = TakesAtMost-then (8 * head.nodes) (4 * head.edges) (8 * head.nodes + 4 * head.edges) _ _ _ (omega arith) c.in_ok-starts.ensures.taken c.in_ok-destinations.ensures.taken in
    let padded = TakesAtMost-then (8 * head.nodes + 4 * head.edges) (padding head) (8 * head.nodes + 4 * head.edges + padding head) _ _ _ (omega arith) edges c.in_ok-read_padding.ensures.taken in
    TakesAtMost-then (8 * head.nodes + 4 * head.edges + padding head) (weight_bytes head) _ _ _ _ (omega arith) padded c.in_ok-weights.ensures.taken
