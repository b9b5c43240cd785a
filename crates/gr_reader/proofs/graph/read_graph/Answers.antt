use Rattle.std.proofs.Common.{[], IfSome, ap, subst, lit≤, arith}
use Rattle.std.proofs.lemmas.Result.{err_from_is_err_and}
use Rattle.io_edge.proofs.Moves.{Gives-[]}
use Rattle.graph_model.specs.Graph.{Graph}
use Rattle.gr_reader.specs.declared.head.Head.{Head}
use Rattle.gr_reader.specs.File.{rest_at}
use Rattle.gr_reader.specs.Reading.{Reading, Means}
use Rattle.gr_reader.specs.Reach.{TakesAtMost, reach}
use Rattle.gr_reader.proofs.RestLaws.{file_refused, file_means, file_taken-head, file_taken-rest}
use Rattle.gr_reader.proofs.graph.read_graph.Goals as goal

pub returns-in_err-reader-clause-taken : goal.returns-in_err-reader-clause-taken
returns-in_err-reader-clause-taken g c = file_taken-head 0 _ _ _ (omega arith) (record { got = []; gives = Gives-[] _; within = lit≤ tt })

pub returns-in_err-read_head-clause-means : goal.returns-in_err-read_head-clause-means
returns-in_err-read_head-clause-means g c =
    let p = err_from_is_err_and c.from_residual-in_err-read_head.result c.from_residual-in_err-read_head.ensures.1 in
    rw (p.1, p.2) (file_refused (g.S.Source.left c.args.source.now) c.in_err-read_head.field-0.0 c.in_err-read_head.ensures.means)

pub returns-in_err-read_head-clause-taken : goal.returns-in_err-read_head-clause-taken
returns-in_err-read_head-clause-taken g c = file_taken-head 32 _ _ _ (omega arith) c.in_err-read_head.ensures.taken

pub returns-clause-means : goal.returns-clause-means
returns-clause-means g c =
    let s0 = g.S.Source.left c.args.source.now in
    let s1 = g.S.Source.left c.read_head.new.source in
    let s2 = g.S.Source.left c.read_rest.new.source in
    let head = c.in_ok-read_head.field-0 in
    let same = ap (λ (r : Reading). r.head) c.in_ok-read_head.ensures.ok in
    let rest = subst (λ (h : Head). IfSome s1 (λ bytes. Means (λ (graph : Graph). graph) c.read_rest.result s2 (rest_at h bytes))) same c.read_rest.ensures.means in
    file_means (λ (graph : Graph). graph) s0 s1 s2 head c.read_rest.result c.in_ok-read_head.ensures.means rest

pub returns-clause-taken : goal.returns-clause-taken
returns-clause-taken g c =
    let head = c.in_ok-read_head.field-0 in
    let same = ap (λ (r : Reading). r.head) c.in_ok-read_head.ensures.ok in
    let rest = subst (λ (h : Head). TakesAtMost (reach h c.read_rest.result) (g.S.Source.left c.read_head.new.source) (g.S.Source.left c.read_rest.new.source)) same c.read_rest.ensures.taken in
    file_taken-rest _ _ _ head c.read_rest.result c.in_ok-read_head.ensures.means c.in_ok-read_head.ensures.taken rest
