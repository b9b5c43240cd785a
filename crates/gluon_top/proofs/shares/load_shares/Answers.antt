use Rattle.std.proofs.Common.{sym}
use Rattle.std.proofs.lemmas.Result.{err_from_is_err_and}
use Rattle.gluon_top.proofs.Loading.{head_stops, root_stops, rest_stops, finds, head_left, root_left, rest_left}
use Rattle.gluon_top.proofs.shares.load_shares.Goals as goal

pub returns-in_err-head-clause-means : goal.returns-in_err-head-clause-means
returns-in_err-head-clause-means g c =
    let p = err_from_is_err_and c.from_residual-in_err-head.result c.from_residual-in_err-head.ensures.1 in
    rw (p.1, p.2) (head_stops c.args.root (g.S.Source.left c.args.source.now) (g.S.Source.left c.read_head.new.source) c.in_err-head.field-0.0 c.in_err-head.ensures.means)

pub returns-in_err-head-clause-taken : goal.returns-in_err-head-clause-taken
returns-in_err-head-clause-taken g c =
    let p = err_from_is_err_and c.from_residual-in_err-head.result c.from_residual-in_err-head.ensures.1 in
    rw (p.1, p.2) (head_left (g.S.Source.left c.args.source.now) (g.S.Source.left c.read_head.new.source) c.in_err-head.field-0.0 c.in_err-head.ensures.means c.in_err-head.ensures.taken)

pub returns-in_err-demand_node-clause-means : goal.returns-in_err-demand_node-clause-means
returns-in_err-demand_node-clause-means g c =
    let p = err_from_is_err_and c.from_residual-in_err-demand_node.result c.from_residual-in_err-demand_node.ensures.1 in
    rw (p.1, p.2) (root_stops c.args.root (g.S.Source.left c.args.source.now) (g.S.Source.left c.read_head.new.source) c.in_ok-head.head c.in_err-demand_node.field-0.0 (sym c.in_err-demand_node.ensures) c.in_ok-head.ensures.means)

pub returns-in_err-demand_node-clause-taken : goal.returns-in_err-demand_node-clause-taken
returns-in_err-demand_node-clause-taken g c =
    let p = err_from_is_err_and c.from_residual-in_err-demand_node.result c.from_residual-in_err-demand_node.ensures.1 in
    rw (p.1, p.2) (root_left c.args.root (g.S.Source.left c.args.source.now) (g.S.Source.left c.read_head.new.source) c.in_ok-head.head c.in_err-demand_node.field-0.0 (sym c.in_err-demand_node.ensures) c.in_ok-head.ensures.means)

pub returns-in_err-build_for-clause-means : goal.returns-in_err-build_for-clause-means
returns-in_err-build_for-clause-means g c =
    let p = err_from_is_err_and c.from_residual-in_err-build_for.result c.from_residual-in_err-build_for.ensures.1 in
    rw (p.1, p.2) (rest_stops c.args.root (g.S.Source.left c.args.source.now) (g.S.Source.left c.read_head.new.source) (g.S.Source.left c.build_for.new.source)
    c.in_ok-head.head c.in_err-build_for.field-0.0 (sym c.in_ok-demand_node.ensures) c.in_ok-head.ensures.means
    (rw c.in_ok-head.ensures.ok at c.in_err-build_for.ensures.finds))

pub returns-in_err-build_for-clause-taken : goal.returns-in_err-build_for-clause-taken
returns-in_err-build_for-clause-taken g c =
    let p = err_from_is_err_and c.from_residual-in_err-build_for.result c.from_residual-in_err-build_for.ensures.1 in
    rw (p.1, p.2) (rest_left (g.S.Source.left c.args.source.now) (g.S.Source.left c.read_head.new.source) (g.S.Source.left c.build_for.new.source)
    c.in_ok-head.head c.in_err-build_for.field-0.0 c.in_ok-head.ensures.means c.in_ok-head.ensures.taken
    (rw c.in_ok-head.ensures.ok at c.in_err-build_for.ensures.taken))

pub returns-clause-means : goal.returns-clause-means
returns-clause-means g c =
    finds c.args.root c.args.rules c.args.hosts c.in_ok-build_for.field-0.items (g.S.Source.left c.args.source.now) (g.S.Source.left c.read_head.new.source) (g.S.Source.left c.build_for.new.source)
    c.in_ok-head.head (sym c.in_ok-demand_node.ensures) c.in_ok-head.ensures.means
    (rw c.in_ok-head.ensures.ok at c.in_ok-build_for.ensures.finds)
