use Rattle.std.proofs.Common.{arith, ◌<◌, ◌∙◌, ◌+◌, ◌-◌, length, ap, sym, slice_get}
use Rattle.graph_division.specs.Shares.{proxies_here}
use Rattle.proxy_graph.proofs.Read.{kept, length-proxies, nodes_fit, at_master, at_mirror, known}
use Rattle.std.proofs.lemmas.List.{get_or_default}
use Rattle.proxy_graph.proofs.local_graph.LocalGraph.global.Goals as goal

pub overflow_add-result : goal.overflow_add-result
overflow_add-result c = omega (arith, known c.args.self.now c.self.inside (kept c.self.inside c.args.self.now c.self.view_is c.self.invariant) c.args.lid (c.self.inside.first + c.args.lid) (at_master c.args.self.now c.self.inside (kept c.self.inside c.args.self.now c.self.view_is c.self.invariant) c.args.lid (omega arith)), nodes_fit c.args.self.now c.self.inside (kept c.self.inside c.args.self.now c.self.view_is c.self.invariant))

pub index-requires : goal.index-requires
index-requires c = omega (arith, length-proxies c.args.self.now c.self.inside (kept c.self.inside c.args.self.now c.self.view_is c.self.invariant), c.requires)

pub returns-then-lid-self-clause-vertex : goal.returns-then-lid-self-clause-vertex
returns-then-lid-self-clause-vertex c = at_master c.args.self.now c.self.inside (kept c.self.inside c.args.self.now c.self.view_is c.self.invariant) c.args.lid (omega arith)

pub returns-then-lid-self-clause-known : goal.returns-then-lid-self-clause-known
returns-then-lid-self-clause-known c = known c.args.self.now c.self.inside (kept c.self.inside c.args.self.now c.self.view_is c.self.invariant) c.args.lid (c.self.inside.first + c.args.lid) (at_master c.args.self.now c.self.inside (kept c.self.inside c.args.self.now c.self.view_is c.self.invariant) c.args.lid (omega arith))

pub returns-else-lid-self-clause-vertex : goal.returns-else-lid-self-clause-vertex
returns-else-lid-self-clause-vertex c =
    let place = c.args.lid - c.self.inside.count in
    let within : place < length c.self.inside.mirrors.items = omega (arith, length-proxies c.args.self.now c.self.inside (kept c.self.inside c.args.self.now c.self.view_is c.self.invariant), c.requires) in
    let here = sym (c.index.ensures ∙ get_or_default c.self.inside.mirrors.items place c.index.result.now 0 within) in
    ap (λ lid. slice_get (proxies_here c.args.self.now) lid) (omega arith) ∙ at_mirror c.args.self.now c.self.inside (kept c.self.inside c.args.self.now c.self.view_is c.self.invariant) place c.index.result.now within here

pub returns-else-lid-self-clause-known : goal.returns-else-lid-self-clause-known
returns-else-lid-self-clause-known c = known c.args.self.now c.self.inside (kept c.self.inside c.args.self.now c.self.view_is c.self.invariant) c.args.lid c.index.result.now (returns-else-lid-self-clause-vertex c)
