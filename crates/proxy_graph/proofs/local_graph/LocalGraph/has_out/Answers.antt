use Rattle.std.proofs.Common.{◌∙◌}
use Rattle.proxy_graph.proofs.Read.{kept, has_out}
use Rattle.proxy_graph.proofs.local_graph.LocalGraph.has_out.Goals as goal

pub returns : goal.returns
returns c =
    let keeps = kept c.self.inside c.args.self.now c.self.view_is c.self.invariant in
    c.has.ensures ∙ has_out c.args.self.now c.self.inside.out c.args.lid keeps.out_arcs c.requires
