use Rattle.std.proofs.Common.{◌∙◌, subst}
use Rattle.proxy_graph.specs.Kept.{KeepsInArcs}
use Rattle.proxy_graph.specs.declared.in_arcs.InArcs.{InArcs}
use Rattle.proxy_graph.specs.declared.in_arcs.InArcs.TheVariants.{Laid, Unlaid}
use Rattle.proxy_graph.proofs.Read.{kept, has_in}
use Rattle.proxy_graph.proofs.local_graph.LocalGraph.has_in.Goals as goal

pub returns-in-Laid : goal.returns-in-Laid
returns-in-Laid c =
    let keeps = kept c.self.inside c.args.self.now c.self.view_is c.self.invariant in
    let P : InArcs → Type 0 = KeepsInArcs c.args.self.now in
    let laid : P (Laid c.in-Laid.arcs) = subst P c.in-Laid.is keeps.in_arcs in
    c.has.ensures ∙ has_in c.args.self.now c.in-Laid.arcs c.args.lid laid c.requires

pub returns-in-Unlaid : goal.returns-in-Unlaid
returns-in-Unlaid c =
    let keeps = kept c.self.inside c.args.self.now c.self.view_is c.self.invariant in
    let P : InArcs → Type 0 = KeepsInArcs c.args.self.now in
    let unlaid : P (Unlaid c.in-Unlaid.heads) = subst P c.in-Unlaid.is keeps.in_arcs in
    c.test.ensures ∙ unlaid.heads_are c.args.lid c.requires
