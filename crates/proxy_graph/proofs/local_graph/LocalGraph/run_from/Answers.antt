use Rattle.std.proofs.Common.{◌∙◌, ℕ, ap, sym}
use Rattle.std.proofs.lemmas.Option.{slice_get_within, get_or_from_slice_get}
use Rattle.graph_division.specs.Shares.{proxies_here}
use Rattle.proxy_graph.specs.Numbering.{IsLidOf}
use Rattle.proxy_graph.specs.Search.{arcs_to}
use Rattle.proxy_graph.proofs.Read.{kept}
use Rattle.proxy_graph.proofs.SearchLaws.{no_tail, tail_tells}
use Rattle.proxy_graph.proofs.local_graph.LocalGraph.run_from.Goals as goal

pub returns-in_err-tail : goal.returns-in_err-tail
returns-in_err-tail c = λ head known.
    let keeps = kept c.self.inside c.args.self.now c.self.view_is c.self.invariant in
    rw c.from_residual.ensures
    (no_tail c.args.self.now head keeps.lids c.args.gid c.in_err-tail.ensures)

pub returns : goal.returns
returns c = λ head known.
    let keeps = kept c.self.inside c.args.self.now c.self.view_is c.self.invariant in
    let tail : ℕ = c.in_ok-tail.tail in
    let is : IsLidOf (proxies_here c.args.self.now) c.args.gid tail = record {
      within = slice_get_within (proxies_here c.args.self.now) tail c.args.gid c.in_ok-tail.ensures;
      here = get_or_from_slice_get (proxies_here c.args.self.now) tail c.args.gid 0 c.in_ok-tail.ensures;
    } in
    tail_tells c.args.self.now head keeps.lids known c.args.gid tail is
    ∙ ap (arcs_to head tail) (sym (c.of.ensures ∙ keeps.out_arcs.here tail is.within))
