use Rattle.proxy_graph.proofs.SearchLaws.{all_in_arcs}
use Rattle.std.proofs.Common.{ap, ◌∙◌, ◌++◌}
use Rattle.proxy_graph.specs.Search.{arcs_to, in_arcs_since}
use Rattle.proxy_graph.proofs.search.Search.new.Goals as goal

pub returns : goal.returns
returns c =
    ap (λ run. arcs_to c.args.head 0 run ++ in_arcs_since c.args.graph.now c.args.head 0) c.no_run.ensures
    ∙ all_in_arcs c.args.graph.now c.args.head c.told.ensures
