use Rattle.std.proofs.Common.{◌≡◌, ◌∙◌, ◌+◌, arith}
use Rattle.std.proofs.lemmas.List.{get_or_default}
use Rattle.proxy_graph.specs.Runs.{start_at, end_at, count_at}
use Rattle.proxy_graph.proofs.Pairs.{part_of-zip}
use Rattle.proxy_graph.proofs.arcs.Arcs.of.Goals as goal

pub returns : goal.returns
returns c =
    let arcs = c.args.self.now in
    let lid = c.args.lid in
    let start : c.index.result.now ≡ start_at arcs lid = c.index.ensures ∙ get_or_default arcs.starts.items lid c.index.result.now 0 (omega arith) in
    let end : c.index-2.result.now ≡ end_at arcs lid = c.index-2.ensures ∙ get_or_default arcs.starts.items (lid + 1) c.index-2.result.now 0 (omega arith) in
    let parts = part_of-zip (start_at arcs lid) (count_at arcs lid) arcs.heads.items arcs.weights.items in
    cc
