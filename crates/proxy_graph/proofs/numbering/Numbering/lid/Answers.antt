use Rattle.std.proofs.Common.{◌∙◌, ◌-◌, ◌+◌, cond, take, sym, ap}
use Rattle.list_laws.specs.Members.{count_of}
use Rattle.proxy_graph.proofs.NumberingSteps.{table_at}
use Rattle.proxy_graph.proofs.numbering.Numbering.lid.Goals as goal

pub returns-then-is_hosted : goal.returns-then-is_hosted
returns-then-is_hosted c =
    let numbering = c.args.self.now in
    sym (
    table_at numbering c.args.v c.requires.known
    ∙ ap (λ b. cond b (c.args.v - numbering.first) (numbering.count + count_of (take c.args.v numbering.mirrored))) (sym c.if-is_hosted.ensures))

pub returns-else-is_hosted : goal.returns-else-is_hosted
returns-else-is_hosted c =
    let numbering = c.args.self.now in
    ap (λ n. numbering.count + n) c.rank-before.ensures
    ∙ sym (
    table_at numbering c.args.v c.requires.known
    ∙ ap (λ b. cond b (c.args.v - numbering.first) (numbering.count + count_of (take c.args.v numbering.mirrored))) (sym c.if-is_hosted.ensures))
