use Rattle.std.proofs.Common.{◌∙◌, ◌≡◌, ap, sym}
use Rattle.graph_division.specs.Shares.{seen}
use Rattle.graph_model.specs.declared.edge.Way.{Way}
use Rattle.graph_model.specs.declared.edge.Way.TheVariants.{Outward}
use Rattle.proxy_graph.specs.Heads.{vertex_at}
use Rattle.proxy_graph.proofs.Read.{turned, readable_both}
use Rattle.std.proofs.Common.{false, ◌||◌}
use Rattle.graph_division.specs.Lists.{is_readable, is_writable}
use Rattle.proxy_graph.proofs.local_graph.LocalGraph.readable.Goals as goal

pub returns-in-Inward : goal.returns-in-Inward
returns-in-Inward c =
    let share = c.args.self.now in
    let v = vertex_at share c.args.lid in
    c.has_in.ensures
    ∙ sym (turned share.edges v)
    ∙ ap (λ (way : Way). is_readable (seen way share) share.host v) (sym c.in-Inward.is)

pub returns-else-has_out : goal.returns-else-has_out
returns-else-has_out c =
    let share = c.args.self.now in
    let v = vertex_at share c.args.lid in
    let no : is_readable (seen Outward share) share.host v ≡ false = sym c.has_out-in-Both.ensures ∙ c.if-has_out.false in
    c.has_in-else-has_out.ensures
    ∙ ap (λ b. b || is_writable (seen Outward share) share.host v) (sym no)
    ∙ readable_both share v
    ∙ ap (λ (way : Way). is_readable (seen way share) share.host v) (sym c.in-Both.is)
