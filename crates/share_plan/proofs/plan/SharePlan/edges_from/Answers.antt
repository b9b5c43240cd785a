use Rattle.std.proofs.Common.{◌≡◌, ℕ, ◌-◌, ◌≤◌, nat_lt, ◌==◌, List, length, take, drop, slice_index, slice_index_or, ap, ◌∙◌, arith}
use Rattle.std.proofs.lemmas.List.Sums.{count_by-le-length}
use Rattle.std.specs.List.{filter}
use Rattle.graph_model.specs.declared.edge.Edge.{Edge}
use Rattle.graph_model.specs.Graph.{Graph}
use Rattle.edge_columns.specs.Starts.{starts_of}
use Rattle.share_plan.specs.Plan.{Plan}
use Rattle.share_plan.proofs.StartsLaws.{below, length-starts_of, start_at}
use Rattle.share_plan.proofs.SideBySide.{edges_from-slice}
use Rattle.share_plan.proofs.plan.SharePlan.edges_from.Goals as goal

-- a start that was looked up
looked_up : (graph : Graph) (starts : List ℕ) → starts ≡ starts_of graph → (v x : ℕ) → v ≤ graph.nodes → x ≡ slice_index_or starts v x → x ≡ below graph.edges v
looked_up graph starts is v x within found = found ∙ ap (λ (xs : List ℕ). slice_index_or xs v x) is ∙ start_at graph v x within

pub slice_bounds-result-end : goal.slice_bounds-result-end
slice_bounds-result-end c =
    let graph = c.args.list.now in
    let is : c.self.inside.starts.items ≡ starts_of graph = ap (λ (p : Plan). p.starts) c.self.view_is ∙ c.requires.list in
    let nodes : length c.self.inside.masters.masters ≡ graph.nodes = omega (arith, c.self.invariant.1, ap (λ (xs : List ℕ). length xs) is, length-starts_of graph) in
    let within = c.range-first.ensures.within in
    let to = looked_up graph c.self.inside.starts.items is c.range-first.result.1 c.index-2.result.now (omega (arith, nodes, within)) c.index-2.ensures in
    let fits = count_by-le-length (λ (edge : Edge). nat_lt edge.src c.range-first.result.1) graph.edges in
    let long = ap (λ (es : List Edge). length es) c.edges.ensures.edges in
    let bound : c.index-2.result.now ≤ length c.edges.result.now = omega (arith, to, fits, long) in
    bound

pub returns : goal.returns
returns c =
    let graph = c.args.list.now in
    let masters = c.self.inside.masters.masters in
    let first = c.range-first.result.0 in
    let end = c.range-first.result.1 in
    let is : c.self.inside.starts.items ≡ starts_of graph = ap (λ (p : Plan). p.starts) c.self.view_is ∙ c.requires.list in
    let nodes : length masters ≡ graph.nodes = omega (arith, c.self.invariant.1, ap (λ (xs : List ℕ). length xs) is, length-starts_of graph) in
    let ordered = c.range-first.ensures.ordered in
    let within = c.range-first.ensures.within in
    let from = looked_up graph c.self.inside.starts.items is first c.index.result.now (omega (arith, nodes, ordered, within)) c.index.ensures in
    let to = looked_up graph c.self.inside.starts.items is end c.index-2.result.now (omega (arith, nodes, within)) c.index-2.ensures in
    ap (λ (es : List Edge). take (c.index-2.result.now - c.index.result.now) (drop c.index.result.now es)) c.edges.ensures.edges
    ∙ ap (λ (n : ℕ). take (c.index-2.result.now - n) (drop n graph.edges)) from
    ∙ ap (λ (n : ℕ). take (n - below graph.edges first) (drop (below graph.edges first) graph.edges)) to
    ∙ edges_from-slice graph c.edges.ensures.facts masters c.args.host first end ordered (omega (arith, nodes, within))
    (λ v below. c.range-first.ensures.vertices v (omega (arith, nodes, below)))
    ∙ ap (λ (p : Plan). filter (λ (edge : Edge). slice_index p.masters edge.src == c.args.host) graph.edges) c.self.view_is
