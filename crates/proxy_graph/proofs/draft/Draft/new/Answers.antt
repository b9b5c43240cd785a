use Rattle.std.proofs.Common.{rules, IfOk, List, length, ap, sym, ◌∙◌, arith, subst}
use Rattle.std.specs.List.{All}
use Rattle.graph_model.specs.Graph.{IsWithin, IsBySource}
use Rattle.graph_model.specs.declared.edge.Edge.{Edge}
use Rattle.graph_division.proofs.FileOrder.{file_order_stays}
use Rattle.proxy_graph.specs.Drafts.{IsDraftOf}
use Rattle.proxy_graph.specs.Numbering.{AreMarks}
use Rattle.proxy_graph.proofs.Assembled.{share_with}
use Rattle.proxy_graph.proofs.InFileOrder.{few_in_file_order, All-in_file_order, IsBySource-in_file_order, marks_in_file_order}
use Rattle.proxy_graph.proofs.draft.Draft.new.Goals as goal

pub returns-then-is_by_source : goal.returns-then-is_by_source
returns-then-is_by_source c =
    let stays = file_order_stays c.args.nodes c.args.edges.now c.requires.within (c.in_ok-marks.ensures.order (search rules)) in
    let P : List Edge → Type 0 = λ edges. IfOk c.in_order.result (λ draft. IsDraftOf (share_with c.args.host c.args.masters.now.hosts c.args.masters.now.masters edges) draft) in
    subst P (sym stays) c.in_order.ensures

pub in_order-requires-2-clause-few_edges : goal.in_order-requires-2-clause-few_edges
in_order-requires-2-clause-few_edges c =
    omega (arith, ap length (c.as_slice.ensures.value ∙ c.in_ok-edges.ensures), few_in_file_order c.args.nodes c.args.edges.now, c.requires.few_edges)

pub in_order-requires-2-clause-within : goal.in_order-requires-2-clause-within
in_order-requires-2-clause-within c =
    let P : List Edge → Type 0 = All (IsWithin c.args.nodes) in
    subst P (sym (c.as_slice.ensures.value ∙ c.in_ok-edges.ensures)) (All-in_file_order (IsWithin c.args.nodes) c.args.nodes c.args.edges.now c.requires.within)

pub in_order-requires-2-clause-by_source : goal.in_order-requires-2-clause-by_source
in_order-requires-2-clause-by_source c =
    let P : List Edge → Type 0 = IsBySource in
    subst P (sym (c.as_slice.ensures.value ∙ c.in_ok-edges.ensures)) (IsBySource-in_file_order c.args.nodes c.args.edges.now)

pub in_order-requires-2-clause-marks : goal.in_order-requires-2-clause-marks
in_order-requires-2-clause-marks c =
    let P : List Edge → Type 0 = λ edges. AreMarks c.args.nodes edges c.in_ok-marks.marks in
    subst P (sym (c.as_slice.ensures.value ∙ c.in_ok-edges.ensures)) (marks_in_file_order c.args.nodes c.args.edges.now c.in_ok-marks.marks c.requires.within c.in_ok-marks.ensures.marks)
