use Rattle.std.proofs.Common.{rules, arith, ap, sym, ◌∙◌, ◌≡◌, Bool, false, List, ◌+◌, take, subst}
use Rattle.std.proofs.lemmas.Option.{slice_get_within}
use Rattle.list_laws.specs.Members.{with_member}
use Rattle.proxy_graph.specs.Numbering.{AreMarks}
use Rattle.proxy_graph.specs.Sides.{edge_at}
use Rattle.proxy_graph.proofs.SurveySteps.{RiseTo, rise_more, marks_more}
use Rattle.proxy_graph.proofs.survey.surveyed.Goals as goal
use Rattle.proxy_graph.proofs.survey.surveyed.Goals.{then-edge-before, else-edge-before}

pub loop-edge-preserved : goal.loop-edge-preserved
loop-edge-preserved c =
    let edges = c.args.edges.now in
    let i = c.loop-edge.edge-index in
    let here = c.loop-edge-test.true in
    let ends = c.requires i (record { src = 0; dst = 0; weight = 0 }) here in
    let P : List Bool → Type 0 = λ marks. AreMarks c.args.nodes (take (i + 1) edges) marks in
    let set_both : c.set-in-loop-edge.new.self ≡ with_member (with_member c.loop-edge.marks (edge_at edges i).src) (edge_at edges i).dst
    = c.set-in-loop-edge.ensures ∙ ap (λ (marks : List Bool). with_member marks (edge_at edges i).dst) c.set.ensures in
    record {
      marks = subst P (sym set_both) (marks_more edges i here c.args.nodes c.loop-edge.marks ends c.loop-edge.invariant.marks);
      rise = λ is. elim c.if-edge-before.branch [
        | then-edge-before w ↦ absurd (let no : c.if-edge-before.is_by_source ≡ false = w.is_by_source-is in cc)
        | else-edge-before w ↦ rise_more edges i here c.loop-edge.before (w.if-edge-before.false) (c.loop-edge.invariant.rise (sym w.is_by_source-is ∙ is))
      ];
    }

pub returns-clause-order : goal.returns-clause-order
returns-clause-order c = λ is i j a b order at_i at_j.
    let rise : RiseTo c.args.edges.now c.loop-edge.edge-index c.loop-edge.before = c.loop-edge.invariant.rise (search rules) in
    rise.ordered i j a b order (omega (arith, slice_get_within c.args.edges.now j b at_j, c.loop-edge-test.false)) at_i at_j
