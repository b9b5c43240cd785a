use Rattle.std.proofs.Common.{ℕ, slice_index_or, refl, subst, arith}
use Rattle.io_edge.specs.Writing.{WroteAll, WroteFront, state_of}
use Rattle.io_edge.proofs.Writings.{WroteAll-++, WroteBy-err}
use Rattle.graph_model.specs.declared.edge.Edge.{Edge}
use Rattle.share_plan.specs.Plan.{owner_by}
use Rattle.job_text.specs.Owners.{edge_line}
use Rattle.job_text.proofs.AnswerLines.{numbered-take_more, WroteFront-lines}
use Rattle.job_text.proofs.owner_lines.write_edges.Goals as goal

pub loop-i-preserved : goal.loop-i-preserved
loop-i-preserved g c =
    let blank : Edge = record { src = 0; dst = 0; weight = 0 } in
    let edge = slice_index_or c.args.edges.now c.loop-i.i blank in
    let line = subst (λ (owner : ℕ). WroteAll (state_of g.K.Sink c.loop-i.sink) (state_of g.K.Sink c.write_edge.new.sink) (edge_line (λ e. owner) c.loop-i.i edge)) c.owner.ensures.owner c.in_ok-write_edge.ensures.written.all in
    rw (numbered-take_more (edge_line (owner_by c.args.plan.now)) c.args.edges.now c.loop-i.i edge blank (omega arith) refl)
    (WroteAll-++ c.loop-i.invariant line)

pub returns-in_err-write_edge : goal.returns-in_err-write_edge
returns-in_err-write_edge g c =
    let blank : Edge = record { src = 0; dst = 0; weight = 0 } in
    let edge = slice_index_or c.args.edges.now c.loop-i.i blank in
    let line = subst (λ (owner : ℕ). WroteFront (state_of g.K.Sink c.loop-i.sink) (state_of g.K.Sink c.write_edge.new.sink) (edge_line (λ e. owner) c.loop-i.i edge)) c.owner.ensures.owner c.in_err-write_edge.ensures.written.front in
    record {
      written = WroteBy-err c.from_residual.ensures.0
          (WroteFront-lines (edge_line (owner_by c.args.plan.now)) c.args.edges.now c.loop-i.i edge blank (omega arith) refl c.loop-i.invariant line);
    }
