use Rattle.std.proofs.Common.{List, ℕ, subst}
use Rattle.io_edge.specs.Writing.{WroteAll, WroteBy, state_of}
use Rattle.io_edge.proofs.Writings.{WroteBy-++}
use Rattle.graph_model.specs.declared.edge.Edge.{Edge}
use Rattle.share_plan.specs.Plan.{owner_by}
use Rattle.job_text.specs.Numbered.{numbered}
use Rattle.job_text.specs.Owners.{master_line, edge_line}
use Rattle.job_text.proofs.owner_lines.write_owners.Goals as goal

pub returns : goal.returns
returns g c =
    let masters = subst (λ (ms : List ℕ). WroteAll (state_of g.K.Sink c.args.sink.now) (state_of g.K.Sink c.write_masters.new.sink) (numbered master_line 0 ms)) c.masters.ensures.masters c.in_ok-write_masters.ensures.written.all in
    let edges = subst (λ (es : List Edge). WroteBy c.write_edges.result (state_of g.K.Sink c.write_masters.new.sink) (state_of g.K.Sink c.write_edges.new.sink) (numbered (edge_line (owner_by c.args.plan.now)) 0 es)) c.edges.ensures.edges c.write_edges.ensures.written in
    record { written = WroteBy-++ masters edges }
