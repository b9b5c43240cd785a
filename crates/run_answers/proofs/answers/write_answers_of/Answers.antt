use Rattle.std.proofs.Common.{◌≡◌, slice_get, Some, length, ap, subst, ◌∙◌, arith}
use Rattle.std.proofs.lemmas.List.{take_all}
use Rattle.std.specs.List.{flat_map}
use Rattle.io_edge.specs.Writing.{WroteAll, state_of}
use Rattle.io_edge.proofs.Writings.{WroteBy-err}
use Rattle.graph_division.specs.Shares.{Share, masters_here, proxies_here}
use Rattle.answer_writer.specs.Lines.{answer_line}
use Rattle.run_answers.specs.States.{state_line}
use Rattle.run_answers.proofs.Masters.{told_here, told_count, one_more_told, master_before}
use Rattle.run_answers.proofs.Texts.{all_and_one, front_and_one}
use Rattle.run_answers.proofs.answers.write_answers_of.Goals as goal

pub loop-lid-preserved : goal.loop-lid-preserved
loop-lid-preserved g c =
    let host = c.args.host.now in
    let lid = c.loop-lid.lid in
    let at : slice_get (proxies_here host.graph) lid ≡ Some c.global.result = subst (λ (share : Share). slice_get (proxies_here share) lid ≡ Some c.global.result) c.graph-graph.ensures.graph c.global.ensures.vertex in
    let all : c.masters-lid-end.result ≡ length (masters_here host.graph) = c.masters-lid-end.ensures.masters ∙ ap (λ (share : Share). length (masters_here share)) c.graph-graph.ensures.graph in
    let master = master_before host.graph lid c.global.result at (omega arith) in
    all_and_one (state_line (g.P.VertexProgram.steps c.args.program.now).answer) (told_here host c.graph-graph.ensures.facts) lid (c.global.result, c.state.result) (answer_line c.global.result c.answer.result)
    (one_more_told host c.graph-graph.ensures.facts lid c.global.result c.state.result master c.state.ensures.state) (ap (answer_line c.global.result) c.answer.ensures)
    c.loop-lid.invariant c.in_ok-write_answer.ensures.written.all

pub returns-in_err-write_answer : goal.returns-in_err-write_answer
returns-in_err-write_answer g c =
    let host = c.args.host.now in
    let lid = c.loop-lid.lid in
    let at : slice_get (proxies_here host.graph) lid ≡ Some c.global.result = subst (λ (share : Share). slice_get (proxies_here share) lid ≡ Some c.global.result) c.graph-graph.ensures.graph c.global.ensures.vertex in
    let all : c.masters-lid-end.result ≡ length (masters_here host.graph) = c.masters-lid-end.ensures.masters ∙ ap (λ (share : Share). length (masters_here share)) c.graph-graph.ensures.graph in
    let master = master_before host.graph lid c.global.result at (omega arith) in
    record {
      written = WroteBy-err c.from_residual.ensures.0
          (front_and_one (state_line (g.P.VertexProgram.steps c.args.program.now).answer) (told_here host c.graph-graph.ensures.facts) lid (c.global.result, c.state.result) (answer_line c.global.result c.answer.result)
          (one_more_told host c.graph-graph.ensures.facts lid c.global.result c.state.result master c.state.ensures.state) (ap (answer_line c.global.result) c.answer.ensures)
          c.loop-lid.invariant c.in_err-write_answer.ensures.written.front);
    }

pub returns : goal.returns
returns g c =
    let host = c.args.host.now in
    let all : c.masters-lid-end.result ≡ length (masters_here host.graph) = c.masters-lid-end.ensures.masters ∙ ap (λ (share : Share). length (masters_here share)) c.graph-graph.ensures.graph in
    let count = told_count host c.graph-graph.ensures.facts in
    record {
      written = record {
        all = subst (λ told. WroteAll (state_of g.K.Sink c.args.sink.now) (state_of g.K.Sink c.loop-lid.sink) (flat_map (state_line (g.P.VertexProgram.steps c.args.program.now).answer) told))
            (take_all c.loop-lid.lid (told_here host c.graph-graph.ensures.facts) (omega arith)) c.loop-lid.invariant;
        front = tt;
      };
    }
