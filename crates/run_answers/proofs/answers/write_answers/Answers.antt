use Rattle.std.proofs.Common.{List, ℕ, ◌+◌, length, ap, sym, subst, ◌∙◌, ◌++◌, ◌≤◌, arith}
use Rattle.std.specs.List.{flat_map}
use Rattle.io_edge.specs.Writing.{WroteAll, WroteFront, state_of}
use Rattle.io_edge.proofs.Writings.{WroteAll-[], WroteBy-err}
use Rattle.host_state.specs.Serving.{run_of}
use Rattle.round_driver.specs.ClusterState.{division_in}
use Rattle.run_answers.specs.States.{lines_here}
use Rattle.run_answers.proofs.HostByHost.{below, of, others, none_at_first}
use Rattle.run_answers.proofs.Masters.{answer_text, vertices_in, found, next_host, later_hosts, all_hosts, lines_are}
use Rattle.run_answers.proofs.Texts.{all_of_parts, front_of_parts}
use Rattle.run_answers.proofs.answers.write_answers.Goals as goal

pub loop-host-init : goal.loop-host-init
loop-host-init g c =
    let cluster = c.args.cluster.now in
    let is = c.hosts-host-items.ensures.facts in
    let text = answer_text (run_of g.P.Red.Reduction.reducer (g.P.VertexProgram.steps cluster.program) g.P.Red.Item.Word.WIDTH g.P.Shown.Word.WIDTH (division_in cluster)) cluster.round in
    subst (λ (vs : List ℕ). WroteAll (state_of g.K.Sink c.args.sink.now) (state_of g.K.Sink c.args.sink.now) (flat_map text vs))
    (sym (none_at_first (division_in cluster).master (vertices_in g.P.Red.Item.Word.WIDTH g.P.Shown.Word.WIDTH cluster is))) (WroteAll-[] (state_of g.K.Sink c.args.sink.now))

pub loop-host-preserved : goal.loop-host-preserved
loop-host-preserved g c =
    let cluster = c.args.cluster.now in
    let is = c.hosts-host-items.ensures.facts in
    let host = c.host-item.result in
    let number = c.loop-host.host-index in
    let at = found c.hosts-host-items.result.now cluster.hosts number host c.hosts-host-items.ensures.hosts c.loop-host-test.true c.host-item.is in
    let text = answer_text (run_of g.P.Red.Reduction.reducer (g.P.VertexProgram.steps cluster.program) g.P.Red.Item.Word.WIDTH g.P.Shown.Word.WIDTH (division_in cluster)) cluster.round in
    let all = vertices_in g.P.Red.Item.Word.WIDTH g.P.Shown.Word.WIDTH cluster is in
    let lines = lines_are g.P.Red.Item.Word.WIDTH g.P.Shown.Word.WIDTH cluster is number host at
    g.P.Red.Item.Word.bytes_of g.P.Shown.Word.bytes_of g.P.Red.Reduction.reducer (g.P.VertexProgram.steps cluster.program) c.requires in
    all_of_parts text (below (division_in cluster).master (number + 1) all) (below (division_in cluster).master number all) (of (division_in cluster).master number all)
    (next_host g.P.Red.Item.Word.WIDTH g.P.Shown.Word.WIDTH cluster is number) c.loop-host.invariant
    (subst (λ (written : List ℕ). WroteAll (state_of g.K.Sink c.loop-host.sink) (state_of g.K.Sink c.write_answers_of.new.sink) written)
    (ap (λ program. lines_here (g.P.VertexProgram.steps program).answer host) c.program.ensures ∙ lines) c.in_ok-write_answers_of.ensures.written.all)

pub returns-in_err-write_answers_of : goal.returns-in_err-write_answers_of
returns-in_err-write_answers_of g c =
    let cluster = c.args.cluster.now in
    let is = c.hosts-host-items.ensures.facts in
    let host = c.host-item.result in
    let number = c.loop-host.host-index in
    let at = found c.hosts-host-items.result.now cluster.hosts number host c.hosts-host-items.ensures.hosts c.loop-host-test.true c.host-item.is in
    let text = answer_text (run_of g.P.Red.Reduction.reducer (g.P.VertexProgram.steps cluster.program) g.P.Red.Item.Word.WIDTH g.P.Shown.Word.WIDTH (division_in cluster)) cluster.round in
    let all = vertices_in g.P.Red.Item.Word.WIDTH g.P.Shown.Word.WIDTH cluster is in
    let home = (division_in cluster).master in
    let lines = lines_are g.P.Red.Item.Word.WIDTH g.P.Shown.Word.WIDTH cluster is number host at
    g.P.Red.Item.Word.bytes_of g.P.Shown.Word.bytes_of g.P.Red.Reduction.reducer (g.P.VertexProgram.steps cluster.program) c.requires in
    WroteBy-err c.from_residual.ensures.0
    (front_of_parts text all (below home number all) (of home number all) (others home (number + 1) all)
    (later_hosts g.P.Red.Item.Word.WIDTH g.P.Shown.Word.WIDTH cluster is (number + 1) ∙ ap (λ (front : List ℕ). front ++ others home (number + 1) all) (next_host g.P.Red.Item.Word.WIDTH g.P.Shown.Word.WIDTH cluster is number))
    c.loop-host.invariant
    (subst (λ (written : List ℕ). WroteFront (state_of g.K.Sink c.loop-host.sink) (state_of g.K.Sink c.write_answers_of.new.sink) written)
    (ap (λ program. lines_here (g.P.VertexProgram.steps program).answer host) c.program.ensures ∙ lines) c.in_err-write_answers_of.ensures.written.front))

pub returns : goal.returns
returns g c =
    let cluster = c.args.cluster.now in
    let is = c.hosts-host-items.ensures.facts in
    let text = answer_text (run_of g.P.Red.Reduction.reducer (g.P.VertexProgram.steps cluster.program) g.P.Red.Item.Word.WIDTH g.P.Shown.Word.WIDTH (division_in cluster)) cluster.round in
    let late : length cluster.hosts ≤ c.loop-host.host-index = let same = ap length c.hosts-host-items.ensures.hosts in let over = c.loop-host-test.false in omega arith in
    record {
      all = subst (λ (vs : List ℕ). WroteAll (state_of g.K.Sink c.args.sink.now) (state_of g.K.Sink c.loop-host.sink) (flat_map text vs))
          (all_hosts g.P.Red.Item.Word.WIDTH g.P.Shown.Word.WIDTH cluster is c.loop-host.host-index late) c.loop-host.invariant;
      front = tt;
    }
