use Rattle.std.proofs.Common.{ap, ◌∙◌, arith, length}
use Rattle.std.proofs.lemmas.Option.{slice_get_within}
use Rattle.graph_division.specs.Shares.{masters_here}
use Rattle.run_answers.proofs.Masters.{found, is_host, known_here, later_than, home_within, state_at}
use Rattle.run_answers.proofs.vertex.answer_at.Goals as goal

pub master_here-requires : goal.master_here-requires
master_here-requires g c =
    let host = c.host-item.result in
    let at = found c.hosts-host-items.result.now c.args.cluster.now.hosts c.loop-host.host-index host c.hosts-host-items.ensures.hosts c.loop-host-test.true c.host-item.is in
    known_here g.P.Red.Item.Word.WIDTH g.P.Shown.Word.WIDTH c.args.cluster.now c.hosts-host-items.ensures.facts c.loop-host.host-index host at c.args.v c.requires.vertex

pub state-requires : goal.state-requires
state-requires g c =
    let host = c.host-item.result in
    let at = found c.hosts-host-items.result.now c.args.cluster.now.hosts c.loop-host.host-index host c.hosts-host-items.ensures.hosts c.loop-host-test.true c.host-item.is in
    let is = is_host g.P.Red.Item.Word.WIDTH g.P.Shown.Word.WIDTH c.args.cluster.now c.hosts-host-items.ensures.facts c.loop-host.host-index host at in
    let count = is.masters_are in
    let inside = slice_get_within (masters_here host.graph) c.in-Some.lid c.args.v c.in-Some.ensures in
    omega arith

pub returns-in-Some : goal.returns-in-Some
returns-in-Some g c =
    let host = c.host-item.result in
    let at = found c.hosts-host-items.result.now c.args.cluster.now.hosts c.loop-host.host-index host c.hosts-host-items.ensures.hosts c.loop-host-test.true c.host-item.is in
    let state = state_at g.P.Red.Item.Word.WIDTH g.P.Shown.Word.WIDTH c.args.cluster.now c.hosts-host-items.ensures.facts c.loop-host.host-index host at
    g.P.Red.Item.Word.bytes_of g.P.Shown.Word.bytes_of g.P.Red.Reduction.reducer (g.P.VertexProgram.steps c.args.cluster.now.program) c.requires.stands
    c.in-Some.lid c.args.v c.state.result c.in-Some.ensures c.state.ensures.state in
    c.answer.ensures
    ∙ ap (λ program. (g.P.VertexProgram.steps program).answer c.state.result) c.program.ensures
    ∙ ap (g.P.VertexProgram.steps c.args.cluster.now.program).answer state

pub loop-host-preserved : goal.loop-host-preserved
loop-host-preserved g c =
    let host = c.host-item.result in
    let at = found c.hosts-host-items.result.now c.args.cluster.now.hosts c.loop-host.host-index host c.hosts-host-items.ensures.hosts c.loop-host-test.true c.host-item.is in
    later_than g.P.Red.Item.Word.WIDTH g.P.Shown.Word.WIDTH c.args.cluster.now c.hosts-host-items.ensures.facts c.loop-host.host-index host at c.args.v c.loop-host.invariant c.in_default.ensures

pub returns : goal.returns
returns g c =
    let below = home_within g.P.Red.Item.Word.WIDTH g.P.Shown.Word.WIDTH c.args.cluster.now c.hosts-host-items.ensures.facts c.args.v c.requires.vertex in
    let since = c.loop-host.invariant in
    let over = c.loop-host-test.false in
    let same = ap length c.hosts-host-items.ensures.hosts in
    absurd (omega arith)
