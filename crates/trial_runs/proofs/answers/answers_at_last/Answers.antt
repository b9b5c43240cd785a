use Rattle.std.proofs.Common.{List, arith}
use Rattle.std.proofs.lemmas.Result.{IfOk-weaker}
use Rattle.graph_division.specs.Shares.{Share}
use Rattle.share_plan.specs.Owners.{shares_of}
use Rattle.trial_runs.proofs.AtLast.{run_on, stands_itself, nodes_there, at_last, never_spent}
use Rattle.share_plan.proofs.Divisions.{is_division_of}
use Rattle.trial_runs.proofs.answers.answers_at_last.Goals as goal

pub answers_in-requires-clause-stands : goal.answers_in-requires-clause-stands
answers_in-requires-clause-stands g c =
    stands_itself g.P.Red.Item.Word.bytes_of g.P.Shown.Word.bytes_of g.P.Red.Reduction.reducer g.P.VertexProgram.steps g.P.Red.Item.Word.WIDTH g.P.Shown.Word.WIDTH
    c.args.program c.args.way c.in_ok-graphs.graphs.items _ c.in-Ok.ended.cluster c.in-Ok.ended.finished c.in-Ok.ensures.ended

pub answers_in-requires-clause-nodes : goal.answers_in-requires-clause-nodes
answers_in-requires-clause-nodes g c =
    let nodes = nodes_there g.P.Red.Item.Word.bytes_of g.P.Shown.Word.bytes_of g.P.Red.Reduction.reducer g.P.VertexProgram.steps g.P.Red.Item.Word.WIDTH g.P.Shown.Word.WIDTH
    c.args.program c.args.way c.in_ok-graphs.graphs.items _ c.in-Ok.ended.cluster c.in-Ok.ended.finished c.in-Ok.ensures.ended
    (shares_of c.args.rules c.args.hosts c.args.list.now) c.args.list.now.nodes c.in_ok-graphs.ensures.shares (is_division_of c.args.way c.args.rules c.args.hosts c.args.list.now c.requires.hosts c.nodes.ensures.facts).nodes in
    omega (arith, nodes)

pub unreachable-requires : goal.unreachable-requires
unreachable-requires g c =
    never_spent (λ (shares : List Share). run_on g.P.Red.Item.Word.bytes_of g.P.Shown.Word.bytes_of g.P.Red.Reduction.reducer g.P.VertexProgram.steps g.P.Red.Item.Word.WIDTH g.P.Shown.Word.WIDTH c.args.program c.args.way shares)
    c.in_ok-graphs.graphs.items (shares_of c.args.rules c.args.hosts c.args.list.now) _ c.args.list.now.nodes c.run_quiet.result c.in-Err-Spent.field-0 c.in-Err-Spent.field-0-0
    c.in_ok-graphs.ensures.shares (omega arith) c.requires.ends c.in-Err-Spent.is c.in-Err-Spent.field-0-is c.run_quiet.ensures.spent

pub returns-in-Ok-clause-last : goal.returns-in-Ok-clause-last
returns-in-Ok-clause-last g c =
    IfOk-weaker c.answers_in.result _ _
    (λ answers told.
    at_last g.P.Red.Item.Word.bytes_of g.P.Shown.Word.bytes_of g.P.Red.Reduction.reducer g.P.VertexProgram.steps g.P.Red.Item.Word.WIDTH g.P.Shown.Word.WIDTH
    c.args.program c.args.way c.in_ok-graphs.graphs.items _ c.in-Ok.ended.cluster c.in-Ok.ended.finished c.in-Ok.ensures.ended
    (shares_of c.args.rules c.args.hosts c.args.list.now) c.nodes-in-Ok.result c.args.list.now.nodes answers.items (g.K.Picker.asked c.args.picker.now) (g.K.Picker.asked c.run_quiet.new.picker)
    c.in_ok-graphs.ensures.shares (omega arith) c.nodes-in-Ok.ensures.nodes told c.in-Ok.ensures.asked)
    c.answers_in.ensures
