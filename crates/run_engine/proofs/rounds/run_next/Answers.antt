use Rattle.std.proofs.Common.{ap, nat_lt, arith}
use Rattle.run_engine.proofs.Going.{may_go, packets_fit, one_more_round, changed_there}
use Rattle.run_engine.proofs.rounds.run_next.Goals as goal

pub run_round-tally-requires-clause-stands : goal.run_round-tally-requires-clause-stands
run_round-tally-requires-clause-stands g c =
    may_go g.P.Red.Item.Word.bytes_of g.P.Shown.Word.bytes_of g.P.Red.Reduction.reducer g.P.VertexProgram.steps g.P.Red.Item.Word.WIDTH g.P.Shown.Word.WIDTH g.plan c.args.cluster.now c.args.finished.now c.requires.1.1.1.1.1.1.1.1

pub overflow_add-finished-2 : goal.overflow_add-finished-2
overflow_add-finished-2 g c =
    let fit = packets_fit g.P.Red.Item.Word.bytes_of g.P.Shown.Word.bytes_of g.P.Red.Reduction.reducer g.P.VertexProgram.steps g.P.Red.Item.Word.WIDTH g.P.Shown.Word.WIDTH g.plan c.args.cluster.now c.args.finished.now c.requires.1.1.1.1.1.1.1.1
    c.requires.1.1.1.1.1.1.0 c.requires.1.1.1.1.1.1.1.0 c.run_round-tally.result.packets c.run_round-tally.ensures.packets in omega arith

pub returns-clause-counted : goal.returns-clause-counted
returns-clause-counted g c =
    let come = c.run_round-tally.ensures in
    let fit = c.run_round-tally.type_inv in
    one_more_round g.P.Red.Item.Word.bytes_of g.P.Shown.Word.bytes_of g.P.Red.Reduction.reducer g.P.VertexProgram.steps g.P.Red.Item.Word.WIDTH g.P.Shown.Word.WIDTH g.plan c.args.cluster.now c.args.finished.now c.requires.1.1.1.1.1.1.1.1
    c.run_round-tally.new.cluster c.run_round-tally.result come.stays come.round come.stands come.packets come.bytes (omega arith) c.from.result c.from.ensures

pub returns-clause-changes : goal.returns-clause-changes
returns-clause-changes g c =
    let come = c.run_round-tally.ensures in
    let fit = c.run_round-tally.type_inv in
    ap (nat_lt 0) (changed_there g.P.Red.Item.Word.bytes_of g.P.Shown.Word.bytes_of g.P.Red.Reduction.reducer g.P.VertexProgram.steps g.P.Red.Item.Word.WIDTH g.P.Shown.Word.WIDTH g.plan c.args.cluster.now c.args.finished.now c.requires.1.1.1.1.1.1.1.1
    c.run_round-tally.new.cluster c.run_round-tally.result come.stays come.round come.stands come.packets come.bytes (omega arith) come.changed)
