use Rattle.std.proofs.Common.{sym, refl}
use Rattle.graph_division.specs.Partition.{division_of}
use Rattle.round_driver.specs.ClusterState.{division_in}
use Rattle.run_engine.specs.Running.{KeepsChanging}
use Rattle.run_engine.specs.Rounds.{Plan, nothing_yet}
use Rattle.run_engine.proofs.Asking.{asked_all}
use Rattle.run_engine.proofs.Going.{run_in, same_division, told_of_plan}
use Rattle.run_engine.proofs.quiet_run.run_quiet.Goals as goal

pub returns-in-Some-clause-asked : goal.returns-in-Some-clause-asked
returns-in-Some-clause-asked g c =
    asked_all (division_of c.args.way c.args.graphs.items) (division_in c.in-Ok.cluster) c.in-Some.finished.rounds c.run_quiet_rounds.new.cluster.round
    (g.K.Picker.asked c.args.picker.now) (g.K.Picker.asked c.prepare.new.picker) (g.K.Picker.asked c.run_quiet_rounds.new.picker)
    (same_division g.P.Red.Item.Word.bytes_of g.P.Shown.Word.bytes_of g.P.Red.Reduction.reducer g.P.VertexProgram.steps g.P.Red.Item.Word.WIDTH g.P.Shown.Word.WIDTH (record { program = c.args.program; way = c.args.way; shares = c.args.graphs.items }) c.in-Ok.cluster nothing_yet c.in-Ok.ensures.counted)
    (sym c.in-Some.ensures.ends.has_run.rounds) c.in-Ok.ensures.asked c.run_quiet_rounds.ensures.asked

pub returns-in-None-clause-spent : goal.returns-in-None-clause-spent
returns-in-None-clause-spent g c = (
  refl,
  told_of_plan g.P.Red.Item.Word.bytes_of g.P.Shown.Word.bytes_of g.P.Red.Reduction.reducer g.P.VertexProgram.steps g.P.Red.Item.Word.WIDTH g.P.Shown.Word.WIDTH (record { program = c.args.program; way = c.args.way; shares = c.args.graphs.items }) c.in-Ok.cluster nothing_yet c.in-Ok.ensures.counted
      (λ (plan : Plan g.row.P.Denot). KeepsChanging (run_in g.P.Red.Reduction.reducer g.P.VertexProgram.steps g.P.Red.Item.Word.WIDTH g.P.Shown.Word.WIDTH plan) c.args.budget) c.in-None.ensures.ends.1,
)

pub returns-in-None-clause-asked : goal.returns-in-None-clause-asked
returns-in-None-clause-asked g c =
    asked_all (division_of c.args.way c.args.graphs.items) (division_in c.in-Ok.cluster) c.args.budget c.run_quiet_rounds.new.cluster.round
    (g.K.Picker.asked c.args.picker.now) (g.K.Picker.asked c.prepare.new.picker) (g.K.Picker.asked c.run_quiet_rounds.new.picker)
    (same_division g.P.Red.Item.Word.bytes_of g.P.Shown.Word.bytes_of g.P.Red.Reduction.reducer g.P.VertexProgram.steps g.P.Red.Item.Word.WIDTH g.P.Shown.Word.WIDTH (record { program = c.args.program; way = c.args.way; shares = c.args.graphs.items }) c.in-Ok.cluster nothing_yet c.in-Ok.ensures.counted)
    c.in-None.ensures.ends.0 c.in-Ok.ensures.asked c.run_quiet_rounds.ensures.asked
