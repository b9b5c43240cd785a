use Rattle.std.proofs.Common.{◌≡◌, map}
use Rattle.std.specs.List.{range_with_len}
use Rattle.host_state.specs.Serving.{run_of}
use Rattle.round_driver.specs.ClusterState.{division_in}
use Rattle.run_text.specs.Told.{told_by}
use Rattle.trial_runs.proofs.answers.answers_in.Given as goal

abbrev pub invariant-loop-v : goal.invariant-loop-v
invariant-loop-v g l =
    l.answers.items
    ≡ map ((told_by g.P.Red.Item.Word.bytes_of g.P.Shown.Word.bytes_of (run_of g.P.Red.Reduction.reducer (g.P.VertexProgram.steps l.cluster.program) g.P.Red.Item.Word.WIDTH g.P.Shown.Word.WIDTH (division_in l.cluster))).answer l.cluster.round) (range_with_len 0 l.v)
