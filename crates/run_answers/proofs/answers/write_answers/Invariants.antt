use Rattle.std.specs.List.{flat_map, range_with_len}
use Rattle.io_edge.specs.Writing.{WroteAll, state_of as sink_state}
use Rattle.host_state.specs.Serving.{run_of}
use Rattle.round_driver.specs.ClusterState.{division_in}
use Rattle.run_answers.proofs.HostByHost.{below}
use Rattle.run_answers.proofs.Masters.{answer_text}
use Rattle.run_answers.proofs.answers.write_answers.Given as goal

-- the vertices of the hosts so far are written
abbrev pub invariant-loop-host : goal.invariant-loop-host
invariant-loop-host g l =
    WroteAll (sink_state g.K.Sink l.initial.sink) (sink_state g.K.Sink l.sink)
    (flat_map (answer_text (run_of g.P.Red.Reduction.reducer (g.P.VertexProgram.steps l.cluster.program) g.P.Red.Item.Word.WIDTH g.P.Shown.Word.WIDTH (division_in l.cluster)) l.cluster.round)
    (below (division_in l.cluster).master l.host-index (range_with_len 0 (division_in l.cluster).nodes)))
