use Rattle.std.proofs.Common.{◌≡◌, ◌*◌}
use Rattle.std.specs.Prelude.{option_map}
use Rattle.graph_division.specs.Partition.{division_of}
use Rattle.io_edge.specs.Writing.{state_of, WroteAll}
use Rattle.memo_exchange.specs.Asks.{asked_after}
use Rattle.run_text.specs.Asks.{round_asks}
use Rattle.run_engine.specs.Running.{KeepsChanging}
use Rattle.run_engine.specs.Rounds.{HasCounted, rounds_text}
use Rattle.run_engine.proofs.Going.{run_in}
use Rattle.run_engine.proofs.told_rounds.run_told_rounds.Given as goal

-- as many rounds were run as the loop has come to, each changed something, and their packets were told
abbrev pub invariant-loop-round : goal.invariant-loop-round
invariant-loop-round g l = record {
  counted : HasCounted g.P.Red.Item.Word.bytes_of g.P.Shown.Word.bytes_of (run_in g.P.Red.Reduction.reducer g.P.VertexProgram.steps g.P.Red.Item.Word.WIDTH g.P.Shown.Word.WIDTH g.plan) g.plan l.cluster l.finished;
  round : l.cluster.round ≡ l._round;
  keeps : KeepsChanging (run_in g.P.Red.Reduction.reducer g.P.VertexProgram.steps g.P.Red.Item.Word.WIDTH g.P.Shown.Word.WIDTH g.plan) l._round;
  wrote : WroteAll (state_of g.O.Sink l.fn.sink) (state_of g.O.Sink l.sink)
      (rounds_text g.P.Red.Item.Word.bytes_of g.P.Shown.Word.bytes_of (run_in g.P.Red.Reduction.reducer g.P.VertexProgram.steps g.P.Red.Item.Word.WIDTH g.P.Shown.Word.WIDTH g.plan) l.fn.trace l._round);
  asked : g.K.Picker.asked l.picker ≡ option_map (asked_after (l.cluster.round * round_asks (division_of g.plan.way g.plan.shares))) (g.K.Picker.asked l.fn.picker);
  begun : g.K.Picker.begun l.picker ≡ g.K.Picker.begun l.fn.picker;
}

abbrev pub ghost-run_next : goal.ghost-run_next
ghost-run_next g a = g.plan

abbrev pub ghost-tell_round : goal.ghost-tell_round
ghost-tell_round g a = g.plan
