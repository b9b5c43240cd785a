use Rattle.std.proofs.Common.{◌≡◌, ◌+◌, ◌-◌, ◌*◌, map}
use Rattle.std.specs.Prelude.{option_map}
use Rattle.memo_exchange.specs.Asks.{asked_after}
use Rattle.cluster_laws.specs.Steps.{StepsInTurn}
use Rattle.cluster_laws.specs.Tally.{packets_of}
use Rattle.host_laws.specs.HostView.{HostView}
use Rattle.host_state.specs.Serving.{run_of}
use Rattle.round_driver.specs.Underway.{Underway, lasting, seen_as}
use Rattle.round_driver.proofs.turn.run_events.Given as goal

-- the events so far came in turn, and each of the others will be asked for once
abbrev pub invariant-loop-turn : goal.invariant-loop-turn
invariant-loop-turn g l = record {
  underway : Underway g.P.Red.Item.Word.IsValue g.P.Shown.Word.IsValue g.P.VertexProgram.IsState g.P.Red.Item.Word.bytes_of g.P.Shown.Word.bytes_of
      (run_of g.P.Red.Reduction.reducer (g.P.VertexProgram.steps g.moment.program) g.P.Red.Item.Word.WIDTH g.P.Shown.Word.WIDTH g.moment.division) g.moment.program g.moment.rounds l.hosts l.channels;
  same_lasting : map lasting l.hosts ≡ map lasting l.fn.hosts;
  steps : (spare : HostView g.row.P.Denot g.row.P-Red-Item.Denot g.row.P-State.Denot g.row.P-Shown.Denot) → StepsInTurn g.P.Red.Item.Word.bytes_of g.P.Shown.Word.bytes_of
      (run_of g.P.Red.Reduction.reducer (g.P.VertexProgram.steps g.moment.program) g.P.Red.Item.Word.WIDTH g.P.Shown.Word.WIDTH g.moment.division) g.moment.rounds l._turn
      (seen_as g.moment.division spare l.fn.hosts l.fn.channels) (seen_as g.moment.division spare l.hosts l.channels);
  asked : option_map (asked_after (2 * g.moment.division.hosts + packets_of g.moment.division - l._turn)) (g.K.Picker.asked l.picker) ≡ option_map (asked_after (2 * g.moment.division.hosts + packets_of g.moment.division)) (g.K.Picker.asked l.fn.picker);
  begun : g.K.Picker.begun l.picker ≡ g.K.Picker.begun l.fn.picker;
}

abbrev pub ghost-take_turn : goal.ghost-take_turn
ghost-take_turn g a = g.moment
