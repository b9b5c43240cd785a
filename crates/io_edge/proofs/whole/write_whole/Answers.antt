use Rattle.std.proofs.Common.{arith, length-drop, take, drop}
use Rattle.std.proofs.Math.Seq.{take-add}
use Rattle.std.proofs.lemmas.List.{take_rest, take-append-drop}
use Rattle.io_edge.specs.Writing.{WroteAll, WroteFront, state_of}
use Rattle.io_edge.proofs.Writings.{WroteAll-++, WroteFront-++, WroteFront-none, WroteBy-err}
use Rattle.io_edge.proofs.whole.write_whole.Goals as goal

pub loop-done-preserved : goal.loop-done-preserved
loop-done-preserved g c = record {
  in_range = omega (arith, c.in_ok-done.ensures.count, length-drop c.loop-done.done c.args.bytes.now);
  written =
      let step : WroteAll (state_of g.K.Sink c.loop-done.sink) (state_of g.K.Sink c.write.new.self) (take c.in_ok-done.field-0 (drop c.loop-done.done c.args.bytes.now)) = record {
        whole = rw take_rest at c.in_ok-done.ensures.gained;
        quiet = c.in_ok-done.ensures.quiet;
        passed = c.in_ok-done.ensures.passed;
      } in
      rw take-add (WroteAll-++ c.loop-done.invariant.written step);
}

pub returns-in_err-done-clause-written : goal.returns-in_err-done-clause-written
returns-in_err-done-clause-written g c =
    let after = state_of g.K.Sink c.write.new.self in
    let failed : WroteFront (state_of g.K.Sink c.loop-done.sink) after (drop c.loop-done.done c.args.bytes.now) =
    WroteFront-none _ c.in_err-done.ensures.held_stays c.in_err-done.ensures.rose c.in_err-done.ensures.passed in
    WroteBy-err c.from_residual.ensures.0 (rw take-append-drop at (WroteFront-++ c.loop-done.invariant.written failed))
