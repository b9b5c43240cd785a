use Rattle.std.proofs.Common.{◌≡◌, ◌+◌, length, drop, ◌-◌, ◌≤◌, ◌∙◌, arith, length-drop}
use Rattle.std.proofs.lemmas.List.{length-take}
use Rattle.list_laws.proofs.Fronts.{take_filled, length_filled}
use Rattle.io_edge.proofs.Moves.{Gives-++}
use Rattle.gr_reader.proofs.fill.fill.Goals as goal

pub loop-filled-preserved : goal.loop-filled-preserved
loop-filled-preserved g c =
    let old = c.loop-filled.into in
    let new = c.read.new.into in
    let within : c.loop-filled.filled + c.in_ok-came.came ≤ length old = omega (arith, c.in_ok-came.ensures.count, length-take (length old - c.loop-filled.filled) (drop c.loop-filled.filled old), length-drop c.loop-filled.filled old) in
    let long : length new ≡ length old - c.loop-filled.filled = omega (arith, c.read.auto.into, length-take (length old - c.loop-filled.filled) (drop c.loop-filled.filled old), length-drop c.loop-filled.filled old) in
    record {
      within = rw (length_filled c.loop-filled.filled old new c.loop-filled.invariant.within long) within;
      bytes = rw (take_filled c.loop-filled.filled c.in_ok-came.came old new c.loop-filled.invariant.within long)
          (Gives-++ _ _ _ _ _ c.loop-filled.invariant.bytes c.in_ok-came.ensures.bytes);
      quiet = c.in_ok-came.ensures.quiet ∙ c.loop-filled.invariant.quiet;
    }
