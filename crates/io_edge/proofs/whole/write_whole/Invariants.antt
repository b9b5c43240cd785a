use Rattle.std.proofs.Common.{length, ◌-◌, ◌≤◌, take}
use Rattle.io_edge.specs.Writing.{WroteAll, state_of}
use Rattle.io_edge.proofs.whole.write_whole.Given as goal

-- what is done was written
abbrev pub invariant-loop-done : goal.invariant-loop-done
invariant-loop-done g l = record {
  in_range : l.done ≤ length l.bytes;
  written : WroteAll (state_of g.K.Sink l.initial.sink) (state_of g.K.Sink l.sink) (take l.done l.bytes);
}

abbrev pub decreases-loop-done : goal.decreases-loop-done
decreases-loop-done g l = length l.bytes - l.done
