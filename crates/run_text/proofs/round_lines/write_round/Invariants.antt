use Rattle.std.proofs.Common.{take, length}
use Rattle.std.specs.List.{flat_map, range_with_len}
use Rattle.io_edge.specs.Writing.{WroteAll, state_of}
use Rattle.run_text.specs.Lines.{channel_line}
use Rattle.run_text.proofs.round_lines.write_round.Given as goal

-- the lines of the channels so far are written
abbrev pub invariant-loop-id : goal.invariant-loop-id
invariant-loop-id g l =
    WroteAll (state_of g.K.Sink l.initial.sink) (state_of g.K.Sink l.sink)
    (flat_map (channel_line l.round l.channels) (take l.id (range_with_len 0 (length l.channels.specs))))
