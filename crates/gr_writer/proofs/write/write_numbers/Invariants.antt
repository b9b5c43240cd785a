use Rattle.std.proofs.Common.{take}
use Rattle.list_laws.specs.LittleEndian.{le_text}
use Rattle.io_edge.specs.Writing.{WroteAll, state_of}
use Rattle.gr_writer.proofs.write.write_numbers.Given as goal

-- the numbers so far were written
abbrev pub invariant-loop-number : goal.invariant-loop-number
invariant-loop-number g l = WroteAll (state_of g.K.Sink l.initial.sink) (state_of g.K.Sink l.sink) (le_text 8 (take l.number-index l.numbers))
