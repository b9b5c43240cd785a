use Rattle.std.proofs.Common.{take}
use Rattle.io_edge.specs.Writing.{WroteAll, state_of}
use Rattle.answer_writer.specs.Lines.{spaced_numbers}
use Rattle.answer_writer.proofs.words.write_spaced_numbers.Given as goal

-- the numbers so far were written
abbrev pub invariant-loop-n : goal.invariant-loop-n
invariant-loop-n g l =
    WroteAll (state_of g.K.Sink l.initial.sink) (state_of g.K.Sink l.sink) (spaced_numbers (take l.n-index l.numbers))
