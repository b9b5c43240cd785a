use Rattle.std.proofs.Common.{◌*◌, take}
use Rattle.hex.specs.Hex.{encode_lower}
use Rattle.io_edge.specs.Writing.{WroteAll, state_of}
use Rattle.answer_writer.proofs.trace.write_hex.Given as goal

-- the pieces so far were written
abbrev pub invariant-loop-piece : goal.invariant-loop-piece
invariant-loop-piece g l =
    WroteAll (state_of g.K.Sink l.initial.sink) (state_of g.K.Sink l.sink) (encode_lower (take (l.piece * 2048) l.bytes))
