use Rattle.std.proofs.Common.{◌+◌, ◌*◌, ◌/◌, arith}
use Rattle.update_bits.proofs.Marked.{next_later}
use Rattle.update_bits.proofs.marks.next_marked.Goals as goal

pub returns : goal.returns
returns c =
    next_later c.args.words.now c.args.i ((c.args.i / 64 + 1) * 64) c.next_from_word.result (omega arith) (λ k since before. c.in_default.ensures k since (omega arith)) c.next_from_word.ensures
