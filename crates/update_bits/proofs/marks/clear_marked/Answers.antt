use Rattle.std.proofs.Common.{arith}
use Rattle.update_bits.proofs.Marked.{none_marked}
use Rattle.update_bits.proofs.marks.clear_marked.Goals as goal

pub returns-clause-cleared : goal.returns-clause-cleared
returns-clause-cleared c k =
    none_marked c.loop-place.words c.loop-place.marks c.loop-place.invariant.1 (λ place inside. c.loop-place.invariant.0 place (omega arith)) k
