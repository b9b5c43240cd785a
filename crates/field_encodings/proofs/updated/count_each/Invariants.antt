use Rattle.field_encodings.proofs.Counted.{IsCountedTo}
use Rattle.field_encodings.proofs.updated.count_each.Given as goal

-- what is counted so far, with what the rest counts, is the whole
abbrev pub invariant-loop-position : goal.invariant-loop-position
invariant-loop-position l = IsCountedTo l.bits l.locals l.position l.count l.greatest
