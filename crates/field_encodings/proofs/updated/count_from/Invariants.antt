use Rattle.std.specs.Prelude.{◌-◌, length}
use Rattle.field_encodings.proofs.Counted.{IsCountedTo}
use Rattle.field_encodings.proofs.updated.count_from.Given as goal

-- what is counted so far, with what the rest counts, is the whole
abbrev pub invariant-loop-position : goal.invariant-loop-position
invariant-loop-position l = IsCountedTo l.bits l.locals l.place l.count l.greatest

-- each position is behind the one before
abbrev pub decreases-loop-position : goal.decreases-loop-position
decreases-loop-position l = length l.locals - l.place
