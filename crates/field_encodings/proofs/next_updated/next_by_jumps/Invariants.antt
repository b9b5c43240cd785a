use Rattle.std.specs.Prelude.{◌≡◌, ◌≤◌, ◌<◌, ◌-◌, ℕ, false, length}
use Rattle.list_laws.specs.Members.{has_member}
use Rattle.field_encodings.specs.Lists.{marks_at}
use Rattle.field_encodings.proofs.next_updated.next_by_jumps.Given as goal

-- no position before the one that is reached is updated
abbrev pub invariant-loop-from : goal.invariant-loop-from
invariant-loop-from l = record {
  since : l.place ≤ l.from;
  within : l.from ≤ length l.locals;
  none : (k : ℕ) → l.place ≤ k → k < l.from → has_member (marks_at l.bits l.locals) k ≡ false;
}

-- each jump goes on
abbrev pub decreases-loop-from : goal.decreases-loop-from
decreases-loop-from l = length l.locals - l.from
