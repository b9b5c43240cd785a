use Rattle.std.specs.Prelude.{◌≡◌, ◌≤◌, ◌<◌, ℕ, false}
use Rattle.list_laws.specs.Members.{has_member}
use Rattle.field_encodings.specs.Lists.{marks_at}
use Rattle.field_encodings.proofs.next_updated.next_by_steps.Given as goal

-- no position so far is updated
abbrev pub invariant-loop-position : goal.invariant-loop-position
invariant-loop-position l = (k : ℕ) → l.place ≤ k → k < l.position → has_member (marks_at l.bits l.locals) k ≡ false
