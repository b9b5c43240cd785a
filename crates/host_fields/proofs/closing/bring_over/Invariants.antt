use Rattle.std.proofs.Common.{◌≡◌, ◌<◌, ◌≤◌, ◌-◌, ℕ, length, take, get_or}
use Rattle.host_fields.proofs.Woken.{members_below}
use Rattle.host_fields.proofs.closing.bring_over.Given as goal

-- what is below the place is brought over, and what is not is as it was
abbrev pub invariant-loop-local : goal.invariant-loop-local
invariant-loop-local g l = record {
  inside : l.from ≤ length l.awake_next;
  brought : (k : ℕ) (y : g.row.W.Denot) → k < l.from → get_or l.shown k y ≡ get_or l.next k y;
  rest : (k : ℕ) (y : g.row.W.Denot) → l.from ≤ k → get_or l.shown k y ≡ get_or l.initial.shown k y;
  woken : l.woken ≡ members_below (take l.masters l.awake_next) l.from;
  few : l.woken ≤ l.from;
}

abbrev pub decreases-loop-local : goal.decreases-loop-local
decreases-loop-local g l = length l.awake_next - l.from
