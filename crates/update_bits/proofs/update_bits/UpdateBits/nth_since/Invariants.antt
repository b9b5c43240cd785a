use Rattle.std.proofs.Common.{◌≡◌, ◌≤◌, drop, length}
use Rattle.list_laws.specs.Members.{members_from}
use Rattle.update_bits.proofs.update_bits.UpdateBits.nth_since.Given as goal

-- the members from here on are those that are left
abbrev pub invariant-loop-passed : goal.invariant-loop-passed
invariant-loop-passed l = (members_from l.from (drop l.from l.self) ≡ drop l._passed (members_from l.start (drop l.start l.self))) × (l.from ≤ length l.self)
