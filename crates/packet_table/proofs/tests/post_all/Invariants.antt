use Rattle.std.specs.Prelude.{◌≡◌, ℕ, ◌≤◌, false, length}
use Rattle.list_laws.specs.Members.{has_member}
use Rattle.packet_table.proofs.tests.post_all.Given as goal

-- the channels from here on are not in flight
abbrev pub invariant-loop-id : goal.invariant-loop-id
invariant-loop-id l = record {
  count : length l.channels.specs ≡ l.id-end;
  resting : (k : ℕ) → l.id ≤ k → has_member l.channels.flying k ≡ false;
}
