use Rattle.std.proofs.Common.{◌≡◌, ◌<◌, ℕ, length, slice_index}
use Rattle.share_plan.proofs.table.table.Given as goal

-- the vertices of the hosts so far have their masters
abbrev pub invariant-loop-host : goal.invariant-loop-host
invariant-loop-host l = record {
  long : length l.table.items ≡ length l.masters.masters;
  filled : (v : ℕ) → v < length l.masters.masters → slice_index l.masters.masters v < l.host → slice_index l.table.items v ≡ slice_index l.masters.masters v;
}
