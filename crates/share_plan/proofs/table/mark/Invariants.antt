use Rattle.std.proofs.Common.{◌≡◌, ◌⊎◌, ◌<◌, ◌≤◌, ℕ, length, slice_index}
use Rattle.share_plan.proofs.table.mark.Given as goal

-- the places up to here are marked, and no others
abbrev pub invariant-loop-v : goal.invariant-loop-v
invariant-loop-v l = record {
  long : length l.table ≡ length l.initial.table;
  marked : (v : ℕ) → l.first ≤ v → v < l.v → slice_index l.table v ≡ l.host;
  others : (v : ℕ) → (v < l.first) ⊎ (l.v ≤ v) → slice_index l.table v ≡ slice_index l.initial.table v;
}
