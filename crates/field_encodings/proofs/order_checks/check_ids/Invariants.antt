use Rattle.std.proofs.Common.{◌≡◌, ◌≤◌, ◌<◌, ℕ, length, get_or, take, None}
use Rattle.list_laws.specs.LittleEndian.{numbers}
use Rattle.field_encodings.proofs.Faults.{id_walk}
use Rattle.field_encodings.proofs.FirstFault.{low_after}
use Rattle.field_encodings.proofs.order_checks.check_ids.Given as goal

-- the ids so far are sound, low is one above the last, and those before the place that is reached are lower
abbrev pub invariant-loop-i : goal.invariant-loop-i
invariant-loop-i l = record {
  sound : id_walk l.ids 0 0 (take l.i (numbers 4 l.left l.text)) ≡ None;
  is_low : l.low ≡ low_after 0 (take l.i (numbers 4 l.left l.text));
  within : l.from ≤ length l.ids;
  passed : (k : ℕ) → k < l.from → get_or l.ids k 0 < l.low;
}
