use Rattle.std.proofs.Common.{◌≡◌, ◌≤◌, take, None}
use Rattle.list_laws.specs.LittleEndian.{numbers}
use Rattle.field_encodings.proofs.Faults.{position_walk}
use Rattle.field_encodings.proofs.FirstFault.{low_after}
use Rattle.field_encodings.proofs.order_checks.check_sized_positions.Given as goal

-- the positions so far are sound, and low is one above the last
abbrev pub invariant-loop-i : goal.invariant-loop-i
invariant-loop-i g l = record {
  sound : position_walk l.count 0 0 (take l.i (numbers g.row.SIZE l.left l.text)) ≡ None;
  is_low : l.low ≡ low_after 0 (take l.i (numbers g.row.SIZE l.left l.text));
  many : l.i ≤ l.low;
  within : l.low ≤ l.count;
}
