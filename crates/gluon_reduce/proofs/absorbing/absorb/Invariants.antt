use Rattle.std.proofs.Common.{◌≡◌, ◌||◌, ℕ, length, get_or}
use Rattle.std.specs.Prelude.{is_some}
use Rattle.std.specs.Option.{option_map_or}
use Rattle.list_laws.specs.Among.{place_of}
use Rattle.list_laws.specs.Members.{has_member}
use Rattle.field_encodings.specs.EntryOrder.{AreEntries}
use Rattle.field_encodings.specs.Packets.{value_at}
use Rattle.gluon_reduce.proofs.absorbing.absorb.Given as goal

-- what is changed so far, with what the entries to come will change, is what all entries change
abbrev pub invariant-loop-position : goal.invariant-loop-position
invariant-loop-position g l = record {
  order : AreEntries g.R.Item.Word.IsValue (length l.locals) l.position-iterator;
  sums : (k : ℕ) (d : g.row.R-Item.Denot)
      → option_map_or (g.R.Reduction.reducer.combine (get_or l.sums k d)) (value_at l.position-iterator (place_of l.locals k)) (get_or l.sums k d)
      ≡ option_map_or (g.R.Reduction.reducer.combine (get_or l.initial.sums k d)) (value_at l.fn.entries (place_of l.locals k)) (get_or l.initial.sums k d);
  touched : (k : ℕ) → (has_member l.touched k || is_some (value_at l.position-iterator (place_of l.locals k)))
      ≡ (has_member l.initial.touched k || is_some (value_at l.fn.entries (place_of l.locals k)));
  bits : length l.touched ≡ length l.initial.touched;
}
