use Rattle.std.proofs.Common.{◌≡◌, ◌||◌, ℕ, not, false, length, get_or}
use Rattle.std.specs.Prelude.{unwrap_or}
use Rattle.std.specs.Option.{option_map_or}
use Rattle.list_laws.specs.Among.{place_of}
use Rattle.list_laws.specs.Members.{has_member}
use Rattle.field_encodings.specs.EntryOrder.{AreEntries}
use Rattle.field_encodings.specs.Packets.{value_at}
use Rattle.gluon_broadcast.proofs.receiving.receive.Given as goal

-- what is changed so far, with what the entries to come will change, is what all entries change
abbrev pub invariant-loop-position : goal.invariant-loop-position
invariant-loop-position g l = record {
  order : AreEntries g.W.Word.IsValue (length l.locals) l.position-iterator;
  next : (k : ℕ) (y : g.row.W.Denot) → unwrap_or (value_at l.position-iterator (place_of l.locals k)) (get_or l.next k y)
      ≡ unwrap_or (value_at l.fn.entries (place_of l.locals k)) (get_or l.initial.next k y);
  awake : (k : ℕ) (y : g.row.W.Denot)
      → (has_member l.awake k || option_map_or (λ value. not (g.W.PartialEq.eq value (get_or l.shown k y))) (value_at l.position-iterator (place_of l.locals k)) false)
      ≡ (has_member l.initial.awake k || option_map_or (λ value. not (g.W.PartialEq.eq value (get_or l.shown k y))) (value_at l.fn.entries (place_of l.locals k)) false);
  bits : length l.awake ≡ length l.initial.awake;
}
