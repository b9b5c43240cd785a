use Rattle.std.proofs.Common.{◌≡◌, ℕ, length, get_or}
use Rattle.std.specs.List.{All}
use Rattle.std.specs.Option.{option_map_or}
use Rattle.list_laws.specs.Among.{place_of}
use Rattle.field_encodings.specs.EntryOrder.{AreEntries}
use Rattle.field_encodings.specs.Packets.{value_at}
use Rattle.host_fields.proofs.keeping.keep_told.Given as goal

-- what is kept so far, with what the entries to come will change, is what all entries change
abbrev pub invariant-loop-position : goal.invariant-loop-position
invariant-loop-position g l = record {
  order : AreEntries g.P.Shown.Word.IsValue (length l.locals) l.position-iterator;
  items : (k : ℕ) (d : g.row.P-Red-Item.Denot)
      → option_map_or (g.P.VertexProgram.steps l.program).keep (value_at l.position-iterator (place_of l.locals k)) (get_or l.items k d)
      ≡ option_map_or (g.P.VertexProgram.steps l.program).keep (value_at l.fn.entries (place_of l.locals k)) (get_or l.initial.items k d);
  are_items : All g.P.Red.Item.Word.IsValue l.items;
}
