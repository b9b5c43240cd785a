use Rattle.std.specs.Prelude.{◌*◌}
use Rattle.std.specs.List.{flat_map}
use Rattle.list_laws.specs.LittleEndian.{le_bytes}
use Rattle.list_laws.specs.Members.{members}
use Rattle.list_laws.proofs.Members.{members_since}
use Rattle.field_encodings.specs.Lists.{marks_at}
use Rattle.field_encodings.proofs.Writing.{IsWrittenTo, AreSentTo}
use Rattle.field_encodings.proofs.writers.write_positions.Given as goal

-- the names and the values of the updated positions so far are written
abbrev pub invariant-loop-written : goal.invariant-loop-written
invariant-loop-written g l = record {
  names : IsWrittenTo (le_bytes g.row.SIZE) (l.written * g.row.SIZE) l.names (members_since (marks_at l.list.bits.now l.list.locals.now) l.place) (flat_map (le_bytes g.row.SIZE) (members (marks_at l.list.bits.now l.list.locals.now)));
  values : AreSentTo g.W.Word.bytes_of g.W.Word.WIDTH l.list.bits.now l.list.values.now l.list.locals.now l.list.count l.place l.written l.text;
}
