use Rattle.std.specs.Prelude.{◌*◌, drop}
use Rattle.std.specs.List.{flat_map}
use Rattle.field_encodings.specs.Lists.{values_at}
use Rattle.field_encodings.proofs.Writing.{IsWrittenTo}
use Rattle.field_encodings.proofs.writers.write_all.Given as goal

-- the values of the positions so far are written
abbrev pub invariant-loop-position : goal.invariant-loop-position
invariant-loop-position g l =
    IsWrittenTo g.W.Word.bytes_of (l.position * g.W.Word.WIDTH) l.text (values_at l.list.values.now (drop l.position l.list.locals.now)) (flat_map g.W.Word.bytes_of (values_at l.list.values.now l.list.locals.now))
