use Rattle.std.specs.Prelude.{◌≡◌, ◌-◌, length, take}
use Rattle.list_laws.specs.Bits.{packed}
use Rattle.field_encodings.specs.Lists.{marks_at}
use Rattle.field_encodings.specs.Lengths.{vector_length}
use Rattle.field_encodings.proofs.Writing.{AreSentTo}
use Rattle.field_encodings.proofs.writers.write_marked.Given as goal

-- the bits of the positions so far and the values of the updated ones are written
abbrev pub invariant-loop-written : goal.invariant-loop-written
invariant-loop-written g l = record {
  names : l.names ≡ packed 8 (vector_length (length l.list.locals.now)) (take l.position (marks_at l.list.bits.now l.list.locals.now));
  values : AreSentTo g.W.Word.bytes_of g.W.Word.WIDTH l.list.bits.now l.list.values.now l.list.locals.now l.list.count l.position l.written l.text;
}

-- each turn takes one position
abbrev pub decreases-loop-written : goal.decreases-loop-written
decreases-loop-written g l = length l.list.locals.now - l.position
