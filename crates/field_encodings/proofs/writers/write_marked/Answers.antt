use Rattle.std.proofs.Common.{◌≡◌, ◌<◌, ◌*◌, ◌∙◌, ℕ, List, Bool, [], length, take, ◌++◌, replicate, arith, sym, ap}
use Rattle.std.proofs.lemmas.List.{length-map}
use Rattle.list_laws.specs.Bits.{packed}
use Rattle.list_laws.specs.Members.{has_member}
use Rattle.list_laws.proofs.Members.{members_since}
use Rattle.list_laws.proofs.Since.{packed_front-end}
use Rattle.list_laws.proofs.PackedBits.{packed-none}
use Rattle.field_encodings.specs.Lists.{marks_at}
use Rattle.field_encodings.specs.Lengths.{vector_length}
use Rattle.field_encodings.proofs.NextUpdated.{mark_here}
use Rattle.field_encodings.proofs.Writing.{is_inside, none_left, packed_front-step, AreSentTo-start, AreSentTo-step, AreSentTo-end}
use Rattle.field_encodings.proofs.writers.write_marked.Goals as goal

pub loop-written-preserved : goal.loop-written-preserved
loop-written-preserved g c =
    let bits : List Bool = c.args.list.now.bits.now in
    let locals : List ℕ = c.args.list.now.locals.now in
    let marks : List Bool = marks_at bits locals in
    let position : ℕ = c.loop-written.position in
    let inside : position < length locals = is_inside bits locals position c.loop-written.written c.args.list.now.count c.loop-written.invariant.values.left c.loop-written-test.true in
    record {
      names = packed_front-step (vector_length (length locals)) marks position c.test-updated.result c.loop-written.names
          (omega (arith, length-map locals (has_member bits))) (omega arith) (c.test-updated.ensures ∙ sym (mark_here bits locals position inside)) c.loop-written.invariant.names;
      values = AreSentTo-step g.W.Word.bytes_of g.W.Word.WIDTH c.WIDTH.result bits c.args.list.now.values.now locals c.args.list.now.count position c.loop-written.written
          c.loop-written.text c.put_word.new.out c.index-list-local.result c.test-updated.result c.args.list.now.source.has_values inside c.test-updated.ensures c.index-list-local.is c.WIDTH.ensures
          c.loop-written-test.true (omega (arith, c.loop-written.auto.text, c.requires.text_room))
          (c.put_word.ensures ∙ ap (λ x. take (c.loop-written.written * c.WIDTH.result) c.loop-written.text ++ g.W.Word.bytes_of x) (sym c.index-list-local.is)) c.loop-written.invariant.values;
    }

pub returns-clause-names : goal.returns-clause-names
returns-clause-names g c =
    let marks : List Bool = marks_at c.args.list.now.bits.now c.args.list.now.locals.now in
    let none : members_since marks c.loop-written.position ≡ []
    = none_left marks c.loop-written.position c.loop-written.written c.args.list.now.count c.loop-written.invariant.values.left c.loop-written-test.false in
    c.loop-written.invariant.names
    ∙ packed_front-end 8 (vector_length (length c.args.list.now.locals.now)) marks c.loop-written.position none
    ∙ ap (λ n. packed 8 (vector_length n) marks) (sym (length-map c.args.list.now.locals.now (has_member c.args.list.now.bits.now)))

pub returns-clause-text : goal.returns-clause-text
returns-clause-text g c =
    AreSentTo-end g.W.Word.bytes_of g.W.Word.WIDTH c.args.list.now.bits.now c.args.list.now.values.now c.args.list.now.locals.now c.args.list.now.count c.loop-written.position c.loop-written.written
    c.loop-written.text c.args.list.now.source.has_values c.loop-written-test.false (omega (arith, c.loop-written.auto.text, c.requires.text_room)) c.loop-written.invariant.values

pub loop-written-init : goal.loop-written-init
loop-written-init g c = record {
  names = c.fill.ensures.after (λ y e. e) ∙ ap (λ n. replicate n 0) c.requires.names_room ∙ sym (packed-none (vector_length (length c.args.list.now.locals.now)));
  values = AreSentTo-start g.W.Word.bytes_of g.W.Word.WIDTH c.args.list.now.bits.now c.args.list.now.values.now c.args.list.now.locals.now c.args.list.now.count c.args.text.now c.args.list.now.counted;
}
