use Rattle.std.proofs.Common.{◌≡◌, ◌+◌, ◌*◌, ◌∙◌, ℕ, List, Bool, [], take, ◌++◌, arith, sym, ap, refl}
use Rattle.std.specs.List.{flat_map}
use Rattle.list_laws.specs.LittleEndian.{le_bytes}
use Rattle.list_laws.specs.Members.{members, IsLeastMemberSince}
use Rattle.list_laws.proofs.Members.{members_since, members_since-next}
use Rattle.field_encodings.specs.Lists.{marks_at}
use Rattle.field_encodings.proofs.Writing.{IsWrittenTo-piece, written_whole, is_left, is_next, none_left, AreSentTo-next, AreSentTo-end}
use Rattle.field_encodings.proofs.writers.write_positions.Goals as goal

pub unwrap-position-requires : goal.unwrap-position-requires
unwrap-position-requires g c =
    is_left (marks_at c.args.list.now.bits.now c.args.list.now.locals.now) c.loop-written.place c.loop-written.written c.args.list.now.count c.next_updated.result
    c.loop-written.invariant.values.left c.loop-written-test.true c.next_updated.ensures

pub loop-written-preserved : goal.loop-written-preserved
loop-written-preserved g c =
    let marks : List Bool = marks_at c.args.list.now.bits.now c.args.list.now.locals.now in
    let m : ℕ = c.unwrap-position.result in
    let next : IsLeastMemberSince marks c.loop-written.place m = is_next marks c.loop-written.place m c.next_updated.result c.unwrap-position.ensures c.next_updated.ensures in
    record {
      names = IsWrittenTo-piece (le_bytes g.row.SIZE) g.row.SIZE g.row.SIZE c.loop-written.written c.loop-written.names c.put_number.new.out (flat_map (le_bytes g.row.SIZE) (members marks)) m
          (members_since marks c.loop-written.place) (members_since marks (m + 1)) refl (members_since-next marks c.loop-written.place m next) c.put_number.ensures c.loop-written.invariant.names;
      values = AreSentTo-next g.W.Word.bytes_of g.W.Word.WIDTH c.WIDTH.result c.args.list.now.bits.now c.args.list.now.values.now c.args.list.now.locals.now c.args.list.now.count c.loop-written.place c.loop-written.written m
          c.loop-written.text c.put_word.new.out c.index-list-local.result c.args.list.now.source.has_values next c.index-list-local.is c.WIDTH.ensures
          (c.put_word.ensures ∙ ap (λ x. take (c.loop-written.written * c.WIDTH.result) c.loop-written.text ++ g.W.Word.bytes_of x) (sym c.index-list-local.is)) c.loop-written.invariant.values;
    }

pub returns-clause-names : goal.returns-clause-names
returns-clause-names g c =
    let marks : List Bool = marks_at c.args.list.now.bits.now c.args.list.now.locals.now in
    let none : members_since marks c.loop-written.place ≡ []
    = none_left marks c.loop-written.place c.loop-written.written c.args.list.now.count c.loop-written.invariant.values.left c.loop-written-test.false in
    written_whole (le_bytes g.row.SIZE) g.row.SIZE c.loop-written.written c.args.list.now.count c.loop-written.names (flat_map (le_bytes g.row.SIZE) (members marks)) (members_since marks c.loop-written.place)
    none (omega (arith, c.loop-written.invariant.values.left, c.loop-written-test.false)) (omega (arith, c.loop-written.auto.names, c.requires.names_room)) c.loop-written.invariant.names

pub returns-clause-text : goal.returns-clause-text
returns-clause-text g c =
    AreSentTo-end g.W.Word.bytes_of g.W.Word.WIDTH c.args.list.now.bits.now c.args.list.now.values.now c.args.list.now.locals.now c.args.list.now.count c.loop-written.place c.loop-written.written
    c.loop-written.text c.args.list.now.source.has_values c.loop-written-test.false (omega (arith, c.loop-written.auto.text, c.requires.text_room)) c.loop-written.invariant.values
