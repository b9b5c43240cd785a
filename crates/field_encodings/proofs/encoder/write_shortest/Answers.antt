use Rattle.std.proofs.Common.{◌∙◌, ◌≤◌, ◌≡◌, length, sym, refl, arith}
use Rattle.std.proofs.lemmas.List.{length-take-le, length-map}
use Rattle.field_encodings.proofs.Shortest.{sent_fits, same_length, sent_nothing, form_of_nothing, front_set, behind_set}
use Rattle.list_laws.specs.Members.{has_member}
use Rattle.field_encodings.specs.Lists.{marks_at, values_at}
use Rattle.field_encodings.proofs.Writing.{length-values_at}
use Rattle.field_encodings.proofs.ReaderLemmas.{word_width}
use Rattle.field_encodings.proofs.encoder.write_shortest.Goals as goal

pub slice_bounds-text-end : goal.slice_bounds-text-end
slice_bounds-text-end g c =
    sent_fits (length c.args.list.now.ids.now) (length c.args.list.now.ids.now) c.args.list.now.count c.args.list.now.greatest c.WIDTH.result g.W.Word.WIDTH
    c.choose_form-coded.result.tag c.choose_form-coded.result.len (length c.args.out.now) refl c.WIDTH.ensures
    (omega (arith, c.args.list.now.few, c.args.list.now.source.one_length)) c.choose_form-coded.ensures.sent c.choose_form-coded.ensures.len c.requires.room

pub slice_bounds-text-end-2 : goal.slice_bounds-text-end-2
slice_bounds-text-end-2 g c =
    let fits : c.choose_form-coded.result.len ≤ length c.args.out.now =
    sent_fits (length c.args.list.now.ids.now) (length c.args.list.now.ids.now) c.args.list.now.count c.args.list.now.greatest c.WIDTH.result g.W.Word.WIDTH
    c.choose_form-coded.result.tag c.choose_form-coded.result.len (length c.args.out.now) refl c.WIDTH.ensures
    (omega (arith, c.args.list.now.few, c.args.list.now.source.one_length)) c.choose_form-coded.ensures.sent c.choose_form-coded.ensures.len c.requires.room in
    sym (length-take-le c.choose_form-coded.result.len c.args.out.now fits)

pub write_form-requires-clause-room : goal.write_form-requires-clause-room
write_form-requires-clause-room g c =
    let fits : c.choose_form-coded.result.len ≤ length c.args.out.now =
    sent_fits (length c.args.list.now.ids.now) (length c.args.list.now.ids.now) c.args.list.now.count c.args.list.now.greatest c.WIDTH.result g.W.Word.WIDTH
    c.choose_form-coded.result.tag c.choose_form-coded.result.len (length c.args.out.now) refl c.WIDTH.ensures
    (omega (arith, c.args.list.now.few, c.args.list.now.source.one_length)) c.choose_form-coded.ensures.sent c.choose_form-coded.ensures.len c.requires.room in
    length-take-le c.choose_form-coded.result.len c.args.out.now fits
    ∙ c.choose_form-coded.ensures.len
    ∙ same_length (length c.args.list.now.ids.now) (length c.args.list.now.ids.now) c.args.list.now.count c.args.list.now.greatest c.WIDTH.result g.W.Word.WIDTH
    c.choose_form-coded.result.tag refl c.WIDTH.ensures

pub returns-then-list-eq0-clause-sent : goal.returns-then-list-eq0-clause-sent
returns-then-list-eq0-clause-sent g c =
    sent_nothing (length c.args.list.now.ids.now) c.args.list.now.count c.args.list.now.greatest g.W.Word.WIDTH (word_width g.met.W.Word.laws).0 (omega arith)

pub returns-then-list-eq0-clause-length : goal.returns-then-list-eq0-clause-length
returns-then-list-eq0-clause-length g c =
    let none : c.args.list.now.count ≡ 0 = omega arith in rw none (omega arith)

pub returns-then-list-eq0-clause-form : goal.returns-then-list-eq0-clause-form
returns-then-list-eq0-clause-form g c =
    let marks : length (marks_at c.args.list.now.bits.now c.args.list.now.locals.now) ≡ length c.args.list.now.locals.now = length-map c.args.list.now.locals.now (has_member c.args.list.now.bits.now) in
    front_set c.args.out.now 3 (omega arith)
    ∙ sym (form_of_nothing g.W.Word.bytes_of c.args.list.now.ids.now (marks_at c.args.list.now.bits.now c.args.list.now.locals.now) (values_at c.args.list.now.values.now c.args.list.now.locals.now)
    (omega (arith, c.args.list.now.source.one_length))
    (length-values_at c.args.list.now.values.now c.args.list.now.locals.now c.args.list.now.source.has_values ∙ sym marks)
    (omega (arith, c.args.list.now.counted)))

pub returns-then-list-eq0-clause-rest : goal.returns-then-list-eq0-clause-rest
returns-then-list-eq0-clause-rest g c = behind_set c.args.out.now 3
