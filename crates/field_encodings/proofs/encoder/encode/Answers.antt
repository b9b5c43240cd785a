use Rattle.std.proofs.Common.{◌^◌, ◌∙◌, Ok, length, refl, ap, arith}
use Rattle.std.proofs.lemmas.List.{length-map}
use Rattle.list_laws.specs.Members.{has_member, members}
use Rattle.field_encodings.specs.Lengths.{greatest_of}
use Rattle.field_encodings.specs.Lists.{marks_at, values_at}
use Rattle.field_encodings.specs.Forms.{entries}
use Rattle.field_encodings.proofs.Writing.{length-values_at}
use Rattle.field_encodings.proofs.Shortest.{sent_fits, sent_moved, sent_is_tag}
use Rattle.field_encodings.proofs.SentTag.{sent_tag_is_one}
use Rattle.field_encodings.proofs.ReadBack.{forms_read_back}
use Rattle.field_encodings.proofs.Accepted.{all_below}
use Rattle.field_encodings.proofs.encoder.encode.Goals as goal

pub returns-clause-shortest : goal.returns-clause-shortest
returns-clause-shortest g c =
    sent_moved (length c.args.ids.now) c.count_updated-updated.result.count (length (members (marks_at c.args.bits.now c.args.locals.now)))
    c.count_updated-updated.result.greatest (greatest_of (members (marks_at c.args.bits.now c.args.locals.now))) g.W.Word.WIDTH c.write_shortest.result.tag
    c.count_updated-updated.ensures.count c.count_updated-updated.ensures.greatest c.write_shortest.ensures.sent

pub returns-clause-tag : goal.returns-clause-tag
returns-clause-tag g c = (sent_tag_is_one _ _ _ _ _).0 (returns-clause-shortest g c)

pub returns-clause-fits : goal.returns-clause-fits
returns-clause-fits g c =
    sent_fits (length c.args.ids.now) (length c.args.ids.now) c.count_updated-updated.result.count c.count_updated-updated.result.greatest g.W.Word.WIDTH g.W.Word.WIDTH
    c.write_shortest.result.tag c.write_shortest.result.len _ refl refl (omega (arith, c.count_updated-updated.ensures.few, c.requires.one_length)) c.write_shortest.ensures.sent c.write_shortest.ensures.length (omega arith)

pub returns-clause-well_formed : goal.returns-clause-well_formed
returns-clause-well_formed g c values_are = record {
  is_tag = sent_is_tag (length c.args.ids.now) c.count_updated-updated.result.count c.count_updated-updated.result.greatest g.W.Word.WIDTH c.write_shortest.result.tag c.write_shortest.ensures.sent;
  mark_for_each = length-map c.args.locals.now (has_member c.args.bits.now) ∙ c.requires.one_length;
  value_for_each = length-values_at c.args.values.now c.args.locals.now c.requires.has_values ∙ c.requires.one_length;
  are_values = values_are;
  whole = c.write_shortest.ensures.form;
}

pub returns-clause-received : goal.returns-clause-received
returns-clause-received g c values_are =
    forms_read_back _ _ _ _ _ g.met.W.Word.laws c.args.ids.now _ c.write_shortest.result.tag (marks_at c.args.bits.now c.args.locals.now) (values_at c.args.values.now c.args.locals.now)
    (record { rise = c.requires.ids_rise; fit = all_below (2 ^ 32) c.args.ids.now (λ i. omega (arith, c.type_inv.ids i)); few = omega (arith, c.requires.short) })
    (returns-clause-well_formed g c values_are)
    ∙ ap (λ t. Ok (entries t (marks_at c.args.bits.now c.args.locals.now) (values_at c.args.values.now c.args.locals.now))) (returns-clause-tag g c)
