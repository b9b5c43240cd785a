use Rattle.std.proofs.Common.{◌∙◌, ◌^◌, arith}
use Rattle.field_encodings.proofs.Accepted.{accepted_if, all_below}
use Rattle.field_encodings.proofs.EntryOrderLemmas.{found_if}
use Rattle.field_encodings.proofs.ReadBack.{forms_read_back}
use Rattle.field_encodings.proofs.decoder.decode.Goals as goal

pub returns-clause-form : goal.returns-clause-form
returns-clause-form g c =
    accepted_if _ _ _ _ _ g.met.W.Word.laws c.args.ids.now c.args.bytes.now c.read_payload.result c.requires.rising
    (all_below 256 c.args.bytes.now (λ i. omega (arith, c.type_inv.bytes i))) c.read_payload.ensures

pub returns-clause-order : goal.returns-clause-order
returns-clause-order g c = found_if g.W.Word.IsValue g.W.Word.bytes_of c.args.ids.now c.args.bytes.now c.read_payload.result (returns-clause-form g c)

pub returns-clause-all_forms : goal.returns-clause-all_forms
returns-clause-all_forms g c tag marks values f =
    c.read_payload.ensures
    ∙ forms_read_back _ _ _ _ _ g.met.W.Word.laws c.args.ids.now c.args.bytes.now tag marks values
    (record { rise = c.requires.rising; fit = all_below (2 ^ 32) c.args.ids.now (λ i. omega (arith, c.type_inv.ids i)); few = omega (arith, c.requires.short) }) f
