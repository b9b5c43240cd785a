use Rattle.std.proofs.Common.{arith, ◌∙◌, ap, ◌∷◌, length}
use Rattle.field_encodings.proofs.Shortest.{headed, form_length-pos}
use Rattle.field_encodings.proofs.encoder.write_form.Goals as goal

pub returns : goal.returns
returns g c =
    headed c.args.text.now c.write_rest.new.rest c.args.tag
    (omega (arith, c.requires.room, form_length-pos (length c.args.list.now.ids.now) c.args.list.now.count c.args.list.now.greatest g.W.Word.WIDTH c.args.tag))
    ∙ ap (λ l. c.args.tag ∷ l) c.write_rest.ensures
