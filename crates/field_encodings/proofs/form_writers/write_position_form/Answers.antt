use Rattle.std.proofs.Common.{arith, ◌∙◌}
use Rattle.std.specs.List.{flat_map, items_where_true}
use Rattle.list_laws.specs.Members.{members}
use Rattle.field_encodings.specs.Lists.{marks_at, values_at}
use Rattle.field_encodings.proofs.Shortest.{headed, position_text-from}
use Rattle.field_encodings.proofs.form_writers.write_position_form.Goals as goal

pub returns : goal.returns
returns g c =
    headed c.args.rest.now c.write_wide_pairs.new.rest c.position_width-width.result (omega arith)
    ∙ position_text-from (members (marks_at c.args.list.now.bits.now c.args.list.now.locals.now))
    (flat_map g.W.Word.bytes_of (items_where_true (marks_at c.args.list.now.bits.now c.args.list.now.locals.now) (values_at c.args.list.now.values.now c.args.list.now.locals.now)))
    c.write_wide_pairs.new.rest c.position_width-width.result c.args.list.now.greatest c.position_width-width.ensures c.args.list.now.last c.write_wide_pairs.ensures
