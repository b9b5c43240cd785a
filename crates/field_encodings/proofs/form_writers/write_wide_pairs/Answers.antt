use Rattle.std.proofs.Common.{◌≡◌, ◌+◌, ◌*◌, ◌++◌, arith, ◌∙◌, ap, sym}
use Rattle.std.specs.List.{flat_map, items_where_true}
use Rattle.list_laws.specs.LittleEndian.{le_bytes}
use Rattle.list_laws.specs.Members.{members}
use Rattle.field_encodings.specs.Lists.{marks_at, values_at}
use Rattle.field_encodings.proofs.Shortest.{width_is_four}
use Rattle.field_encodings.proofs.form_writers.write_wide_pairs.Goals as goal

pub write_position_pairs-requires-in_default-clause-room : goal.write_position_pairs-requires-in_default-clause-room
write_position_pairs-requires-in_default-clause-room g c =
    let four : c.args.width ≡ 4 = width_is_four c.args.list.now.greatest c.args.width c.requires.is_width (λ e. omega arith) (λ e. omega arith) in
    c.requires.room ∙ ap (λ w. c.args.list.now.count * (w + g.W.Word.WIDTH)) four

pub returns-in_default : goal.returns-in_default
returns-in_default g c =
    let four : c.args.width ≡ 4 = width_is_four c.args.list.now.greatest c.args.width c.requires.is_width (λ e. omega arith) (λ e. omega arith) in
    c.write_position_pairs-in_default.ensures
    ∙ ap (λ w. flat_map (le_bytes w) (members (marks_at c.args.list.now.bits.now c.args.list.now.locals.now))
    ++ flat_map g.W.Word.bytes_of (items_where_true (marks_at c.args.list.now.bits.now c.args.list.now.locals.now) (values_at c.args.list.now.values.now c.args.list.now.locals.now))) (sym four)
