use Rattle.std.proofs.Common.{◌+◌, ◌*◌, ◌<◌, ◌++◌, ◌∙◌, take, drop, length, ap, sym}
use Rattle.std.specs.List.{flat_map}
use Rattle.std.proofs.lemmas.List.Elements.{All-get_or}
use Rattle.field_encodings.specs.Lists.{values_at}
use Rattle.field_encodings.proofs.Writing.{IsWrittenTo-piece, values_at-drop}
use Rattle.field_encodings.proofs.writers.write_all.Goals as goal

pub loop-position-preserved : goal.loop-position-preserved
loop-position-preserved g c =
    IsWrittenTo-piece g.W.Word.bytes_of g.W.Word.WIDTH c.WIDTH.result c.loop-position.position c.loop-position.text c.put_word.new.out
    (flat_map g.W.Word.bytes_of (values_at c.args.list.now.values.now c.args.list.now.locals.now)) c.index-list-local.result
    (values_at c.args.list.now.values.now (drop c.loop-position.position c.args.list.now.locals.now)) (values_at c.args.list.now.values.now (drop (c.loop-position.position + 1) c.args.list.now.locals.now))
    c.WIDTH.ensures
    (values_at-drop c.args.list.now.values.now c.args.list.now.locals.now c.loop-position.position c.index-list-local.result c.loop-position-test.true
    (All-get_or (λ local. local < length c.args.list.now.values.now) c.args.list.now.locals.now c.loop-position.position 0 c.loop-position-test.true c.args.list.now.source.has_values)
    c.index-list-local.is)
    (c.put_word.ensures ∙ ap (λ x. take (c.loop-position.position * c.WIDTH.result) c.loop-position.text ++ g.W.Word.bytes_of x) (sym c.index-list-local.is)) c.loop-position.invariant
