use Rattle.std.proofs.Common.{◌<◌, length, get_or, set, refl, sym, ap, subst, ◌∙◌, ◌∷◌, arith}
use Rattle.std.specs.Option.{option_map_or}
use Rattle.std.proofs.lemmas.List.{get_or-set_same, get_or-set_other}
use Rattle.std.proofs.lemmas.List.Elements.{All-set}
use Rattle.list_laws.specs.Among.{place_of}
use Rattle.field_encodings.specs.EntryOrder.{AreEntries}
use Rattle.field_encodings.specs.Packets.{value_at}
use Rattle.field_encodings.proofs.NextEntry.{rest_are_entries, one_entry_more}
use Rattle.host_fields.proofs.keeping.keep_told.Goals as goal

pub loop-position-preserved : goal.loop-position-preserved
loop-position-preserved g c =
    let locals = c.args.locals.now in
    let local = get_or c.args.locals.now c.in-Some.position 0 in
    let keep = (g.P.VertexProgram.steps c.args.program.now).keep in
    let laws = g.met.P.VertexProgram.laws c.args.program.now in
    let steps = c.in-Some.ensures.steps in
    let order : AreEntries g.P.Shown.Word.IsValue (length c.args.locals.now) ((c.in-Some.position, c.in-Some.value) ∷ c.next.new.self)
    = subst (λ found. AreEntries g.P.Shown.Word.IsValue (length c.args.locals.now) found) steps c.loop-position.invariant.order in
    let inside : c.in-Some.position < length c.args.locals.now = order.below 0 (c.in-Some.position, c.in-Some.value) (omega arith) in
    let has_item : get_or c.args.locals.now c.in-Some.position 0 < length c.loop-position.items = omega (arith, c.requires.has_items c.in-Some.position 0 inside) in
    let is_value : g.P.Shown.Word.IsValue c.in-Some.value = order.values 0 (c.in-Some.position, c.in-Some.value) (omega arith) in
    record {
      order = rest_are_entries locals c.requires.rise c.in-Some.position c.in-Some.value c.next.new.self order;
      items = λ k d.
          one_entry_more locals c.requires.rise c.in-Some.position c.in-Some.value c.next.new.self order
          (λ l y found. option_map_or keep found y) (λ l y. refl) c.loop-position.items (set c.loop-position.items local c.keep.result) d
          (get_or-set_same c.loop-position.items local c.keep.result d has_item ∙ c.keep.ensures)
          (λ l apart. get_or-set_other c.loop-position.items local l c.keep.result d apart) k
          ∙ ap (λ found. option_map_or keep (value_at found (place_of locals k)) (get_or c.loop-position.items k d)) (sym steps)
          ∙ c.loop-position.invariant.items k d;
      are_items = All-set g.P.Red.Item.Word.IsValue c.loop-position.items local c.keep.result
          (subst g.P.Red.Item.Word.IsValue (sym c.keep.ensures) (laws.keep_is_value c.in-Some.value is_value)) c.loop-position.invariant.are_items;
    }
