use Rattle.std.proofs.Common.{◌<◌, ◌||◌, false, true, length, get_or, set, refl, sym, ap, subst, ◌∙◌, ◌∷◌, arith}
use Rattle.std.specs.Prelude.{is_some}
use Rattle.std.specs.Option.{option_map_or}
use Rattle.std.proofs.Math.Bool.{or-false, or-true}
use Rattle.std.proofs.lemmas.List.{get_or-set_same, get_or-set_other, get_or_default, length-set}
use Rattle.list_laws.specs.Among.{place_of}
use Rattle.list_laws.specs.Members.{has_member}
use Rattle.field_encodings.specs.EntryOrder.{AreEntries}
use Rattle.field_encodings.specs.Packets.{value_at}
use Rattle.field_encodings.proofs.NextEntry.{rest_are_entries, one_entry_more}
use Rattle.gluon_reduce.proofs.absorbing.absorb.Goals as goal

pub loop-position-preserved : goal.loop-position-preserved
loop-position-preserved g c =
    let locals = c.args.locals.now in
    let local = get_or c.args.locals.now c.in-Some.position 0 in
    let combine = g.R.Reduction.reducer.combine in
    let steps = c.in-Some.ensures.steps in
    let order : AreEntries g.R.Item.Word.IsValue (length c.args.locals.now) ((c.in-Some.position, c.in-Some.value) ∷ c.next.new.self)
    = subst (λ found. AreEntries g.R.Item.Word.IsValue (length c.args.locals.now) found) steps c.loop-position.invariant.order in
    let inside : c.in-Some.position < length c.args.locals.now = order.below 0 (c.in-Some.position, c.in-Some.value) (omega arith) in
    let has_sum : get_or c.args.locals.now c.in-Some.position 0 < length c.loop-position.sums = omega (arith, c.requires.has_sums c.in-Some.position 0 inside) in
    let has_bit : get_or c.args.locals.now c.in-Some.position 0 < length c.loop-position.touched
    = omega (arith, c.requires.has_bits c.in-Some.position 0 inside, c.loop-position.invariant.bits) in
    record {
      order = rest_are_entries locals c.requires.rise c.in-Some.position c.in-Some.value c.next.new.self order;
      sums = λ k d.
          one_entry_more locals c.requires.rise c.in-Some.position c.in-Some.value c.next.new.self order
          (λ l y found. option_map_or (combine y) found y) (λ l y. refl) c.loop-position.sums (set c.loop-position.sums local c.combine.result) d
          (get_or-set_same c.loop-position.sums local c.combine.result d has_sum ∙ c.combine.ensures
          ∙ ap (λ y. combine y c.in-Some.value) (c.index-sums-local.is ∙ get_or_default c.loop-position.sums local c.index-sums-local.result d has_sum))
          (λ l apart. get_or-set_other c.loop-position.sums local l c.combine.result d apart) k
          ∙ ap (λ found. option_map_or (combine (get_or c.loop-position.sums k d)) (value_at found (place_of locals k)) (get_or c.loop-position.sums k d)) (sym steps)
          ∙ c.loop-position.invariant.sums k d;
      touched = λ k.
          one_entry_more locals c.requires.rise c.in-Some.position c.in-Some.value c.next.new.self order
          (λ l b found. b || is_some found) (λ l b. or-false b) c.loop-position.touched c.set.new.self false
          (ap (λ bits. has_member bits local) c.set.ensures ∙ get_or-set_same c.loop-position.touched local true false has_bit
          ∙ sym (or-true (has_member c.loop-position.touched local)))
          (λ l apart. ap (λ bits. has_member bits l) c.set.ensures ∙ get_or-set_other c.loop-position.touched local l true false apart) k
          ∙ ap (λ found. has_member c.loop-position.touched k || is_some (value_at found (place_of locals k))) (sym steps)
          ∙ c.loop-position.invariant.touched k;
      bits = ap length c.set.ensures ∙ length-set c.loop-position.touched local true ∙ c.loop-position.invariant.bits;
    }
