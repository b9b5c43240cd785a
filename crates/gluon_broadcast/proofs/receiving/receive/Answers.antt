use Rattle.std.proofs.Common.{◌<◌, ◌||◌, not, false, length, get_or, set, refl, sym, ap, subst, ◌∙◌, ◌∷◌, arith}
use Rattle.std.specs.Prelude.{unwrap_or}
use Rattle.std.specs.Option.{option_map_or}
use Rattle.std.proofs.Math.Bool.{or-false}
use Rattle.std.proofs.lemmas.List.{get_or-set_same, get_or-set_other, get_or_default, length-set}
use Rattle.list_laws.specs.Among.{place_of}
use Rattle.list_laws.specs.Members.{has_member}
use Rattle.field_encodings.specs.EntryOrder.{AreEntries}
use Rattle.field_encodings.specs.Packets.{value_at}
use Rattle.field_encodings.proofs.NextEntry.{rest_are_entries, one_entry_more}
use Rattle.gluon_broadcast.proofs.receiving.receive.Goals as goal

pub loop-position-preserved : goal.loop-position-preserved
loop-position-preserved g c =
    let locals = c.args.locals.now in
    let local = get_or c.args.locals.now c.in-Some.position 0 in
    let steps = c.in-Some.ensures.steps in
    let order : AreEntries g.W.Word.IsValue (length c.args.locals.now) ((c.in-Some.position, c.in-Some.value) ∷ c.next.new.self)
    = subst (λ found. AreEntries g.W.Word.IsValue (length c.args.locals.now) found) steps c.loop-position.invariant.order in
    let inside : c.in-Some.position < length c.args.locals.now = order.below 0 (c.in-Some.position, c.in-Some.value) (omega arith) in
    let has_next : get_or c.args.locals.now c.in-Some.position 0 < length c.loop-position.next = omega (arith, c.requires.has_next c.in-Some.position 0 inside) in
    let has_shown : get_or c.args.locals.now c.in-Some.position 0 < length c.args.shown.now = omega (arith, c.requires.has_shown c.in-Some.position 0 inside) in
    let has_bit : get_or c.args.locals.now c.in-Some.position 0 < length c.loop-position.awake
    = omega (arith, c.requires.has_bits c.in-Some.position 0 inside, c.loop-position.invariant.bits) in
    record {
      order = rest_are_entries locals c.requires.rise c.in-Some.position c.in-Some.value c.next.new.self order;
      next = λ k y.
          one_entry_more locals c.requires.rise c.in-Some.position c.in-Some.value c.next.new.self order
          (λ l z found. unwrap_or found z) (λ l z. refl) c.loop-position.next (set c.loop-position.next local c.in-Some.value) y
          (get_or-set_same c.loop-position.next local c.in-Some.value y has_next)
          (λ l apart. get_or-set_other c.loop-position.next local l c.in-Some.value y apart) k
          ∙ ap (λ found. unwrap_or (value_at found (place_of locals k)) (get_or c.loop-position.next k y)) (sym steps)
          ∙ c.loop-position.invariant.next k y;
      awake = λ k y.
          one_entry_more locals c.requires.rise c.in-Some.position c.in-Some.value c.next.new.self order
          (λ l b found. b || option_map_or (λ value. not (g.W.PartialEq.eq value (get_or c.args.shown.now l y))) found false) (λ l b. or-false b)
          c.loop-position.awake c.wake_if.new.awake false
          (ap (λ bits. has_member bits local) c.wake_if.ensures
          ∙ get_or-set_same c.loop-position.awake local (has_member c.loop-position.awake local || c.ne.result) false has_bit
          ∙ ap (λ b. has_member c.loop-position.awake local || b) (c.ne.ensures
          ∙ ap (λ z. not (g.W.PartialEq.eq c.in-Some.value z)) (c.index-shown-local.is ∙ get_or_default c.args.shown.now local c.index-shown-local.result y has_shown)))
          (λ l apart. ap (λ bits. has_member bits l) c.wake_if.ensures
          ∙ get_or-set_other c.loop-position.awake local l (has_member c.loop-position.awake local || c.ne.result) false apart) k
          ∙ ap (λ found. has_member c.loop-position.awake k || option_map_or (λ value. not (g.W.PartialEq.eq value (get_or c.args.shown.now k y))) (value_at found (place_of locals k)) false) (sym steps)
          ∙ c.loop-position.invariant.awake k y;
      bits = ap length c.wake_if.ensures ∙ length-set c.loop-position.awake local (has_member c.loop-position.awake local || c.ne.result) ∙ c.loop-position.invariant.bits;
    }

pub returns-clause-awake : goal.returns-clause-awake
returns-clause-awake g c = λ l y.
    sym (or-false (has_member c.loop-position.awake l))
    ∙ ap (λ found. has_member c.loop-position.awake l || option_map_or (λ value. not (g.W.PartialEq.eq value (get_or c.args.shown.now l y))) (value_at found (place_of c.args.locals.now l)) false) (sym c.in-None.ensures.steps.0)
    ∙ c.loop-position.invariant.awake l y
