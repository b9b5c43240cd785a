use Rattle.std.proofs.Common.{length, All, sym, ap, subst, ◌∙◌, refl, arith}
use Rattle.std.specs.Vec.{with_items}
use Rattle.std.proofs.lemmas.List.{with_items_is}
use Rattle.field_encodings.specs.Checks.{checked}
use Rattle.host_laws.specs.Effects.{after_broadcast}
use Rattle.host_state.specs.HostState.{HostState, IsHost}
use Rattle.host_core.proofs.Telling.{read_twice, keeps_told, keeps_none, broadcast_short, broadcast_inside, broadcast_to_come, broadcast_kept, broadcast_own}
use Rattle.host_core.proofs.Serving.{broadcast_serves}
use Rattle.host_core.proofs.host.Host.take_broadcast.Goals as goal
use Rattle.host_core.proofs.host.Host.take_broadcast.Goals.{then-KEEPS+in-Ok-decode, else-KEEPS}

pub decode-requires-clause-short : goal.decode-requires-clause-short
decode-requires-clause-short g c =
    broadcast_short g.P.VertexProgram.steps c.self.invariant c.self.view_is c.args.from c.requires.from c.list-list.result.now c.list-list.ensures.list c.globals.ensures.facts c.globals.result.now c.globals.ensures.globals

pub receive-requires-clause-has_shown : goal.receive-requires-clause-has_shown
receive-requires-clause-has_shown g c =
    broadcast_inside g.P.VertexProgram.steps c.self.invariant c.self.view_is c.args.from c.requires.from c.list-list.result.now c.list-list.ensures.list c.globals.ensures.facts c.locals.result.now c.locals.ensures.locals
    (length c.deref.result.now) (ap length c.deref.ensures.value ∙ c.self.invariant.is_host.shown_fit)

pub receive-requires-clause-has_next : goal.receive-requires-clause-has_next
receive-requires-clause-has_next g c =
    broadcast_inside g.P.VertexProgram.steps c.self.invariant c.self.view_is c.args.from c.requires.from c.list-list.result.now c.list-list.ensures.list c.globals.ensures.facts c.locals.result.now c.locals.ensures.locals
    (length c.deref_mut.result.now) (ap length c.deref_mut.ensures.value ∙ c.self.invariant.is_host.next_fit)

pub receive-requires-clause-has_bits : goal.receive-requires-clause-has_bits
receive-requires-clause-has_bits g c =
    broadcast_inside g.P.VertexProgram.steps c.self.invariant c.self.view_is c.args.from c.requires.from c.list-list.result.now c.list-list.ensures.list c.globals.ensures.facts c.locals.result.now c.locals.ensures.locals
    (length c.self.inside.awake_next) c.self.invariant.is_host.awake_next_fit

pub decode-requires-then-KEEPS-clause-short : goal.decode-requires-then-KEEPS-clause-short
decode-requires-then-KEEPS-clause-short g c =
    broadcast_short g.P.VertexProgram.steps c.self.invariant c.self.view_is c.args.from c.requires.from c.list-list.result.now c.list-list.ensures.list c.globals.ensures.facts c.globals-then-KEEPS.result.now c.globals-then-KEEPS.ensures.globals

pub keep_told-requires-clause-has_items : goal.keep_told-requires-clause-has_items
keep_told-requires-clause-has_items g c =
    broadcast_inside g.P.VertexProgram.steps c.self.invariant c.self.view_is c.args.from c.requires.from c.list-list.result.now c.list-list.ensures.list c.globals.ensures.facts c.locals-in-Ok-decode.result.now c.locals-in-Ok-decode.ensures.locals
    (length c.deref_mut-in-Ok-decode.result.now) (ap length c.deref_mut-in-Ok-decode.ensures.value ∙ c.self.invariant.is_host.items_fit)

pub overflow_sub-self : goal.overflow_sub-self
overflow_sub-self g c =
    let come = broadcast_to_come g.P.VertexProgram.steps c.self.invariant c.self.view_is c.args.from c.requires.from c.list-list.result.now c.list-list.ensures.list c.globals.ensures.facts c.requires.expected c.requires.first in
    elim c.if-KEEPS.branch [
      | then-KEEPS+in-Ok-decode w ↦ rw w.self-inside-is (omega arith)
      | else-KEEPS w ↦ rw w.self-inside-is (omega arith)
    ]

pub invariant_of-self : goal.invariant_of-self
invariant_of-self g c =
    let kept = broadcast_kept g.P.VertexProgram.steps c.self.invariant c.self.view_is c.args.from c.requires.from c.list-list.result.now c.list-list.ensures.list c.globals.ensures.facts
    (g.met.P.VertexProgram.laws c.self.inside.program) g.P.Shown.PartialEq.eq g.met.P.Shown.Word.laws.eq_is_same
    c.globals.result.now c.locals.result.now c.globals.ensures.globals c.locals.ensures.locals c.in-Ok.entries c.in-Ok.ensures.order
    c.deref.result.now c.deref_mut.result.now c.receive.new.next (with_items c.self.inside.next c.receive.new.next).items c.deref.ensures.value c.deref_mut.ensures.value
    (with_items_is c.self.inside.next c.receive.new.next (let old = c.deref_mut.ensures.value in omega arith)) c.receive.auto.next
    c.receive.new.awake c.receive.ensures.length c.receive.ensures.next c.receive.ensures.awake in
    elim c.if-KEEPS.branch [
      | then-KEEPS+in-Ok-decode w ↦
          rw w.self-inside-is (kept (with_items c.self.inside.items w.keep_told.new.items).items
          (ap length (with_items_is c.self.inside.items w.keep_told.new.items (let old = w.deref_mut-in-Ok-decode.ensures.value in omega arith)) ∙ w.keep_told.ensures.length ∙ ap length w.deref_mut-in-Ok-decode.ensures.value)
          (keeps_told g.P.Red.Reduction.reducer.keeps (g.P.VertexProgram.steps c.self.inside.program).keep (g.met.P.Red.Reduction.keeps ∙ sym c.KEEPS.ensures ∙ w.if-KEEPS.true)
          c.list-list.result.now w.locals-in-Ok-decode.result.now w.locals-in-Ok-decode.ensures.locals c.in-Ok.entries w.in-Ok-decode.entries
          (read_twice (λ ids. checked g.P.Shown.Word.WIDTH g.P.Shown.Word.value_of ids c.args.payload.now) c.globals.result.now w.globals-then-KEEPS.result.now c.list-list.result.now.globals
          c.decode.result w.decode-then-KEEPS.result c.in-Ok.entries w.in-Ok-decode.entries c.in-Ok.is c.decode.ensures.checks w.in-Ok-decode.is w.decode-then-KEEPS.ensures.checks c.globals.ensures.globals w.globals-then-KEEPS.ensures.globals)
          c.self.inside.items.items w.deref_mut-in-Ok-decode.result.now w.keep_told.new.items (with_items c.self.inside.items w.keep_told.new.items).items
          w.deref_mut-in-Ok-decode.ensures.value (with_items_is c.self.inside.items w.keep_told.new.items (let old = w.deref_mut-in-Ok-decode.ensures.value in omega arith)) w.keep_told.ensures.items)
          c.requires.expected c.requires.first)
      | else-KEEPS w ↦
          rw w.self-inside-is (kept c.self.inside.items.items refl
          (keeps_none g.P.Red.Reduction.reducer.keeps (g.P.VertexProgram.steps c.self.inside.program).keep (g.met.P.Red.Reduction.keeps ∙ sym c.KEEPS.ensures ∙ w.if-KEEPS.false)
          c.list-list.result.now c.in-Ok.entries c.self.inside.items.items)
          c.requires.expected c.requires.first)
    ]

pub returns-clause-own : goal.returns-clause-own
returns-clause-own g c =
    let own = broadcast_own g.P.VertexProgram.steps c.self.invariant c.self.view_is c.args.from c.requires.from c.list-list.result.now c.list-list.ensures.list c.globals.ensures.facts
    (g.met.P.VertexProgram.laws c.self.inside.program) g.P.Shown.PartialEq.eq g.met.P.Shown.Word.laws.eq_is_same
    c.globals.result.now c.locals.result.now c.globals.ensures.globals c.locals.ensures.locals c.in-Ok.entries c.in-Ok.ensures.order
    c.deref.result.now c.deref_mut.result.now c.receive.new.next (with_items c.self.inside.next c.receive.new.next).items c.deref.ensures.value c.deref_mut.ensures.value
    (with_items_is c.self.inside.next c.receive.new.next (let old = c.deref_mut.ensures.value in omega arith)) c.receive.auto.next
    c.receive.new.awake c.receive.ensures.length c.receive.ensures.next c.receive.ensures.awake in
    elim c.if-KEEPS.branch [
      | then-KEEPS+in-Ok-decode w ↦
          rw w.self-inside-is (own (with_items c.self.inside.items w.keep_told.new.items).items
          (ap length (with_items_is c.self.inside.items w.keep_told.new.items (let old = w.deref_mut-in-Ok-decode.ensures.value in omega arith)) ∙ w.keep_told.ensures.length ∙ ap length w.deref_mut-in-Ok-decode.ensures.value)
          (keeps_told g.P.Red.Reduction.reducer.keeps (g.P.VertexProgram.steps c.self.inside.program).keep (g.met.P.Red.Reduction.keeps ∙ sym c.KEEPS.ensures ∙ w.if-KEEPS.true)
          c.list-list.result.now w.locals-in-Ok-decode.result.now w.locals-in-Ok-decode.ensures.locals c.in-Ok.entries w.in-Ok-decode.entries
          (read_twice (λ ids. checked g.P.Shown.Word.WIDTH g.P.Shown.Word.value_of ids c.args.payload.now) c.globals.result.now w.globals-then-KEEPS.result.now c.list-list.result.now.globals
          c.decode.result w.decode-then-KEEPS.result c.in-Ok.entries w.in-Ok-decode.entries c.in-Ok.is c.decode.ensures.checks w.in-Ok-decode.is w.decode-then-KEEPS.ensures.checks c.globals.ensures.globals w.globals-then-KEEPS.ensures.globals)
          c.self.inside.items.items w.deref_mut-in-Ok-decode.result.now w.keep_told.new.items (with_items c.self.inside.items w.keep_told.new.items).items
          w.deref_mut-in-Ok-decode.ensures.value (with_items_is c.self.inside.items w.keep_told.new.items (let old = w.deref_mut-in-Ok-decode.ensures.value in omega arith)) w.keep_told.ensures.items)
          _ g.P.Shown.Word.bytes_of c.args.payload.now c.decode.result c.in-Ok.is c.decode.ensures.all_forms)
      | else-KEEPS w ↦
          rw w.self-inside-is (own c.self.inside.items.items refl
          (keeps_none g.P.Red.Reduction.reducer.keeps (g.P.VertexProgram.steps c.self.inside.program).keep (g.met.P.Red.Reduction.keeps ∙ sym c.KEEPS.ensures ∙ w.if-KEEPS.false)
          c.list-list.result.now c.in-Ok.entries c.self.inside.items.items)
          _ g.P.Shown.Word.bytes_of c.args.payload.now c.decode.result c.in-Ok.is c.decode.ensures.all_forms)
    ]

pub returns-clause-serves : goal.returns-clause-serves
returns-clause-serves g c = λ division rounds serves fact stands came.
    broadcast_serves g.P.Red.Reduction.reducer (g.P.VertexProgram.steps c.args.self.now.view.program) g.P.Red.Item.Word.WIDTH g.P.Shown.Word.WIDTH
    division rounds c.args.from c.args.self.now _ (subst (λ (host : HostState _ _ _ _). IsHost host) c.self.view_is c.self.invariant.is_host) serves fact stands c.requires.from c.args.payload.now
    g.P.Shown.Word.bytes_of g.P.Shown.PartialEq.eq g.met.P.Shown.Word.laws.eq_is_same (subst (λ (host : HostState _ _ _ _). All g.P.Shown.Word.IsValue host.view.shown) c.self.view_is c.self.invariant.shown_are)
    c.if-KEEPS.self-inside.next.items c.if-KEEPS.self-inside.items.items c.if-KEEPS.self-inside.awake_next c.requires.first c.requires.in_time
    (elim c.if-KEEPS.branch [
      | then-KEEPS+in-Ok-decode w ↦ rw w.self-inside-is (ap (λ (host : HostState _ _ _ _). after_broadcast c.args.from host.view (with_items c.self.inside.next c.receive.new.next).items (with_items c.self.inside.items w.keep_told.new.items).items c.receive.new.awake) c.self.view_is)
      | else-KEEPS w ↦ rw w.self-inside-is (ap (λ (host : HostState _ _ _ _). after_broadcast c.args.from host.view (with_items c.self.inside.next c.receive.new.next).items c.self.inside.items.items c.receive.new.awake) c.self.view_is)
    ])
    (returns-clause-own g c) came
