use Rattle.std.proofs.Common.{length, ap, subst, ◌∙◌, arith}
use Rattle.std.specs.Vec.{with_items}
use Rattle.std.proofs.lemmas.List.{with_items_is}
use Rattle.host_laws.specs.Effects.{after_reduce}
use Rattle.host_state.specs.HostState.{HostState, IsHost}
use Rattle.host_core.proofs.Taking.{reduce_short, reduce_inside, reduce_to_come, reduce_kept, reduce_own}
use Rattle.host_core.proofs.Serving.{reduce_serves}
use Rattle.host_core.proofs.host.Host.take_reduce.Goals as goal

pub decode-requires-clause-short : goal.decode-requires-clause-short
decode-requires-clause-short g c = reduce_short c.self.invariant c.self.view_is c.args.from c.requires.from c.list-list.result.now c.list-list.ensures.list c.globals.result.now c.globals.ensures.globals

pub absorb-requires-clause-has_sums : goal.absorb-requires-clause-has_sums
absorb-requires-clause-has_sums g c =
    reduce_inside c.self.invariant c.self.view_is c.args.from c.requires.from c.list-list.result.now c.list-list.ensures.list c.locals.result.now c.locals.ensures.locals
    (length c.deref_mut.result.now) (ap length c.deref_mut.ensures.value ∙ c.self.invariant.is_host.items_fit)

pub absorb-requires-clause-has_bits : goal.absorb-requires-clause-has_bits
absorb-requires-clause-has_bits g c =
    reduce_inside c.self.invariant c.self.view_is c.args.from c.requires.from c.list-list.result.now c.list-list.ensures.list c.locals.result.now c.locals.ensures.locals
    (length c.self.inside.news) c.self.invariant.news_fit

pub overflow_sub-self : goal.overflow_sub-self
overflow_sub-self g c =
    let come = reduce_to_come c.self.invariant c.self.view_is c.args.from c.requires.from c.list-list.result.now c.list-list.ensures.list c.requires.expected c.requires.first in
    omega arith

pub invariant_of-self : goal.invariant_of-self
invariant_of-self g c =
    reduce_kept c.self.invariant c.self.view_is c.args.from c.requires.from c.list-list.result.now c.list-list.ensures.list
    g.met.P.Red.Reduction.laws c.globals.result.now c.locals.result.now c.globals.ensures.globals c.locals.ensures.locals c.in-Ok.entries c.in-Ok.ensures.order
    c.deref_mut.result.now c.absorb.new.sums _ c.absorb.new.touched c.deref_mut.ensures.value (with_items_is c.self.inside.items c.absorb.new.sums (let old = c.deref_mut.ensures.value in omega arith))
    c.absorb.auto.sums c.absorb.ensures.length c.absorb.ensures.sums c.absorb.ensures.touched c.requires.expected c.requires.first

pub returns-clause-own : goal.returns-clause-own
returns-clause-own g c =
    reduce_own c.self.invariant c.self.view_is c.args.from c.requires.from c.list-list.result.now c.list-list.ensures.list
    g.met.P.Red.Reduction.laws c.globals.result.now c.locals.result.now c.globals.ensures.globals c.locals.ensures.locals c.in-Ok.entries c.in-Ok.ensures.order
    c.deref_mut.result.now c.absorb.new.sums _ c.absorb.new.touched c.deref_mut.ensures.value (with_items_is c.self.inside.items c.absorb.new.sums (let old = c.deref_mut.ensures.value in omega arith))
    c.absorb.auto.sums c.absorb.ensures.length c.absorb.ensures.sums c.absorb.ensures.touched
    g.P.Red.Item.Word.bytes_of c.args.payload.now c.decode.result c.in-Ok.is c.decode.ensures.all_forms

pub returns-clause-serves : goal.returns-clause-serves
returns-clause-serves g c = λ division rounds serves fact stands came.
    reduce_serves g.P.Red.Reduction.reducer (g.P.VertexProgram.steps c.args.self.now.view.program) g.P.Red.Item.Word.WIDTH g.P.Shown.Word.WIDTH
    division rounds c.args.from c.args.self.now _ (subst (λ (host : HostState _ _ _ _). IsHost host) c.self.view_is c.self.invariant.is_host) serves fact stands c.requires.from c.args.payload.now
    g.P.Red.Item.Word.bytes_of (with_items c.self.inside.items c.absorb.new.sums).items c.requires.first c.requires.in_time
    (ap (λ (host : HostState _ _ _ _). after_reduce c.args.from host.view (with_items c.self.inside.items c.absorb.new.sums).items) c.self.view_is)
    (returns-clause-own g c) came
