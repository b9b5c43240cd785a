use Rattle.std.proofs.Common.{List, Bool, length, replicate, false, sym, ap, ◌∙◌, arith}
use Rattle.std.specs.List.{count_by, range_with_len}
use Rattle.std.proofs.lemmas.List.{with_items_is}
use Rattle.address_memo.specs.Memos.{list_at}
use Rattle.cluster_laws.specs.Channels.{is_needed}
use Rattle.host_core.proofs.Closing.{closed_fields_kept, closed_fields_serve}
use Rattle.host_core.proofs.host.Host.close.Goals as goal

pub invariant_of-self : goal.invariant_of-self
invariant_of-self g c =
    let inside = c.self.inside in
    let is = c.self.invariant.is_host in
    closed_fields_kept _ _ _ _ _ _ _ _ c.self.invariant
    (with_items_is inside.shown c.bring_over-woken.new.shown (omega (arith, inside.shown.ok.0, ap length c.deref_mut.ensures.value, c.bring_over-woken.auto.shown)) ∙ c.bring_over-woken.ensures.shown ∙ c.deref.ensures.value)
    c.swap.ensures.x_after
    (c.clear_all.ensures ∙ ap (λ (bits : List Bool). replicate (length bits) false) c.swap.ensures.y_after ∙ ap (λ n. replicate n false) (is.awake_fit ∙ sym is.awake_next_fit))
    (c.fill.ensures.items (λ y same. same) ∙ ap (λ n. replicate n false) (omega (arith, inside.took_reduce.ok.0)))
    (c.fill-2.ensures.items (λ y same. same) ∙ ap (λ n. replicate n false) (omega (arith, inside.took_broadcast.ok.0)))
    (c.count_needed-self-inside.ensures ∙ ap (λ n. count_by (λ peer. is_needed (list_at inside.memo.reduce_from peer).globals) (range_with_len 0 n)) c.hosts-hosts.ensures.hosts)
    (c.count_needed-self-inside-2.ensures ∙ ap (λ n. count_by (λ peer. is_needed (list_at inside.memo.spread_from peer).globals) (range_with_len 0 n)) c.hosts-hosts.ensures.hosts)

pub returns-clause-serves : goal.returns-clause-serves
returns-clause-serves g c = λ division rounds serves fact stands.
    let inside = c.self.inside in
    let is = c.self.invariant.is_host in
    closed_fields_serve g.P.Red.Reduction.reducer (g.P.VertexProgram.steps c.args.self.now.view.program) g.P.Red.Item.Word.WIDTH g.P.Shown.Word.WIDTH division rounds _ c.args.self.now _ _ _ _ _ c.self.view_is is
    (with_items_is inside.shown c.bring_over-woken.new.shown (omega (arith, inside.shown.ok.0, ap length c.deref_mut.ensures.value, c.bring_over-woken.auto.shown)) ∙ c.bring_over-woken.ensures.shown ∙ c.deref.ensures.value)
    c.swap.ensures.x_after
    (c.clear_all.ensures ∙ ap (λ (bits : List Bool). replicate (length bits) false) c.swap.ensures.y_after ∙ ap (λ n. replicate n false) (is.awake_fit ∙ sym is.awake_next_fit))
    (c.fill.ensures.items (λ y same. same) ∙ ap (λ n. replicate n false) (omega (arith, inside.took_reduce.ok.0)))
    (c.fill-2.ensures.items (λ y same. same) ∙ ap (λ n. replicate n false) (omega (arith, inside.took_broadcast.ok.0)))
    c.requires serves fact stands
