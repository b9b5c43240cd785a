use Rattle.std.proofs.Common.{◌≡◌, ◌≤◌, ℕ, Bool, map, length, sym, ap, subst, ◌∙◌, arith}
use Rattle.std.proofs.lemmas.Option.{get_or_from_slice_get}
use Rattle.graph_division.specs.Shares.{proxies_here, nodes_of}
use Rattle.proxy_graph.specs.Heads.{vertex_at}
use Rattle.address_memo.specs.Memos.{Proxies}
use Rattle.address_memo.specs.Legs.{is_taken}
use Rattle.address_memo.proofs.Filters.{picked_more, picked_same, mapped_more}
use Rattle.address_memo.proofs.Mirrors.{in_order, own_few}
use Rattle.address_memo.proofs.Listing.{listed_whole, listed_are_proxies}
use Rattle.address_memo.proofs.own_lists.own_list.Goals as goal
use Rattle.address_memo.proofs.own_lists.own_list.Goals.{then-takes_part+in_ok-push+in_ok-push-2, else-takes_part}

pub loop-lid-preserved : goal.loop-lid-preserved
loop-lid-preserved c =
    let f : ℕ → ℕ = vertex_at c.args.graph.now in
    let p : ℕ → Bool = λ lid. is_taken c.args.leg c.args.way c.args.graph.now (vertex_at c.args.graph.now lid) in
    let since = c.loop-lid.auto.lid in
    elim c.if-takes_part.branch [
      | then-takes_part+in_ok-push+in_ok-push-2 w ↦
          let picks = picked_more p c.mirrors_from-first.result c.loop-lid.lid c.loop-lid.locals.items since c.loop-lid.invariant.locals (sym c.takes_part.ensures ∙ w.if-takes_part.true) in
          let vertex = sym (get_or_from_slice_get (proxies_here c.args.graph.now) c.loop-lid.lid w.global.result 0 w.global.ensures.vertex) in
          let maps = mapped_more f c.loop-lid.locals.items c.loop-lid.globals.items c.loop-lid.lid w.global.result c.loop-lid.invariant.globals vertex in
          record {
            locals = ap (λ l. l.items) w.locals-is ∙ w.in_ok-push.ensures.items ∙ picks;
            globals = ap (λ l. l.items) w.globals-is ∙ w.in_ok-push-2.ensures.items ∙ maps ∙ ap (map f) (sym (ap (λ l. l.items) w.locals-is ∙ w.in_ok-push.ensures.items));
          }
      | else-takes_part w ↦
          let passes = picked_same p c.mirrors_from-first.result c.loop-lid.lid c.loop-lid.locals.items since c.loop-lid.invariant.locals (sym c.takes_part.ensures ∙ w.if-takes_part.false) in
          record {
            locals = ap (λ l. l.items) w.locals-is ∙ passes;
            globals = ap (λ l. l.items) w.globals-is ∙ c.loop-lid.invariant.globals ∙ ap (map f) (sym (ap (λ l. l.items) w.locals-is));
          }
    ]

pub new-requires : goal.new-requires
new-requires c =
    let last = c.loop-lid.auto.lid-end (in_order c.args.leg c.args.way c.args.graph.now c.hosts.ensures.facts c.args.peer c.mirrors_from-first.result c.mirrors_from-end.result c.mirrors_from-first.ensures c.mirrors_from-end.ensures) in
    let done = c.loop-lid-test.false in
    let end : c.loop-lid.lid ≡ c.mirrors_from-end.result = omega arith in
    let listed = c.shrink_to_fit.ensures.items ∙ c.loop-lid.invariant.locals in
    let mapped = c.shrink_to_fit-2.ensures.items ∙ c.loop-lid.invariant.globals ∙ ap (map (vertex_at c.args.graph.now)) (sym c.shrink_to_fit.ensures.items) in
    listed_are_proxies c.args.leg c.args.way c.args.graph.now c.hosts.ensures.facts c.args.peer c.mirrors_from-first.result c.mirrors_from-end.result c.mirrors_from-first.ensures c.mirrors_from-end.ensures c.loop-lid.lid end c.shrink_to_fit.new.self.items c.shrink_to_fit-2.new.self.items listed mapped

pub returns-clause-list : goal.returns-clause-list
returns-clause-list c =
    let last = c.loop-lid.auto.lid-end (in_order c.args.leg c.args.way c.args.graph.now c.hosts.ensures.facts c.args.peer c.mirrors_from-first.result c.mirrors_from-end.result c.mirrors_from-first.ensures c.mirrors_from-end.ensures) in
    let done = c.loop-lid-test.false in
    let end : c.loop-lid.lid ≡ c.mirrors_from-end.result = omega arith in
    let listed = c.shrink_to_fit.ensures.items ∙ c.loop-lid.invariant.locals in
    let mapped = c.shrink_to_fit-2.ensures.items ∙ c.loop-lid.invariant.globals ∙ ap (map (vertex_at c.args.graph.now)) (sym c.shrink_to_fit.ensures.items) in
    c.new.ensures
    ∙ listed_whole c.args.leg c.args.way c.args.graph.now c.hosts.ensures.facts c.args.peer c.mirrors_from-first.result c.mirrors_from-end.result c.mirrors_from-first.ensures c.mirrors_from-end.ensures c.loop-lid.lid end c.shrink_to_fit.new.self.items c.shrink_to_fit-2.new.self.items listed mapped

pub returns-clause-few : goal.returns-clause-few
returns-clause-few c =
    let last = c.loop-lid.auto.lid-end (in_order c.args.leg c.args.way c.args.graph.now c.hosts.ensures.facts c.args.peer c.mirrors_from-first.result c.mirrors_from-end.result c.mirrors_from-first.ensures c.mirrors_from-end.ensures) in
    let done = c.loop-lid-test.false in
    let end : c.loop-lid.lid ≡ c.mirrors_from-end.result = omega arith in
    let listed = c.shrink_to_fit.ensures.items ∙ c.loop-lid.invariant.locals in
    let mapped = c.shrink_to_fit-2.ensures.items ∙ c.loop-lid.invariant.globals ∙ ap (map (vertex_at c.args.graph.now)) (sym c.shrink_to_fit.ensures.items) in
    let whole = c.new.ensures
    ∙ listed_whole c.args.leg c.args.way c.args.graph.now c.hosts.ensures.facts c.args.peer c.mirrors_from-first.result c.mirrors_from-end.result c.mirrors_from-first.ensures c.mirrors_from-end.ensures c.loop-lid.lid end c.shrink_to_fit.new.self.items c.shrink_to_fit-2.new.self.items listed mapped in
    subst (λ (list : Proxies). length list.globals ≤ nodes_of c.args.graph.now) (sym whole) (own_few c.args.leg c.args.way c.args.graph.now c.args.peer)
