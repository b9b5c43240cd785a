use Rattle.std.proofs.Common.{length, sym, ap, ◌∙◌, arith}
use Rattle.std.proofs.lemmas.List.{with_items_is}
use Rattle.graph_division.specs.Shares.{masters_here, proxies_here}
use Rattle.host_state.specs.HostState.{HostState}
use Rattle.std.specs.Vec.{with_items}
use Rattle.host_core.proofs.Peers.{spreads_within, spreads_short}
use Rattle.host_core.proofs.Settling.{waits, quiet_in, unmoved_in, Settled, settled_in, spreads_own, spread_host, spread_kept, spreads_now, PostsShown, posts_shown, posts_now, spreads_in}
use Rattle.host_core.proofs.host.Host.spread.Given
use Rattle.host_core.proofs.host.Host.spread.Goals as goal

pub settle_news-requires-clause-unmoved : goal.settle_news-requires-clause-unmoved
settle_news-requires-clause-unmoved g c = λ l s d low calm.
    unmoved_in c.self.invariant c.deref_mut-2.result.now c.deref_mut.result.now c.deref_mut-2.ensures.value c.deref_mut.ensures.value l s d (omega (arith, c.masters.ensures.masters)) calm

pub settle_news-requires-clause-quiet : goal.settle_news-requires-clause-quiet
settle_news-requires-clause-quiet g c = λ l y low.
    quiet_in c.self.invariant (waits _ c.args.self.now c.self.view_is c.requires.may) c.deref_mut-3.result.now c.deref.result.now c.deref_mut-3.ensures.value c.deref.ensures.value l y (omega (arith, c.masters.ensures.masters))

pub post_broadcasts-requires-clause-has_values : goal.post_broadcasts-requires-clause-has_values
post_broadcasts-requires-clause-has_values g c = λ peer k d inside.
    let below = spreads_within _ c.self.invariant.is_host peer k d inside in
    let next = ap length c.deref_mut-3.ensures.value in
    let fits = c.self.invariant.is_host.next_fit in
    let lent = ap length (c.deref-2.ensures.value ∙ with_items_is c.self.inside.next c.settle_news.new.next (omega (arith, c.self.inside.next.ok.0, next, c.settle_news.auto.next))) in
    let long = c.settle_news.ensures.next_length in
    omega arith

pub post_broadcasts-requires-clause-has_bits : goal.post_broadcasts-requires-clause-has_bits
post_broadcasts-requires-clause-has_bits g c = λ peer k d inside.
    let below = spreads_within _ c.self.invariant.is_host peer k d inside in
    let fits = c.self.invariant.is_host.awake_next_fit in
    let long = c.settle_news.ensures.awake_length in
    omega arith

pub post_broadcasts-requires-clause-short : goal.post_broadcasts-requires-clause-short
post_broadcasts-requires-clause-short g c = spreads_short _ c.self.invariant.is_host

-- the host before the call
abbrev inside : (g : Given.Over) → goal.After-self-4-1 g → HostState g.row.P.Denot g.row.P-Red-Item.Denot g.row.P-State.Denot g.row.P-Shown.Denot
inside g c = record {
  graph = c.self.inside.graph;
  memo = c.self.inside.memo;
  way = c.self.inside.way;
  view = record {
    program = c.self.inside.program;
    host = c.self.inside.graph.host;
    vertices = proxies_here c.self.inside.graph;
    masters = length (masters_here c.self.inside.graph);
    states = c.self.inside.states.items;
    shown = c.self.inside.shown.items;
    next = c.self.inside.next.items;
    items = c.self.inside.items.items;
    awake = c.self.inside.awake;
    awake_next = c.self.inside.awake_next;
    has_computed = c.self.inside.has_computed;
    has_spread = c.self.inside.has_spread;
    took_reduce = c.self.inside.took_reduce.items;
    took_broadcast = c.self.inside.took_broadcast.items;
  };
}

-- the fields once masters have settled
settled : (g : Given.Over) (c : goal.After-self-4-1 g)
    → Settled g.P.Red.Item.Word.IsValue g.P.Shown.Word.IsValue g.P.VertexProgram.IsState g.P.Red.Reduction.reducer (g.P.VertexProgram.steps c.self.inside.program) (length (masters_here c.self.inside.graph))
    c.self.inside.shown.items c.self.inside.states.items c.self.inside.items.items c.self.inside.next.items c.self.inside.awake_next
    (with_items c.self.inside.states c.settle_news.new.states).items (with_items c.self.inside.items c.settle_news.new.items).items (with_items c.self.inside.next c.settle_news.new.next).items c.settle_news.new.awake_next
settled g c =
    let did = c.settle_news.ensures in
    settled_in (record {
      settles = did.settles;
      sums = did.sums;
      shows = did.shows;
      wakes = did.wakes;
      still = did.still;
      items_stay = did.items_stay;
      next_stay = did.next_stay;
      awake_stay = did.awake_stay;
      states_long = did.states_length;
      items_long = did.items_length;
      next_long = did.next_length;
      awake_long = did.awake_length;
      states_are = did.are_states;
      items_are = did.are_items;
      next_are = did.are_shown;
    })
    c.masters.ensures.masters c.deref.ensures.value c.deref_mut.ensures.value c.deref_mut-2.ensures.value c.deref_mut-3.ensures.value
    (sym (with_items_is c.self.inside.states c.settle_news.new.states (omega (arith, c.self.inside.states.ok.0, ap length c.deref_mut.ensures.value, c.settle_news.auto.states))))
    (sym (with_items_is c.self.inside.items c.settle_news.new.items (omega (arith, c.self.inside.items.ok.0, ap length c.deref_mut-2.ensures.value, c.settle_news.auto.items))))
    (sym (with_items_is c.self.inside.next c.settle_news.new.next (omega (arith, c.self.inside.next.ok.0, ap length c.deref_mut-3.ensures.value, c.settle_news.auto.next))))

pub invariant_of-self : goal.invariant_of-self
invariant_of-self g c = spread_kept c.self.invariant (settled g c) (g.met.P.VertexProgram.laws c.self.inside.program) c.settle_news.new.news c.settle_news.ensures.no_news

-- what the host posts
posts : (g : Given.Over) (c : goal.After-self-4-1 g) → PostsShown g.P.Shown.Word.WIDTH g.P.Shown.Word.bytes_of (with_items c.self.inside.next c.settle_news.new.next).items c.settle_news.new.awake_next c.args.channels.now c.post_broadcasts.new.channels (inside g c)
posts g c =
    posts_shown g.P.Shown.Word.WIDTH g.P.Shown.Word.bytes_of (inside g c) (with_items c.self.inside.next c.settle_news.new.next).items c.deref-2.result.now c.settle_news.new.awake_next c.host.result c.args.channels.now c.post_broadcasts.new.channels
    c.host.ensures.host c.deref-2.ensures.value c.post_broadcasts.ensures.posts

pub returns-clause-own : goal.returns-clause-own
returns-clause-own g c = spreads_now g.P.VertexProgram.steps c.self.view_is (spreads_own c.self.invariant (settled g c) g.P.Red.Item.Word.WIDTH g.P.Shown.Word.WIDTH)

pub returns-clause-posts : goal.returns-clause-posts
returns-clause-posts g c =
    posts_now g.P.Shown.Word.WIDTH g.P.Shown.Word.bytes_of (with_items c.self.inside.next c.settle_news.new.next).items c.settle_news.new.awake_next c.args.channels.now c.post_broadcasts.new.channels c.self.view_is (posts g c)

pub returns-clause-serves : goal.returns-clause-serves
returns-clause-serves g c = λ division rounds.
    spreads_in g.P.Red.Item.Word.IsValue g.P.Shown.Word.IsValue g.P.VertexProgram.IsState g.P.Red.Reduction.reducer g.P.VertexProgram.steps g.P.Red.Item.Word.WIDTH g.P.Shown.Word.WIDTH g.P.Shown.Word.bytes_of division rounds (inside g c)
    (with_items c.self.inside.states c.settle_news.new.states).items (with_items c.self.inside.next c.settle_news.new.next).items (with_items c.self.inside.items c.settle_news.new.items).items c.settle_news.new.awake_next
    c.args.channels.now c.post_broadcasts.new.channels c.args.self.now c.self.view_is c.self.invariant.is_host c.requires.may (spread_host c.self.invariant (settled g c))
    (spreads_own c.self.invariant (settled g c) g.P.Red.Item.Word.WIDTH g.P.Shown.Word.WIDTH) (posts g c)
