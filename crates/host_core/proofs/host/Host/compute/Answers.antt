use Rattle.std.proofs.Common.{◌≡◌, List, length, sym, ap, subst, ◌∙◌, arith}
use Rattle.std.specs.List.{All, slice_index_or}
use Rattle.std.specs.Vec.{with_items}
use Rattle.std.proofs.lemmas.List.{with_items_is}
use Rattle.graph_division.specs.Shares.{masters_here, proxies_here}
use Rattle.host_state.specs.HostState.{HostState}
use Rattle.host_state.specs.OwnEffects.{ComputesOwn}
use Rattle.host_core.proofs.Peers.{reduces_within, reduces_short, reduces_apart}
use Rattle.host_core.proofs.Computing.{Gathered, gains_in, computes_own, computed_kept, ready_in, computes_now, posts_gathered, computes_in}
use Rattle.host_core.proofs.host.Host.compute.Given
use Rattle.host_core.proofs.host.Host.compute.Goals as goal

pub post_reduces-requires-clause-has_items : goal.post_reduces-requires-clause-has_items
post_reduces-requires-clause-has_items g c = λ peer k d inside.
    let below = reduces_within _ c.self.invariant.is_host peer k d inside in
    let fits = c.self.invariant.is_host.items_fit in
    let lent = ap length c.deref_mut.ensures.value in
    let again = ap length (c.deref_mut-2.ensures.value ∙ with_items_is c.self.inside.items c.push_awake.new.items (omega (arith, c.self.inside.items.ok.0, lent, c.push_awake.auto.items))) in
    let long = c.push_awake.ensures.gains.long in
    omega arith

pub post_reduces-requires-clause-has_bits : goal.post_reduces-requires-clause-has_bits
post_reduces-requires-clause-has_bits g c = λ peer k d inside.
    let below = reduces_within _ c.self.invariant.is_host peer k d inside in
    let fits = c.self.invariant.news_fit in
    let long = c.push_awake.ensures.gains.news_long in
    omega arith

pub post_reduces-requires-clause-short : goal.post_reduces-requires-clause-short
post_reduces-requires-clause-short g c = reduces_short _ c.self.invariant.is_host

pub post_reduces-requires-clause-apart : goal.post_reduces-requires-clause-apart
post_reduces-requires-clause-apart g c = reduces_apart _ c.self.invariant.is_host

pub post_reduces-requires-clause-ready : goal.post_reduces-requires-clause-ready
post_reduces-requires-clause-ready g c = ready_in c.host.result g.P.Red.Item.Word.WIDTH c.args.channels.now c.self.view_is c.host.ensures.host c.requires.ready

-- the host before the call
abbrev inside : (g : Given.Over) → goal.After-self-3-1 g → HostState g.row.P.Denot g.row.P-Red-Item.Denot g.row.P-State.Denot g.row.P-Shown.Denot
inside g c = record {
  graph = c.self.inside.graph;
  memo = c.self.inside.memo;
  way = c.self.inside.way;
  view = record {
    program = c.self.inside.program;
    host = c.self.inside.graph.host;
    vertices = proxies_here c.self.inside.graph;
    masters = length (masters_here c.self.inside.graph);
    states = c.self.inside.states.items;
    shown = c.self.inside.shown.items;
    next = c.self.inside.next.items;
    items = c.self.inside.items.items;
    awake = c.self.inside.awake;
    awake_next = c.self.inside.awake_next;
    has_computed = c.self.inside.has_computed;
    has_spread = c.self.inside.has_spread;
    took_reduce = c.self.inside.took_reduce.items;
    took_broadcast = c.self.inside.took_broadcast.items;
  };
}

-- its items after it
abbrev items_after : (g : Given.Over) → goal.After-self-3-1 g → List g.row.P-Red-Item.Denot
items_after g c = (with_items (with_items c.self.inside.items c.push_awake.new.items) c.post_reduces.new.items).items

-- its fields once its arcs have brought what they bring, and its mirrors are sent
did : (g : Given.Over) (c : goal.After-self-3-1 g)
    → Gathered g.P.Red.Item.Word.IsValue g.P.Red.Reduction.reducer (g.P.VertexProgram.steps c.self.inside.program) (inside g c) c.self.inside.news
    c.deref_mut-2.result.now c.push_awake.new.news (items_after g c) c.post_reduces.new.news
did g c =
    let lent = ap length c.deref_mut.ensures.value in
    let pushed : c.push_awake.new.items ≡ c.deref_mut-2.result.now
    = sym (c.deref_mut-2.ensures.value ∙ with_items_is c.self.inside.items c.push_awake.new.items (omega (arith, c.self.inside.items.ok.0, lent, c.push_awake.auto.items))) in
    let as_many = ap length pushed in
    let last : c.post_reduces.new.items ≡ items_after g c
    = sym (with_items_is (with_items c.self.inside.items c.push_awake.new.items) c.post_reduces.new.items (omega (arith, c.self.inside.items.ok.0, lent, c.push_awake.auto.items, as_many, c.post_reduces.auto.items))) in
    record {
      gains = gains_in c.push_awake.ensures.gains c.deref.ensures.value c.deref_mut.ensures.value pushed;
      gathered_are = subst (λ (xs : List g.row.P-Red-Item.Denot). All g.P.Red.Item.Word.IsValue xs) pushed c.push_awake.ensures.are_items;
      long = sym (ap length last) ∙ c.post_reduces.auto.items;
      cleared = c.post_reduces.ensures.cleared;
      news_long = c.post_reduces.ensures.news_length;
      sent = λ l d. sym (ap (λ (xs : List g.row.P-Red-Item.Denot). slice_index_or xs l d) last) ∙ c.post_reduces.ensures.kept l d;
    }

pub invariant_of-self : goal.invariant_of-self
invariant_of-self g c = computed_kept g.met.P.Red.Reduction.laws c.self.invariant (did g c)

-- what it does to its own fields
own : (g : Given.Over) (c : goal.After-self-3-1 g)
    → ComputesOwn (inside g c) g.P.Red.Reduction.reducer (g.P.VertexProgram.steps c.self.inside.program) g.P.Red.Item.Word.WIDTH g.P.Red.Item.Word.bytes_of (items_after g c) c.args.channels.now c.post_reduces.new.channels
own g c =
    computes_own g.met.P.Red.Reduction.laws c.self.invariant (did g c) g.P.Red.Item.Word.WIDTH g.P.Red.Item.Word.bytes_of c.args.channels.now c.post_reduces.new.channels
    (posts_gathered g.P.Red.Item.Word.WIDTH g.P.Red.Item.Word.bytes_of (inside g c) c.deref_mut-2.result.now c.push_awake.new.news c.host.result c.args.channels.now c.post_reduces.new.channels c.host.ensures.host c.post_reduces.ensures.posts)

pub returns-clause-own : goal.returns-clause-own
returns-clause-own g c = computes_now g.P.VertexProgram.steps c.self.view_is (own g c)

pub returns-clause-serves : goal.returns-clause-serves
returns-clause-serves g c = λ division rounds.
    computes_in g.P.Red.Item.Word.IsValue g.P.Shown.Word.IsValue g.P.VertexProgram.IsState g.P.Red.Reduction.reducer g.P.VertexProgram.steps g.P.Red.Item.Word.WIDTH g.P.Shown.Word.WIDTH g.P.Red.Item.Word.bytes_of
    division rounds (inside g c) (items_after g c) c.args.channels.now c.post_reduces.new.channels c.args.self.now c.self.view_is c.self.invariant.is_host c.requires.first (own g c)
