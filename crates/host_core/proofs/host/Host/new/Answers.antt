use Rattle.std.proofs.Common.{◌≡◌, List, Bool, length, replicate, false, refl, sym, ap, subst, ◌∙◌}
use Rattle.std.specs.List.{All, count_by, range_with_len}
use Rattle.std.proofs.lemmas.List.{length-replicate}
use Rattle.list_laws.specs.Members.{no_members, all_members}
use Rattle.std.specs.Prelude.{nat_lt}
use Rattle.graph_division.specs.Shares.{masters_here, proxies_here}
use Rattle.address_memo.specs.Memos.{AreMemos, list_at}
use Rattle.cluster_laws.specs.Channels.{is_needed}
use Rattle.host_fields.specs.Started.{AreItems, AreShown}
use Rattle.host_state.specs.HostState.{HostState}
use Rattle.host_core.proofs.Opening.{Opens, opens_kept, opens_fresh, opens_everywhere}
use Rattle.host_core.proofs.host.Host.new.Given
use Rattle.host_core.proofs.host.Host.new.Goals as goal

-- the host that is made
abbrev made : (g : Given.Over) → goal.After-count_needed-broadcasts_left g → HostState g.row.P.Denot g.row.P-Red-Item.Denot g.row.P-State.Denot g.row.P-Shown.Denot
made g c = record {
  graph = c.args.graph;
  memo = c.args.memo;
  way = c.args.way;
  view = record {
    program = c.args.program;
    host = c.args.graph.host;
    vertices = proxies_here c.args.graph;
    masters = length (masters_here c.args.graph);
    states = c.in_ok-states.states.items;
    shown = c.in_ok-shown.shown.items;
    next = c.in_ok-next.next.items;
    items = c.in_ok-items.items.items;
    awake = c.set_all.new.self;
    awake_next = c.in_ok-awake_next.awake_next;
    has_computed = false;
    has_spread = false;
    took_reduce = c.in_ok-took_reduce.took_reduce.items;
    took_broadcast = c.in_ok-took_broadcast.took_broadcast.items;
  };
}

-- its fields are as they start
opens : (g : Given.Over) (c : goal.After-count_needed-broadcasts_left g)
    → Opens g.P.Red.Item.Word.IsValue g.P.Shown.Word.IsValue g.P.VertexProgram.IsState g.P.Red.Reduction.reducer (g.P.VertexProgram.steps c.args.program) (made g c) c.in_ok-news.news
opens g c =
    let masters = c.masters-masters.ensures.masters in
    let proxies = c.proxies-proxies.ensures.proxies in
    let hosts = c.hosts-hosts.ensures.hosts in
    let same : c.in_ok-shown.shown.items ≡ c.in_ok-next.next.items = sym (c.in_ok-next.ensures.items ∙ c.as_slice.ensures.value) in
    record {
      is_share = c.hosts-hosts.ensures.facts;
      is_memo = subst AreMemos c.memo.view_is c.memo.invariant;
      fits = c.requires;
      of_host = refl;
      vertices_are = refl;
      masters_are = refl;
      states = c.in_ok-states.ensures.states;
      shown = c.in_ok-shown.ensures.shown;
      next = subst (λ (ys : List g.row.P-Shown.Denot). AreShown (g.P.VertexProgram.steps c.args.program) c.args.graph ys) same c.in_ok-shown.ensures.shown;
      items =
          subst (λ n. AreItems g.P.Red.Reduction.reducer (g.P.VertexProgram.steps c.args.program) n c.in_ok-shown.shown.items c.in_ok-items.items.items) masters
          (subst (λ (ys : List g.row.P-Shown.Denot). AreItems g.P.Red.Reduction.reducer (g.P.VertexProgram.steps c.args.program) c.masters-masters.result ys c.in_ok-items.items.items) c.deref.ensures.value c.in_ok-items.ensures.items);
      states_are = c.in_ok-states.ensures.are_states;
      shown_are = c.in_ok-shown.ensures.are_shown;
      next_are = subst (All g.P.Shown.Word.IsValue) same c.in_ok-shown.ensures.are_shown;
      items_are = c.in_ok-items.ensures.are_items;
      awake = c.set_all.ensures ∙ ap (λ (bits : List Bool). all_members (length bits)) c.in_ok-awake.ensures ∙ ap all_members (length-replicate c.proxies-proxies.result false ∙ proxies);
      awake_next = c.in_ok-awake_next.ensures ∙ ap no_members proxies;
      news_long = c.in_ok-news.ensures.length ∙ proxies;
      news_masters = λ l. c.in_ok-news.ensures.masters l ∙ ap (nat_lt l) masters;
      not_computed = refl;
      not_spread = refl;
      took_reduce = c.in_ok-took_reduce.ensures.items_if_clones_equal (λ y same. same) ∙ ap (λ n. replicate n false) hosts;
      took_broadcast = c.in_ok-took_broadcast.ensures.items_if_clones_equal (λ y same. same) ∙ ap (λ n. replicate n false) hosts;
    }

pub invariant_of-result : goal.invariant_of-result
invariant_of-result g c =
    let hosts = c.hosts-hosts.ensures.hosts in
    opens_kept _ _ _ _ _ (made g c) _ (opens g c) _ _ (g.met.P.VertexProgram.laws c.args.program)
    (c.count_needed-reduces_left.ensures ∙ ap (λ n. count_by (λ peer. is_needed (list_at c.args.memo.reduce_from peer).globals) (range_with_len 0 n)) hosts)
    (c.count_needed-broadcasts_left.ensures ∙ ap (λ n. count_by (λ peer. is_needed (list_at c.args.memo.spread_from peer).globals) (range_with_len 0 n)) hosts)

pub returns-clause-fresh : goal.returns-clause-fresh
returns-clause-fresh g c = opens_fresh _ _ _ _ _ (made g c) _ (opens g c) g.P.Red.Item.Word.WIDTH g.P.Shown.Word.WIDTH

pub returns-clause-serves : goal.returns-clause-serves
returns-clause-serves g c = λ division serves.
    opens_everywhere _ _ _ _ _ (made g c) _ (opens g c) g.P.Red.Item.Word.WIDTH g.P.Shown.Word.WIDTH division serves
