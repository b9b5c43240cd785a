-- The fields with which a host opens are those of a fresh host.
use Rattle.std.proofs.Common.{◌≡◌, ℕ, ◌-◌, ◌<◌, ◌≤◌, Bool, true, false, ◌==◌, ◌&&◌, not, nat_lt, List, length, replicate, take, slice_index, refl, sym, ap, ◌∙◌, arith, inl, inr}
use Rattle.std.specs.List.{All, count_by, range_with_len, slice_index_or}
use Rattle.std.proofs.lemmas.Bool.{both_ways, cases_lt, eq-eqb, ne_eqb, lt-ltb, le-ltb}
use Rattle.std.proofs.lemmas.List.{length-replicate, take_at}
use Rattle.std.proofs.lemmas.List.Elements.{filter_agree}
use Rattle.list_laws.specs.Members.{has_member, no_members, all_members}
use Rattle.list_laws.proofs.Members.{has_member-no_members, has_member-all_members}
use Rattle.reduce_laws.specs.ReductionLaws.{Reducer}
use Rattle.reduce_laws.specs.ProgramLaws.{Steps, ProgramLaws}
use Rattle.graph_division.specs.Division.{Division}
use Rattle.graph_division.specs.Shares.{Share, IsShare, seen, nodes_of, masters_here, mirrors_here, proxies_here}
use Rattle.proxy_graph.proofs.Read.{proxies_below}
use Rattle.proxy_graph.specs.Heads.{vertex_at}
use Rattle.address_memo.specs.Memos.{AreMemos, Fits, list_at}
use Rattle.address_memo.proofs.Mirrors.{master_owned, mirror_owned, length_proxies, vertex_of_master, vertex_of_mirror}
use Rattle.cluster_laws.specs.Channels.{is_needed}
use Rattle.host_laws.specs.HostView.{HoldsShare, vertex}
use Rattle.host_laws.specs.Standing.{IsFresh}
use Rattle.host_state.specs.HostState.{HostState, IsHost}
use Rattle.host_state.specs.Serving.{run_of, Serves}
use Rattle.serving_laws.proofs.Proxies.{holds_share}
use Rattle.host_fields.specs.Started.{AreStates, AreShown, AreItems}
use Rattle.host_core.specs.Kept.{IsKept}
use Rattle.host_core.proofs.Left.{all_left}

-- masters come first
pub masters_first : (share : Share) (l : ℕ) → l < length (proxies_here share) → (slice_index_or share.masters (vertex_at share l) 0 == share.host) ≡ nat_lt l (length (masters_here share))
masters_first share l within =
    let m = length (masters_here share) in
    elim (cases_lt l m) [
      | inl low ↦
          eq-eqb (slice_index_or share.masters (vertex_at share l) 0) share.host (ap (λ v. slice_index_or share.masters v 0) (vertex_of_master share l low) ∙ master_owned share l low)
          ∙ sym (lt-ltb l m low)
      | inr high ↦
          let place : l - m < length (mirrors_here share) = omega (arith, length_proxies share) in
          ne_eqb (slice_index_or share.masters (vertex_at share l) 0) share.host (λ same. mirror_owned share (l - m) place (sym (ap (λ v. slice_index_or share.masters v 0) (vertex_of_mirror share l high)) ∙ same))
          ∙ sym (le-ltb l m high)
    ]

module _ {Program Item State Shown : Type 0} (host : HostState Program Item State Shown) (is : IsHost host) where
  -- the vertex of a proxy is that of its graph
  pub vertex_here : (l : ℕ) → vertex host.view l ≡ vertex_at host.graph l
  vertex_here l = ap (λ (vs : List ℕ). slice_index vs l) is.vertices_are

  pub within_here : (l : ℕ) → l < length host.view.vertices → l < length (proxies_here host.graph)
  within_here l within = let long = ap length is.vertices_are in omega arith

  -- a host holds its part of the graph as it knows it
  pub holds_seen : HoldsShare (seen host.way host.graph) host.view
  holds_seen = record {
    is_host = let of_host = is.of_host in let below = is.is_share.is_host in omega arith;
    are_nodes = λ l within.
        let below = proxies_below host.graph l 0 (within_here l within) in
        let same = vertex_here l in
        omega arith;
    masters_first = λ l within.
        ap (λ h. slice_index_or host.graph.masters (vertex host.view l) 0 == h) is.of_host
        ∙ ap (λ v. slice_index_or host.graph.masters v 0 == host.graph.host) (vertex_here l)
        ∙ masters_first host.graph l (within_here l within)
        ∙ ap (nat_lt l) (sym is.masters_are);
    masters_fit = let many = is.masters_are in let long = ap length is.vertices_are in omega (arith, length_proxies host.graph);
    masters_are =
        ap (λ n. take n host.view.vertices) is.masters_are
        ∙ ap (λ (vs : List ℕ). take (length (masters_here host.graph)) vs) is.vertices_are
        ∙ take_at (masters_here host.graph) (mirrors_here host.graph) (length (masters_here host.graph)) refl
        ∙ sym (filter_agree (λ v. slice_index_or host.graph.masters v 0 == host.view.host) (λ v. slice_index_or host.graph.masters v 0 == host.graph.host)
        (λ v. ap (λ h. slice_index_or host.graph.masters v 0 == h) is.of_host) (range_with_len 0 (nodes_of host.graph)));
    reduce_by_host = is.took_reduce_fit;
    broadcast_by_host = is.took_broadcast_fit;
  }

module _ {Program Item State Shown : Type 0} (IsItem : Item → Type 0) (IsShown : Shown → Type 0) (IsState : State → Type 0) (reducer : Reducer Item) (steps : Steps Item State Shown) where
  -- the fields of a host as they start
  pub record Opens (host : HostState Program Item State Shown) (news : List Bool) : Type 0 where
    pub is_share : IsShare host.graph
    pub is_memo : AreMemos host.memo
    pub fits : Fits host.way host.graph host.memo
    pub of_host : host.view.host ≡ host.graph.host
    pub vertices_are : host.view.vertices ≡ proxies_here host.graph
    pub masters_are : host.view.masters ≡ length (masters_here host.graph)
    pub states : AreStates steps host.graph host.view.states
    pub shown : AreShown steps host.graph host.view.shown
    pub next : AreShown steps host.graph host.view.next
    pub items : AreItems reducer steps host.view.masters host.view.shown host.view.items
    pub states_are : All IsState host.view.states
    pub shown_are : All IsShown host.view.shown
    pub next_are : All IsShown host.view.next
    pub items_are : All IsItem host.view.items
    pub awake : host.view.awake ≡ all_members (length host.view.vertices)
    pub awake_next : host.view.awake_next ≡ no_members (length host.view.vertices)
    pub news_long : length news ≡ length host.view.vertices
    pub news_masters : (l : ℕ) → has_member news l ≡ nat_lt l host.view.masters
    pub not_computed : host.view.has_computed ≡ false
    pub not_spread : host.view.has_spread ≡ false
    pub took_reduce : host.view.took_reduce ≡ replicate host.graph.hosts false
    pub took_broadcast : host.view.took_broadcast ≡ replicate host.graph.hosts false

module _ {Program Item State Shown : Type 0} (IsItem : Item → Type 0) (IsShown : Shown → Type 0) (IsState : State → Type 0) (reducer : Reducer Item) (steps : Steps Item State Shown)
    (host : HostState Program Item State Shown) (news : List Bool) (opens : Opens IsItem IsShown IsState reducer steps host news) where
  long : length host.view.vertices ≡ length (proxies_here host.graph)
  long = ap length opens.vertices_are

  pub opens_host : IsHost host
  opens_host = record {
    is_share = opens.is_share;
    is_memo = opens.is_memo;
    fits = opens.fits;
    of_host = opens.of_host;
    vertices_are = opens.vertices_are;
    masters_are = opens.masters_are;
    states_fit = opens.states.long ∙ sym opens.masters_are;
    shown_fit = opens.shown.long ∙ sym long;
    next_fit = opens.next.long ∙ sym long;
    items_fit = opens.items.long ∙ opens.shown.long ∙ sym long;
    awake_fit = ap length opens.awake ∙ length-replicate (length host.view.vertices) true;
    awake_next_fit = ap length opens.awake_next ∙ length-replicate (length host.view.vertices) false;
    took_reduce_fit = ap length opens.took_reduce ∙ length-replicate host.graph.hosts false;
    took_broadcast_fit = ap length opens.took_broadcast ∙ length-replicate host.graph.hosts false;
  }

  here : (l : ℕ) → l < length host.view.vertices → l < length (proxies_here host.graph)
  here l within = let same = long in omega arith

  low_here : (l : ℕ) → l < host.view.masters → (l < length (masters_here host.graph)) × (l < length (proxies_here host.graph))
  low_here l low = let many = opens.masters_are in (omega arith, omega (arith, length_proxies host.graph))

  -- what mirrors keep at the start
  keeps_start : (l : ℕ) (d : Item) → host.view.masters ≤ l → l < length host.view.vertices → slice_index_or host.view.items l d ≡ steps.keep (steps.shown (steps.start (vertex_at host.graph l)))
  keeps_start l d mirror within =
      let y : Shown = steps.shown (steps.start 0) in
      let as_many = opens.shown.long in
      opens.items.keeps l d y mirror (let inside = here l within in omega arith) ∙ ap steps.keep (opens.shown.start l y (here l within))

  pub opens_kept : (reduces_left broadcasts_left : ℕ) → ProgramLaws IsItem IsShown IsState reducer steps
      → reduces_left ≡ count_by (λ peer. is_needed (list_at host.memo.reduce_from peer).globals) (range_with_len 0 host.graph.hosts)
      → broadcasts_left ≡ count_by (λ peer. is_needed (list_at host.memo.spread_from peer).globals) (range_with_len 0 host.graph.hosts)
      → IsKept IsItem IsShown IsState reducer steps host news reduces_left broadcasts_left
  opens_kept reduces_left broadcasts_left laws reduces broadcasts = record {
    is_host = opens_host;
    news_fit = opens.news_long;
    states_are = opens.states_are;
    shown_are = opens.shown_are;
    next_are = opens.next_are;
    items_are = opens.items_are;
    quiet = λ l y within sleeps. opens.next.start l y (here l within) ∙ sym (opens.shown.start l y (here l within));
    asleep = λ waits l low. ap (λ bits. has_member bits l) opens.awake_next ∙ has_member-no_members (length host.view.vertices) l;
    states_show = λ l s y low. let inside = low_here l low in opens.next.start l y inside.1 ∙ ap steps.shown (sym (opens.states.start l s inside.0));
    unmoved = λ l s d low calm. absurd (both_ways (has_member news l) calm (opens.news_masters l ∙ lt-ltb l host.view.masters low));
    all_sent = λ l mirror. opens.news_masters l ∙ le-ltb l host.view.masters mirror;
    nothing_kept = λ resets l d mirror within.
        let shows : Shown = steps.shown (steps.start (vertex_at host.graph l)) in
        let as_many = opens.shown.long in
        let inside = here l within in
        let value : IsShown (slice_index_or host.view.shown l shows) = opens.shown_are l shows (omega arith) in
        opens.items.keeps l d shows mirror (omega arith) ∙ laws.keep_is_identity resets (slice_index_or host.view.shown l shows) value;
    reduces_left_are = reduces ∙ sym (ap (λ (took : List Bool). count_by (λ from. is_needed (list_at host.memo.reduce_from from).globals && not (slice_index_or took from false)) (range_with_len 0 host.graph.hosts)) opens.took_reduce ∙ all_left host.graph.hosts host.graph.hosts host.memo.reduce_from);
    broadcasts_left_are = broadcasts ∙ sym (ap (λ (took : List Bool). count_by (λ from. is_needed (list_at host.memo.spread_from from).globals && not (slice_index_or took from false)) (range_with_len 0 host.graph.hosts)) opens.took_broadcast ∙ all_left host.graph.hosts host.graph.hosts host.memo.spread_from);
  }

  pub opens_fresh : (item_size shown_size : ℕ) → IsFresh (run_of reducer steps item_size shown_size (seen host.way host.graph)) host.view
  opens_fresh item_size shown_size = record {
    share = holds_seen host opens_host;
    not_computed = opens.not_computed;
    not_spread = opens.not_spread;
    no_reduce = λ from. ap (λ bits. has_member bits from) opens.took_reduce ∙ has_member-no_members host.graph.hosts from;
    no_broadcast = λ from. ap (λ bits. has_member bits from) opens.took_broadcast ∙ has_member-no_members host.graph.hosts from;
    start = λ l d low. opens.states.start l d (low_here l low).0 ∙ ap steps.start (sym (vertex_here host opens_host l));
    shown = λ l d within. opens.shown.start l d (here l within) ∙ ap (λ v. steps.shown (steps.start v)) (sym (vertex_here host opens_host l));
    next = λ l d within. opens.next.start l d (here l within) ∙ ap (λ v. steps.shown (steps.start v)) (sym (vertex_here host opens_host l));
    awake = λ l within. ap (λ bits. has_member bits l) opens.awake ∙ has_member-all_members (length host.view.vertices) l within;
    asleep_next = λ l within. ap (λ bits. has_member bits l) opens.awake_next ∙ has_member-no_members (length host.view.vertices) l;
    sums = opens.items.sums;
    keeps = λ l d mirror within. keeps_start l d mirror within ∙ ap (λ v. steps.keep (steps.shown (steps.start v))) (sym (vertex_here host opens_host l));
  }

  -- and so of each division that the host serves
  pub opens_everywhere : (item_size shown_size : ℕ) (division : Division) → Serves division host → IsFresh (run_of reducer steps item_size shown_size division) host.view
  opens_everywhere item_size shown_size division serves =
      let fresh = opens_fresh item_size shown_size in
      record {
        share = holds_share division host opens_host serves;
        not_computed = fresh.not_computed;
        not_spread = fresh.not_spread;
        no_reduce = fresh.no_reduce;
        no_broadcast = fresh.no_broadcast;
        start = fresh.start;
        shown = fresh.shown;
        next = fresh.next;
        awake = fresh.awake;
        asleep_next = fresh.asleep_next;
        sums = fresh.sums;
        keeps = fresh.keeps;
      }
