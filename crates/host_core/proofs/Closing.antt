-- A host that has done all of a round keeps its fields in order once it is closed, and stands for the next round.
use Rattle.std.proofs.Common.{◌≡◌, ℕ, ◌+◌, true, false, Bool, List, length, replicate, refl, sym, ap, subst, ◌∙◌, add-one}
use Rattle.std.specs.List.{count_by, range_with_len}
use Rattle.std.proofs.lemmas.List.{length-replicate}
use Rattle.list_laws.proofs.Members.{has_member-no_members}
use Rattle.reduce_laws.specs.ReductionLaws.{Reducer}
use Rattle.reduce_laws.specs.ProgramLaws.{Steps}
use Rattle.graph_division.specs.Division.{Division}
use Rattle.address_memo.specs.Memos.{list_at}
use Rattle.round_packets.specs.Runs.{IsRun}
use Rattle.cluster_laws.specs.Channels.{is_needed}
use Rattle.host_laws.specs.HostView.{HostView}
use Rattle.host_laws.specs.Standing.{StandsFor}
use Rattle.host_laws.specs.Effects.{closed}
use Rattle.host_laws.proofs.Closing.{closed_stands}
use Rattle.host_state.specs.HostState.{HostState, IsHost}
use Rattle.host_state.specs.Serving.{run_of, Serves}
use Rattle.host_state.specs.OwnEffects.{is_ready_to_close}
use Rattle.serving_laws.proofs.Knowing.{serving_knows}
use Rattle.host_core.specs.Kept.{IsKept}
use Rattle.host_core.proofs.Left.{all_left}

-- a closed host keeps its fields in order
pub closed_kept : {Program Item State Shown : Type 0} {IsItem : Item → Type 0} {IsShown : Shown → Type 0} {IsState : State → Type 0} {reducer : Reducer Item} {steps : Steps Item State Shown} {news : List Bool} {reduces broadcasts : ℕ}
    (host : HostState Program Item State Shown) (reduces_left broadcasts_left : ℕ)
    → IsKept IsItem IsShown IsState reducer steps host news reduces broadcasts
    → reduces_left ≡ count_by (λ peer. is_needed (list_at host.memo.reduce_from peer).globals) (range_with_len 0 host.graph.hosts)
    → broadcasts_left ≡ count_by (λ peer. is_needed (list_at host.memo.spread_from peer).globals) (range_with_len 0 host.graph.hosts)
    → IsKept IsItem IsShown IsState reducer steps (record host { view = closed host.view }) news reduces_left broadcasts_left
closed_kept host reduces_left broadcasts_left kept reduces broadcasts = record {
  is_host = record {
    is_share = kept.is_host.is_share;
    is_memo = kept.is_host.is_memo;
    fits = kept.is_host.fits;
    of_host = kept.is_host.of_host;
    vertices_are = kept.is_host.vertices_are;
    masters_are = kept.is_host.masters_are;
    states_fit = kept.is_host.states_fit;
    shown_fit = kept.is_host.next_fit;
    next_fit = kept.is_host.next_fit;
    items_fit = kept.is_host.items_fit;
    awake_fit = kept.is_host.awake_next_fit;
    awake_next_fit = length-replicate (length host.view.awake_next) false ∙ kept.is_host.awake_next_fit;
    took_reduce_fit = length-replicate (length host.view.took_reduce) false ∙ kept.is_host.took_reduce_fit;
    took_broadcast_fit = length-replicate (length host.view.took_broadcast) false ∙ kept.is_host.took_broadcast_fit;
  };
  news_fit = kept.news_fit;
  states_are = kept.states_are;
  shown_are = kept.next_are;
  next_are = kept.next_are;
  items_are = kept.items_are;
  quiet = λ l y within sleeps. refl;
  asleep = λ waits l low. has_member-no_members (length host.view.awake_next) l;
  states_show = kept.states_show;
  unmoved = kept.unmoved;
  all_sent = kept.all_sent;
  nothing_kept = kept.nothing_kept;
  reduces_left_are = reduces ∙ sym (all_left host.graph.hosts (length host.view.took_reduce) host.memo.reduce_from);
  broadcasts_left_are = broadcasts ∙ sym (all_left host.graph.hosts (length host.view.took_broadcast) host.memo.spread_from);
}

-- where it serves a division and stands for a round there, it then stands for the next
pub closed_serves : {Program Item State Shown : Type 0} {IsItem : Item → Type 0} {IsShown : Shown → Type 0} {IsState : State → Type 0} (reducer : Reducer Item) (steps : Steps Item State Shown) (item_size shown_size : ℕ)
    (division : Division) (rounds : ℕ) (host : HostState Program Item State Shown)
    → IsHost host → is_ready_to_close host ≡ true → Serves division host
    → IsRun IsItem IsShown IsState (run_of reducer steps item_size shown_size division)
    → StandsFor (run_of reducer steps item_size shown_size division) rounds host.view
    → StandsFor (run_of reducer steps item_size shown_size division) (rounds + 1) (closed host.view)
closed_serves {Program} {Item} {State} {Shown} reducer steps item_size shown_size division rounds host is ready serves fact stands =
    let done = (serving_knows Program Item State Shown division host is serves).ready_to_close.0 ready in
    subst (λ n. StandsFor (run_of reducer steps item_size shown_size division) n (closed host.view)) (sym (add-one rounds))
    (closed_stands (run_of reducer steps item_size shown_size division) fact rounds host.view stands done.1)

-- the view of a host whose fields are those of a closed one
pub closed_view : {Program Item State Shown : Type 0} (view : HostView Program Item State Shown) (shown : List Shown) (awake awake_next took_reduce took_broadcast : List Bool)
    → shown ≡ view.next → awake ≡ view.awake_next → awake_next ≡ replicate (length view.awake_next) false
    → took_reduce ≡ replicate (length view.took_reduce) false → took_broadcast ≡ replicate (length view.took_broadcast) false
    → closed view ≡ record view { shown = shown; awake = awake; awake_next = awake_next; has_computed = false; has_spread = false; took_reduce = took_reduce; took_broadcast = took_broadcast }
closed_view view shown awake awake_next took_reduce took_broadcast shows wakes sleeps no_reduce no_broadcast = cc

-- so it is of a host with such fields
pub closed_fields_kept : {Program Item State Shown : Type 0} {IsItem : Item → Type 0} {IsShown : Shown → Type 0} {IsState : State → Type 0} {reducer : Reducer Item} {steps : Steps Item State Shown} {news : List Bool} {reduces broadcasts : ℕ}
    (host : HostState Program Item State Shown) (reduces_left broadcasts_left : ℕ) (shown : List Shown) (awake awake_next took_reduce took_broadcast : List Bool)
    → IsKept IsItem IsShown IsState reducer steps host news reduces broadcasts
    → shown ≡ host.view.next → awake ≡ host.view.awake_next → awake_next ≡ replicate (length host.view.awake_next) false
    → took_reduce ≡ replicate (length host.view.took_reduce) false → took_broadcast ≡ replicate (length host.view.took_broadcast) false
    → reduces_left ≡ count_by (λ peer. is_needed (list_at host.memo.reduce_from peer).globals) (range_with_len 0 host.graph.hosts)
    → broadcasts_left ≡ count_by (λ peer. is_needed (list_at host.memo.spread_from peer).globals) (range_with_len 0 host.graph.hosts)
    → IsKept IsItem IsShown IsState reducer steps
    (record host { view = record host.view { shown = shown; awake = awake; awake_next = awake_next; has_computed = false; has_spread = false; took_reduce = took_reduce; took_broadcast = took_broadcast } })
    news reduces_left broadcasts_left
closed_fields_kept {Program} {Item} {State} {Shown} {IsItem} {IsShown} {IsState} {reducer} {steps} {news} host reduces_left broadcasts_left shown awake awake_next took_reduce took_broadcast kept shows wakes sleeps no_reduce no_broadcast reduces broadcasts =
    subst (λ (view : HostView Program Item State Shown). IsKept IsItem IsShown IsState reducer steps (record host { view = view }) news reduces_left broadcasts_left)
    (closed_view host.view shown awake awake_next took_reduce took_broadcast shows wakes sleeps no_reduce no_broadcast)
    (closed_kept host reduces_left broadcasts_left kept reduces broadcasts)

pub closed_fields_serve : {Program Item State Shown : Type 0} {IsItem : Item → Type 0} {IsShown : Shown → Type 0} {IsState : State → Type 0} (reducer : Reducer Item) (steps : Steps Item State Shown) (item_size shown_size : ℕ)
    (division : Division) (rounds : ℕ) (host now : HostState Program Item State Shown) (shown : List Shown) (awake awake_next took_reduce took_broadcast : List Bool)
    → host ≡ now → IsHost host
    → shown ≡ host.view.next → awake ≡ host.view.awake_next → awake_next ≡ replicate (length host.view.awake_next) false
    → took_reduce ≡ replicate (length host.view.took_reduce) false → took_broadcast ≡ replicate (length host.view.took_broadcast) false
    → is_ready_to_close now ≡ true → Serves division now
    → IsRun IsItem IsShown IsState (run_of reducer steps item_size shown_size division)
    → StandsFor (run_of reducer steps item_size shown_size division) rounds now.view
    → StandsFor (run_of reducer steps item_size shown_size division) (rounds + 1)
    (record host.view { shown = shown; awake = awake; awake_next = awake_next; has_computed = false; has_spread = false; took_reduce = took_reduce; took_broadcast = took_broadcast })
closed_fields_serve {Program} {Item} {State} {Shown} reducer steps item_size shown_size division rounds host now shown awake awake_next took_reduce took_broadcast same is shows wakes sleeps no_reduce no_broadcast ready serves fact stands =
    subst (StandsFor (run_of reducer steps item_size shown_size division) (rounds + 1))
    (sym (ap (λ (state : HostState Program Item State Shown). closed state.view) same) ∙ closed_view host.view shown awake awake_next took_reduce took_broadcast shows wakes sleeps no_reduce no_broadcast)
    (closed_serves reducer steps item_size shown_size division rounds now (subst IsHost same is) ready serves fact stands)
