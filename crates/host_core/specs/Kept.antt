-- What holds of the fields of every host between calls.
use Rattle.std.specs.Prelude.{◌≡◌, ◌<◌, ◌≤◌, ◌&&◌, ℕ, Bool, false, not, List, length, All}
use Rattle.std.specs.List.{count_by, range_with_len, slice_index_or}
use Rattle.list_laws.specs.Members.{has_member}
use Rattle.reduce_laws.specs.ReductionLaws.{Reducer}
use Rattle.reduce_laws.specs.ProgramLaws.{Steps}
use Rattle.address_memo.specs.Memos.{Proxies, list_at}
use Rattle.cluster_laws.specs.Channels.{is_needed}
use Rattle.host_state.specs.HostState.{HostState, IsHost}

-- how many packets of these lists are still to come
abbrev pub left_of : (hosts : ℕ) → List Proxies → (took : List Bool) → ℕ
left_of hosts lists took = count_by (λ from. is_needed (list_at lists from).globals && not (slice_index_or took from false)) (range_with_len 0 hosts)

module _ {Program Item State Shown : Type 0} (IsItem : Item → Type 0) (IsShown : Shown → Type 0) (IsState : State → Type 0) (reducer : Reducer Item) (steps : Steps Item State Shown) where
  -- the masters and mirrors that have news, and how many packets of each leg are still to come
  pub record IsKept (host : HostState Program Item State Shown) (news : List Bool) (reduces_left broadcasts_left : ℕ) : Type 0 where
    pub is_host : IsHost host
    pub news_fit : length news ≡ length host.view.vertices
    pub states_are : All IsState host.view.states
    pub shown_are : All IsShown host.view.shown
    pub next_are : All IsShown host.view.next
    pub items_are : All IsItem host.view.items
    -- a proxy that sleeps in the next round shows there what it shows in this one
    pub quiet : (l : ℕ) (y : Shown) → l < length host.view.vertices → has_member host.view.awake_next l ≡ false
        → slice_index_or host.view.next l y ≡ slice_index_or host.view.shown l y
    -- no master wakes before its host spreads
    pub asleep : host.view.has_spread ≡ false → (l : ℕ) → l < host.view.masters → has_member host.view.awake_next l ≡ false
    -- a master shows in the next round what its state shows
    pub states_show : (l : ℕ) (s : State) (y : Shown) → l < host.view.masters
        → slice_index_or host.view.next l y ≡ steps.shown (slice_index_or host.view.states l s)
    -- a master without news has the identity for its sum, which does not move it
    pub unmoved : (l : ℕ) (s : State) (d : Item) → l < host.view.masters → has_member news l ≡ false
        → (slice_index_or host.view.items l d ≡ reducer.identity) × (steps.settle (slice_index_or host.view.states l s) reducer.identity ≡ slice_index_or host.view.states l s)
    -- mirrors have no news: what they had is sent
    pub all_sent : (l : ℕ) → host.view.masters ≤ l → has_member news l ≡ false
    -- where items are not kept, mirrors have the identity
    pub nothing_kept : reducer.keeps ≡ false → (l : ℕ) (d : Item) → host.view.masters ≤ l → l < length host.view.vertices
        → slice_index_or host.view.items l d ≡ reducer.identity
    pub reduces_left_are : reduces_left ≡ left_of host.graph.hosts host.memo.reduce_from host.view.took_reduce
    pub broadcasts_left_are : broadcasts_left ≡ left_of host.graph.hosts host.memo.spread_from host.view.took_broadcast
