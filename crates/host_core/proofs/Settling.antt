-- A host that spreads keeps its fields in order, and does what a round asks.
use Rattle.std.proofs.Common.{◌≡◌, ℕ, ◌<◌, ◌≤◌, Bool, true, false, not, ◌||◌, List, length, refl, sym, ap, subst, ◌∙◌, arith, inl, inr}
use Rattle.std.specs.List.{All, slice_index_or}
use Rattle.std.proofs.lemmas.Bool.{and_parts, or_parts, not-true, not-false, both_ways, cases_lt}
use Rattle.std.proofs.lemmas.List.{length-replicate}
use Rattle.list_laws.specs.Members.{has_member, no_members}
use Rattle.list_laws.proofs.Members.{has_member-no_members}
use Rattle.reduce_laws.specs.ReductionLaws.{Reducer}
use Rattle.reduce_laws.specs.ProgramLaws.{Steps, ProgramLaws}
use Rattle.graph_division.specs.Division.{Division}
use Rattle.graph_division.specs.Shares.{seen}
use Rattle.address_memo.specs.Memos.{list_at}
use Rattle.address_memo.proofs.Mirrors.{length_proxies}
use Rattle.field_encodings.specs.Packets.{packet_at, bytes_of_packet}
use Rattle.packet_table.specs.declared.channel_spec.Leg.TheVariants.{Spread}
use Rattle.packet_table.specs.Table.{Table}
use Rattle.round_packets.specs.Runs.{IsRun}
use Rattle.cluster_laws.specs.Cluster.{expects_reduce}
use Rattle.cluster_laws.proofs.InTime.{all_reduced}
use Rattle.host_laws.specs.Standing.{StandsFor}
use Rattle.host_laws.specs.Effects.{Spreads, after_spread}
use Rattle.host_laws.proofs.Spreading.{spread_stands}
use Rattle.host_state.specs.HostState.{HostState, IsHost}
use Rattle.host_state.specs.Serving.{run_of, Serves}
use Rattle.host_state.specs.Posting.{Posts}
use Rattle.host_state.specs.OwnEffects.{expects, is_ready_to_spread}
use Rattle.serving_laws.proofs.Knowing.{serving_knows}
use Rattle.serving_laws.proofs.Spreading.{spread_all, posted}
use Rattle.host_core.specs.Kept.{IsKept}
use Rattle.host_core.specs.Calls.{SpreadsIn}

-- a host that may spread has not spread
pub waits : {Program Item State Shown : Type 0} (host now : HostState Program Item State Shown) → host ≡ now → is_ready_to_spread now ≡ true → host.view.has_spread ≡ false
waits {Program} {Item} {State} {Shown} host now same ready =
    let left = expects now now.memo.reduce_from now.view.took_reduce in
    let parts = and_parts now.view.has_computed (not (now.view.has_spread || left)) ready in
    ap (λ (state : HostState Program Item State Shown). state.view.has_spread) same ∙ (or_parts now.view.has_spread left (not-true (now.view.has_spread || left) parts.1)).0

module _ {Program Item State Shown : Type 0} {IsItem : Item → Type 0} {IsShown : Shown → Type 0} {IsState : State → Type 0} {reducer : Reducer Item} {steps : Steps Item State Shown} {host : HostState Program Item State Shown} {news : List Bool} {reduces_left broadcasts_left : ℕ}
    (kept : IsKept IsItem IsShown IsState reducer steps host news reduces_left broadcasts_left) where
  -- before it spreads, masters show in the next round what they show in this one; lists are told as a call is lent them
  pub quiet_in : host.view.has_spread ≡ false → (next shown : List Shown) → next ≡ host.view.next → shown ≡ host.view.shown
      → (l : ℕ) (y : Shown) → l < host.view.masters → slice_index_or next l y ≡ slice_index_or shown l y
  quiet_in early next shown next_is shown_is l y low =
      let many = kept.is_host.masters_are in
      let long = ap length kept.is_host.vertices_are in
      let within : l < length host.view.vertices = omega (arith, length_proxies host.graph) in
      ap (λ (ys : List Shown). slice_index_or ys l y) next_is ∙ kept.quiet l y within (kept.asleep early l low) ∙ sym (ap (λ (ys : List Shown). slice_index_or ys l y) shown_is)

  -- masters without news are not moved
  pub unmoved_in : (items : List Item) (states : List State) → items ≡ host.view.items → states ≡ host.view.states
      → (l : ℕ) (s : State) (d : Item) → l < host.view.masters → has_member news l ≡ false
      → (slice_index_or items l d ≡ reducer.identity) × (steps.settle (slice_index_or states l s) reducer.identity ≡ slice_index_or states l s)
  unmoved_in items states items_is states_is l s d low calm =
      let before = kept.unmoved l s d low calm in (
        ap (λ (xs : List Item). slice_index_or xs l d) items_is ∙ before.0,
        ap (λ (xs : List State). steps.settle (slice_index_or xs l s) reducer.identity) states_is ∙ before.1 ∙ sym (ap (λ (xs : List State). slice_index_or xs l s) states_is),
      )

-- the fields of a host once its masters have settled
pub record Settled {Item State Shown : Type 0} (IsItem : Item → Type 0) (IsShown : Shown → Type 0) (IsState : State → Type 0) (reducer : Reducer Item) (steps : Steps Item State Shown) (masters : ℕ)
    (shown : List Shown) (states : List State) (items : List Item) (next : List Shown) (awake : List Bool)
    (new_states : List State) (new_items : List Item) (new_next : List Shown) (new_awake : List Bool) : Type 0 where
  pub settles : (l : ℕ) (s : State) (d : Item) → l < masters → slice_index_or new_states l s ≡ steps.settle (slice_index_or states l s) (slice_index_or items l d)
  pub sums : (l : ℕ) (d : Item) → l < masters → slice_index_or new_items l d ≡ reducer.identity
  pub shows : (l : ℕ) (s : State) (y : Shown) → l < masters → slice_index_or new_next l y ≡ steps.shown (slice_index_or new_states l s)
  pub wakes : (l : ℕ) (y : Shown) → l < masters → has_member new_awake l ≡ not (steps.same (slice_index_or shown l y) (slice_index_or new_next l y))
  pub still : (l : ℕ) (s : State) → l < masters → steps.settle (slice_index_or new_states l s) reducer.identity ≡ slice_index_or new_states l s
  pub items_stay : (l : ℕ) (d : Item) → masters ≤ l → slice_index_or new_items l d ≡ slice_index_or items l d
  pub next_stay : (l : ℕ) (y : Shown) → masters ≤ l → slice_index_or new_next l y ≡ slice_index_or next l y
  pub awake_stay : (l : ℕ) → masters ≤ l → has_member new_awake l ≡ has_member awake l
  pub states_long : length new_states ≡ length states
  pub items_long : length new_items ≡ length items
  pub next_long : length new_next ≡ length next
  pub awake_long : length new_awake ≡ length awake
  pub states_are : All IsState new_states
  pub items_are : All IsItem new_items
  pub next_are : All IsShown new_next

-- the same of equal lists
pub settled_in : {Item State Shown : Type 0} {IsItem : Item → Type 0} {IsShown : Shown → Type 0} {IsState : State → Type 0} {reducer : Reducer Item} {steps : Steps Item State Shown} {masters all : ℕ}
    {shown shown_field : List Shown} {states states_field : List State} {items items_field : List Item} {next next_field : List Shown} {awake : List Bool}
    {new_states states_after : List State} {new_items items_after : List Item} {new_next next_after : List Shown} {new_awake : List Bool}
    → Settled IsItem IsShown IsState reducer steps masters shown states items next awake new_states new_items new_next new_awake
    → masters ≡ all → shown ≡ shown_field → states ≡ states_field → items ≡ items_field → next ≡ next_field
    → new_states ≡ states_after → new_items ≡ items_after → new_next ≡ next_after
    → Settled IsItem IsShown IsState reducer steps all shown_field states_field items_field next_field awake states_after items_after next_after new_awake
settled_in {Item} {State} {Shown} {IsItem} {IsShown} {IsState} {reducer} {steps} {masters} {all} {shown} {shown_field} {states} {states_field} {items} {items_field} {next} {next_field} {awake} {new_states} {states_after} {new_items} {items_after} {new_next} {next_after} {new_awake}
    settled many shown_is states_is items_is next_is states_new items_new next_new =
    subst (λ n. Settled IsItem IsShown IsState reducer steps n shown_field states_field items_field next_field awake states_after items_after next_after new_awake) many
    (subst (λ (ys : List Shown). Settled IsItem IsShown IsState reducer steps masters ys states_field items_field next_field awake states_after items_after next_after new_awake) shown_is
    (subst (λ (ys : List State). Settled IsItem IsShown IsState reducer steps masters shown ys items_field next_field awake states_after items_after next_after new_awake) states_is
    (subst (λ (ys : List Item). Settled IsItem IsShown IsState reducer steps masters shown states ys next_field awake states_after items_after next_after new_awake) items_is
    (subst (λ (ys : List Shown). Settled IsItem IsShown IsState reducer steps masters shown states items ys awake states_after items_after next_after new_awake) next_is
    (subst (λ (ys : List State). Settled IsItem IsShown IsState reducer steps masters shown states items next awake ys items_after next_after new_awake) states_new
    (subst (λ (ys : List Item). Settled IsItem IsShown IsState reducer steps masters shown states items next awake new_states ys next_after new_awake) items_new
    (subst (λ (ys : List Shown). Settled IsItem IsShown IsState reducer steps masters shown states items next awake new_states new_items ys new_awake) next_new settled)))))))

module _ {Program Item State Shown : Type 0} {IsItem : Item → Type 0} {IsShown : Shown → Type 0} {IsState : State → Type 0} {reducer : Reducer Item} {steps : Steps Item State Shown} {host : HostState Program Item State Shown} {news : List Bool} {reduces_left broadcasts_left : ℕ}
    {states : List State} {items : List Item} {next : List Shown} {awake_next : List Bool}
    (kept : IsKept IsItem IsShown IsState reducer steps host news reduces_left broadcasts_left)
    (settled : Settled IsItem IsShown IsState reducer steps host.view.masters host.view.shown host.view.states host.view.items host.view.next host.view.awake_next states items next awake_next) where
  -- what the host does to its own fields
  pub spreads_own : (item_size shown_size : ℕ) → Spreads (run_of reducer steps item_size shown_size (seen host.way host.graph)) host.view states next items awake_next
  spreads_own item_size shown_size = record {
    settles = settled.settles;
    sums = settled.sums;
    shows_next_state = settled.shows;
    wakes = settled.wakes;
    items_of_mirrors = settled.items_stay;
    next_of_mirrors = settled.next_stay;
    awake_of_mirrors = settled.awake_stay;
  }

  pub spread_host : IsHost (record host { view = after_spread host.view states next items awake_next })
  spread_host = record {
    is_share = kept.is_host.is_share;
    is_memo = kept.is_host.is_memo;
    fits = kept.is_host.fits;
    of_host = kept.is_host.of_host;
    vertices_are = kept.is_host.vertices_are;
    masters_are = kept.is_host.masters_are;
    states_fit = settled.states_long ∙ kept.is_host.states_fit;
    shown_fit = kept.is_host.shown_fit;
    next_fit = settled.next_long ∙ kept.is_host.next_fit;
    items_fit = settled.items_long ∙ kept.is_host.items_fit;
    awake_fit = kept.is_host.awake_fit;
    awake_next_fit = settled.awake_long ∙ kept.is_host.awake_next_fit;
    took_reduce_fit = kept.is_host.took_reduce_fit;
    took_broadcast_fit = kept.is_host.took_broadcast_fit;
  }

  -- a proxy that sleeps in the next round shows there what it shows in this one
  still_quiet : ProgramLaws IsItem IsShown IsState reducer steps → (l : ℕ) (y : Shown) → l < length host.view.vertices → has_member awake_next l ≡ false → slice_index_or next l y ≡ slice_index_or host.view.shown l y
  still_quiet laws l y within sleeps =
      let x : Shown = slice_index_or host.view.shown l y in
      let z : Shown = slice_index_or next l y in
      elim (cases_lt l host.view.masters) [
        | inl low ↦
            let shown_long = kept.is_host.shown_fit in
            let next_long = spread_host.next_fit in
            let same : steps.same x z ≡ true = not-false (steps.same x z) (sym (settled.wakes l y low) ∙ sleeps) in
            sym ((laws.same_tells x z (kept.shown_are l y (omega arith)) (settled.next_are l y (omega arith))).0 same)
        | inr high ↦ settled.next_stay l y high ∙ kept.quiet l y within (sym (settled.awake_stay l high) ∙ sleeps)
      ]

  pub spread_kept : ProgramLaws IsItem IsShown IsState reducer steps → (last_news : List Bool) → last_news ≡ no_members (length news)
      → IsKept IsItem IsShown IsState reducer steps (record host { view = after_spread host.view states next items awake_next }) last_news reduces_left broadcasts_left
  spread_kept laws last_news no_news = record {
    is_host = spread_host;
    news_fit = ap length no_news ∙ length-replicate (length news) false ∙ kept.news_fit;
    states_are = settled.states_are;
    shown_are = kept.shown_are;
    next_are = settled.next_are;
    items_are = settled.items_are;
    quiet = still_quiet laws;
    asleep = λ early. absurd (both_ways true early refl);
    states_show = settled.shows;
    unmoved = λ l s d low calm. (settled.sums l d low, settled.still l s low);
    all_sent = λ l high. ap (λ (bits : List Bool). has_member bits l) no_news ∙ has_member-no_members (length news) l;
    nothing_kept = λ resets l d high within. settled.items_stay l d high ∙ kept.nothing_kept resets l d high within;
    reduces_left_are = kept.reduces_left_are;
    broadcasts_left_are = kept.broadcasts_left_are;
  }

-- what the host does, told of the host that the call is handed
pub spreads_now : {Program Item State Shown : Type 0} {reducer : Reducer Item} (steps_of : Program → Steps Item State Shown) {item_size shown_size : ℕ} {host now : HostState Program Item State Shown}
    {states : List State} {next : List Shown} {items : List Item} {awake_next : List Bool} → host ≡ now
    → Spreads (run_of reducer (steps_of host.view.program) item_size shown_size (seen host.way host.graph)) host.view states next items awake_next
    → Spreads (run_of reducer (steps_of now.view.program) item_size shown_size (seen now.way now.graph)) now.view states next items awake_next
spreads_now {Program} {Item} {State} {Shown} {reducer} steps_of {item_size} {shown_size} {host} {now} {states} {next} {items} {awake_next} same own =
    subst (λ (state : HostState Program Item State Shown). Spreads (run_of reducer (steps_of state.view.program) item_size shown_size (seen state.way state.graph)) state.view states next items awake_next) same own

-- what a host posts that shows this in the next round
abbrev pub PostsShown : {Program Item State Shown : Type 0} → (size : ℕ) → (Shown → List ℕ) → List Shown → List Bool → (old new : Table) → HostState Program Item State Shown → Type 0
PostsShown size bytes next awake_next old new state =
    Posts Spread state.view.host state.memo.spread_to
    (λ to. bytes_of_packet size bytes (packet_at next (list_at state.memo.spread_to to).locals (list_at state.memo.spread_to to).globals awake_next)) old new

pub posts_shown : {Program Item State Shown : Type 0} (size : ℕ) (bytes : Shown → List ℕ) (host : HostState Program Item State Shown) (next slice : List Shown) (awake_next : List Bool) (from : ℕ) (old new : Table)
    → from ≡ host.view.host → slice ≡ next
    → Posts Spread from host.memo.spread_to (λ to. bytes_of_packet size bytes (packet_at slice (list_at host.memo.spread_to to).locals (list_at host.memo.spread_to to).globals awake_next)) old new
    → PostsShown size bytes next awake_next old new host
posts_shown {Program} {Item} {State} {Shown} size bytes host next slice awake_next from old new from_is slice_is posts =
    subst (λ h. Posts Spread h host.memo.spread_to (λ to. bytes_of_packet size bytes (packet_at next (list_at host.memo.spread_to to).locals (list_at host.memo.spread_to to).globals awake_next)) old new) from_is
    (subst (λ (ys : List Shown). Posts Spread from host.memo.spread_to (λ to. bytes_of_packet size bytes (packet_at ys (list_at host.memo.spread_to to).locals (list_at host.memo.spread_to to).globals awake_next)) old new) slice_is posts)

pub posts_now : {Program Item State Shown : Type 0} (size : ℕ) (bytes : Shown → List ℕ) {host now : HostState Program Item State Shown} (next : List Shown) (awake_next : List Bool) (old new : Table)
    → host ≡ now → PostsShown size bytes next awake_next old new host → PostsShown size bytes next awake_next old new now
posts_now {Program} {Item} {State} {Shown} size bytes next awake_next old new same posts =
    subst (λ (state : HostState Program Item State Shown). PostsShown size bytes next awake_next old new state) same posts

module _ {Program Item State Shown : Type 0} (IsItem : Item → Type 0) (IsShown : Shown → Type 0) (IsState : State → Type 0) (reducer : Reducer Item) (steps_of : Program → Steps Item State Shown) (item_size shown_size : ℕ) (shown_bytes : Shown → List ℕ)
    (division : Division) (rounds : ℕ) (host : HostState Program Item State Shown) (states : List State) (next : List Shown) (items : List Item) (awake_next : List Bool) (old new : Table) where
  -- what it does in a round of a division that it serves
  abbrev SpreadsFor : HostState Program Item State Shown → Type 0
  SpreadsFor state =
      Serves division state
      → IsRun IsItem IsShown IsState (run_of reducer (steps_of state.view.program) item_size shown_size division)
      → StandsFor (run_of reducer (steps_of state.view.program) item_size shown_size division) rounds state.view
      → SpreadsIn reducer (steps_of state.view.program) item_size shown_size division rounds state (record host { view = after_spread host.view states next items awake_next }) shown_bytes old new

  spreads_here : IsHost host → is_ready_to_spread host ≡ true
      → IsHost (record host { view = after_spread host.view states next items awake_next })
      → Spreads (run_of reducer (steps_of host.view.program) item_size shown_size (seen host.way host.graph)) host.view states next items awake_next
      → PostsShown shown_size shown_bytes next awake_next old new host → SpreadsFor host
  spreads_here is ready after own posts serves fact stands =
      let steps = steps_of host.view.program in
      let run = run_of reducer steps item_size shown_size division in
      let effect : Spreads (run_of reducer (steps_of host.view.program) item_size shown_size division) host.view states next items awake_next
      = spread_all reducer steps item_size shown_size shown_bytes division rounds host is serves fact stands ready states next items awake_next old new after own in
      let may = sym (serving_knows Program Item State Shown division host is serves).ready_to_spread ∙ ready in
      let parts = and_parts host.view.has_computed (not (host.view.has_spread || expects_reduce division host.view)) may in
      let left = or_parts host.view.has_spread (expects_reduce division host.view) (not-true (host.view.has_spread || expects_reduce division host.view) parts.1) in
      record {
        becomes = record { states = states; next = next; items = items; awake_next = awake_next; effect = effect; becomes = refl };
        stands = spread_stands run fact rounds host.view stands parts.0 (all_reduced run host.view left.1) left.0 states next items awake_next effect;
        posts = posted reducer steps item_size shown_size shown_bytes division rounds host is serves fact stands ready states next items awake_next old new after own posts;
      }

  pub spreads_in : (now : HostState Program Item State Shown) → host ≡ now → IsHost host → is_ready_to_spread now ≡ true
      → IsHost (record host { view = after_spread host.view states next items awake_next })
      → Spreads (run_of reducer (steps_of host.view.program) item_size shown_size (seen host.way host.graph)) host.view states next items awake_next
      → PostsShown shown_size shown_bytes next awake_next old new host → SpreadsFor now
  spreads_in now same is ready after own posts =
      subst SpreadsFor same (spreads_here is (ap (λ (state : HostState Program Item State Shown). is_ready_to_spread state) same ∙ ready) after own posts)
