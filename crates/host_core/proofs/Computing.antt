-- A host that computes keeps its fields in order, and does what a round asks.
use Rattle.std.proofs.Common.{◌≡◌, ℕ, ◌<◌, ◌≤◌, Bool, true, false, not, cond, if◌then◌else◌, ◌&&◌, ◌==◌, List, [], ◌∷◌, length, refl, sym, ap, subst, ◌∙◌, arith, inl, inr}
use Rattle.std.specs.List.{All, filter, list_any, slice_index_or}
use Rattle.std.proofs.lemmas.Bool.{or_parts, cases_lt, lt-leb, le-leb}
use Rattle.std.proofs.Math.Bool.{and-true}
use Rattle.std.proofs.lemmas.List.{get_or_past}
use Rattle.list_laws.specs.Members.{has_member}
use Rattle.graph_model.specs.Arcs.{Arc, arcs_of}
use Rattle.graph_model.specs.declared.edge.Way.{Way}
use Rattle.reduce_laws.specs.ReductionLaws.{Reducer, ReductionLaws, combined}
use Rattle.reduce_laws.specs.ProgramLaws.{Steps}
use Rattle.graph_division.specs.Division.{Division}
use Rattle.graph_division.specs.Lists.{is_writable}
use Rattle.graph_division.specs.Shares.{Share, seen}
use Rattle.proxy_graph.specs.Heads.{lid_of}
use Rattle.address_memo.specs.Memos.{list_at}
use Rattle.address_memo.proofs.Mirrors.{length_proxies}
use Rattle.field_encodings.specs.Packets.{packet_at, bytes_of_packet}
use Rattle.packet_table.specs.declared.channel_spec.Leg.TheVariants.{Reduce}
use Rattle.packet_table.specs.Table.{Table}
use Rattle.round_packets.specs.Runs.{IsRun}
use Rattle.host_laws.specs.HostView.{vertex}
use Rattle.host_laws.specs.Standing.{StandsFor}
use Rattle.host_laws.specs.Effects.{after_compute}
use Rattle.host_laws.proofs.Computing.{computed_stands}
use Rattle.host_state.specs.HostState.{HostState, IsHost}
use Rattle.host_state.specs.Serving.{run_of, Serves}
use Rattle.host_state.specs.Posting.{is_listed, IsReady, Posts}
use Rattle.host_state.specs.Gained.{is_live, sent_along, gained, Gains}
use Rattle.host_state.specs.OwnEffects.{ComputesOwn}
use Rattle.serving_laws.proofs.Computing.{computed, posted}
use Rattle.host_core.specs.Kept.{IsKept}
use Rattle.host_core.specs.Calls.{ComputesIn}
use Rattle.host_core.proofs.Opening.{vertex_here, within_here}
use Rattle.host_core.proofs.Peers.{listed_is_sent}

-- nothing passes a test that is weaker than one that nothing passes
none_pass : {X : Type 0} (p q : X → Bool) (xs : List X) → ((x : X) → p x ≡ false → q x ≡ false) → list_any p xs ≡ false → filter q xs ≡ []
none_pass p q [] weaker none = refl
none_pass p q (x ∷ xs) weaker none =
    let parts = or_parts (p x) (list_any p xs) none in
    ap (λ b. cond b (x ∷ filter q xs) (filter q xs)) (weaker x parts.0) ∙ none_pass p q xs weaker parts.1

-- a vertex that no arc leads to gains nothing
gained_none : {Item State Shown : Type 0} (reducer : Reducer Item) (steps : Steps Item State Shown) (share : Share) (way : Way) (shown : List Shown) (awake : List Bool) (any : Shown) (v : ℕ)
    → is_writable (seen way share) share.host v ≡ false → gained reducer steps share way shown awake any v ≡ reducer.identity
unfolding gained
gained_none reducer steps share way shown awake any v unwritten =
    ap (combined reducer (sent_along reducer steps share way shown awake any))
    (none_pass (λ (arc : Arc). arc.head == v) (is_live share awake v) (arcs_of way share.edges) (λ arc elsewhere. ap (λ b. b && has_member awake (lid_of share arc.tail)) elsewhere) unwritten)

-- The fields of a host once its arcs have brought what they bring, and its mirrors are sent: the items
-- between the two are `gathered`.
pub record Gathered {Program Item State Shown : Type 0} (IsItem : Item → Type 0) (reducer : Reducer Item) (steps : Steps Item State Shown) (host : HostState Program Item State Shown) (news : List Bool)
    (gathered : List Item) (new_news : List Bool) (items : List Item) (last_news : List Bool) : Type 0 where
  pub gains : Gains reducer steps host.graph host.way host.view.shown host.view.awake host.view.items news gathered new_news
  pub gathered_are : All IsItem gathered
  pub long : length items ≡ length gathered
  pub cleared : (l : ℕ) → has_member last_news l ≡ (has_member new_news l && not (is_listed host.memo.reduce_to l))
  pub news_long : length last_news ≡ length new_news
  pub sent : (l : ℕ) (d : Item) → slice_index_or items l d ≡ (if is_listed host.memo.reduce_to l && not reducer.keeps then reducer.identity else slice_index_or gathered l d)

-- what arcs bring to equal lists
pub gains_in : {Item State Shown : Type 0} {reducer : Reducer Item} {steps : Steps Item State Shown} {share : Share} {way : Way} {shown shown_field : List Shown} {awake : List Bool} {items items_field : List Item} {news : List Bool} {new_items gathered : List Item} {new_news : List Bool}
    → Gains reducer steps share way shown awake items news new_items new_news
    → shown ≡ shown_field → items ≡ items_field → new_items ≡ gathered
    → Gains reducer steps share way shown_field awake items_field news gathered new_news
gains_in {Item} {State} {Shown} {reducer} {steps} {share} {way} {shown} {shown_field} {awake} {items} {items_field} {news} {new_items} {gathered} {new_news} gains shown_is items_is new_is =
    subst (λ (ys : List Shown). Gains reducer steps share way ys awake items_field news gathered new_news) shown_is
    (subst (λ (xs : List Item). Gains reducer steps share way shown awake xs news gathered new_news) items_is
    (subst (λ (xs : List Item). Gains reducer steps share way shown awake items news xs new_news) new_is gains))

module _ {Program Item State Shown : Type 0} {IsItem : Item → Type 0} {IsShown : Shown → Type 0} {IsState : State → Type 0} {reducer : Reducer Item} {steps : Steps Item State Shown} {host : HostState Program Item State Shown} {news : List Bool} {reduces_left broadcasts_left : ℕ}
    {gathered : List Item} {new_news : List Bool} {items : List Item} {last_news : List Bool}
    (laws : ReductionLaws IsItem reducer)
    (kept : IsKept IsItem IsShown IsState reducer steps host news reduces_left broadcasts_left)
    (did : Gathered IsItem reducer steps host news gathered new_news items last_news) where
  -- some value that a vertex shows
  any : Shown
  any = steps.shown (steps.start 0)

  -- whether a proxy is written here
  abbrev written : ℕ → Bool
  written l = is_writable (seen host.way host.graph) host.graph.host (vertex host.view l)

  masters_within : (l : ℕ) → l < host.view.masters → l < length host.view.vertices
  masters_within l low =
      let many = kept.is_host.masters_are in
      let long = ap length kept.is_host.vertices_are in
      omega (arith, length_proxies host.graph)

  gathered_long : length gathered ≡ length host.view.vertices
  gathered_long = did.gains.long ∙ kept.is_host.items_fit

  old_value : (l : ℕ) (d : Item) → l < length host.view.vertices → IsItem (slice_index_or host.view.items l d)
  old_value l d within = kept.items_are l d (let long = kept.is_host.items_fit in omega arith)

  -- a proxy that is not written gathers nothing
  gathers_nothing : (l : ℕ) (d : Item) → l < length host.view.vertices → written l ≡ false → slice_index_or gathered l d ≡ slice_index_or host.view.items l d
  gathers_nothing l d within unwritten =
      let old : Item = slice_index_or host.view.items l d in
      did.gains.gains l d any (within_here host kept.is_host l within)
      ∙ ap (λ v. reducer.combine old (gained reducer steps host.graph host.way host.view.shown host.view.awake any v)) (sym (vertex_here host kept.is_host l))
      ∙ ap (reducer.combine old) (gained_none reducer steps host.graph host.way host.view.shown host.view.awake any (vertex host.view l) unwritten)
      ∙ laws.combine_comm old reducer.identity (old_value l d within) laws.identity_is_value
      ∙ laws.combine-identity old (old_value l d within)

  -- masters are in no list
  low_unlisted : (l : ℕ) → l < host.view.masters → is_listed host.memo.reduce_to l ≡ false
  low_unlisted l low = listed_is_sent host kept.is_host l (masters_within l low) ∙ ap (λ b. b && written l) (lt-leb host.view.masters l low)

  -- mirrors are, where they are written
  high_listed : (l : ℕ) → host.view.masters ≤ l → l < length host.view.vertices → is_listed host.memo.reduce_to l ≡ written l
  high_listed l high within = listed_is_sent host kept.is_host l within ∙ ap (λ b. b && written l) (le-leb host.view.masters l high)

  -- what a proxy has that is not sent
  unsent : (l : ℕ) (d : Item) → is_listed host.memo.reduce_to l ≡ false → slice_index_or items l d ≡ slice_index_or gathered l d
  unsent l d unlisted = did.sent l d ∙ ap (λ b. if b && not reducer.keeps then reducer.identity else slice_index_or gathered l d) unlisted

  -- a mirror that is not written has no news
  no_news : (l : ℕ) → host.view.masters ≤ l → l < length host.view.vertices → written l ≡ false → has_member new_news l ≡ false
  no_news l high within unwritten =
      let d : Item = reducer.identity in
      let value : IsItem (slice_index_or gathered l d) = did.gathered_are l d (let long = gathered_long in omega arith) in
      did.gains.grew l d (let many = kept.is_host.masters_are in omega arith) (within_here host kept.is_host l within)
      ∙ ap not ((laws.same_tells (slice_index_or gathered l d) (slice_index_or host.view.items l d) value (old_value l d within)).1 (gathers_nothing l d within unwritten))

  -- what the host does to its own fields
  pub computes_own : (item_size : ℕ) (item_bytes : Item → List ℕ) (old new : Table)
      → Posts Reduce host.view.host host.memo.reduce_to (λ to. bytes_of_packet item_size item_bytes (packet_at gathered (list_at host.memo.reduce_to to).locals (list_at host.memo.reduce_to to).globals new_news)) old new
      → ComputesOwn host reducer steps item_size item_bytes items old new
  computes_own item_size item_bytes old new posts = record {
    news = news;
    gathered = gathered;
    new_news = new_news;
    gains = did.gains;
    posts = posts;
    items_are = λ l d within. did.sent l d ∙ ap (λ b. if b && not reducer.keeps then reducer.identity else slice_index_or gathered l d) (listed_is_sent host kept.is_host l within);
  }

  still_items : All IsItem items
  still_items l d within =
      subst IsItem (sym (did.sent l d)) (either (is_listed host.memo.reduce_to l && not reducer.keeps))
    where
      either : (b : Bool) → IsItem (if b then reducer.identity else slice_index_or gathered l d)
      either true = laws.identity_is_value
      either false = did.gathered_are l d (let long = did.long in omega arith)

  still_unmoved : (l : ℕ) (s : State) (d : Item) → l < host.view.masters → has_member last_news l ≡ false
      → (slice_index_or items l d ≡ reducer.identity) × (steps.settle (slice_index_or host.view.states l s) reducer.identity ≡ slice_index_or host.view.states l s)
  still_unmoved l s d low calm =
      let unlisted = low_unlisted l low in
      let calm_before : has_member new_news l ≡ false = sym (and-true (has_member new_news l)) ∙ sym (ap (λ b. has_member new_news l && not b) unlisted) ∙ sym (did.cleared l) ∙ calm in
      let untouched = did.gains.untouched l d (let many = kept.is_host.masters_are in omega arith) calm_before in
      let before = kept.unmoved l s d low untouched.0 in
      (unsent l d unlisted ∙ untouched.1 ∙ before.0, before.1)

  all_sent : (l : ℕ) → host.view.masters ≤ l → has_member last_news l ≡ false
  all_sent l high =
      elim (cases_lt l (length host.view.vertices)) [
        | inl within ↦ either (written l) refl within
        | inr past ↦ get_or_past last_news l false (let long = did.news_long in let as_many = did.gains.news_long in let fit = kept.news_fit in omega arith)
      ]
    where
      either : (b : Bool) → written l ≡ b → l < length host.view.vertices → has_member last_news l ≡ false
      either true sent within = did.cleared l ∙ ap (λ b. has_member new_news l && not b) (high_listed l high within ∙ sent) ∙ neither (has_member new_news l)
        where
          neither : (a : Bool) → (a && false) ≡ false
          neither true = refl
          neither false = refl
      either false unsent within = did.cleared l ∙ ap (λ b. b && not (is_listed host.memo.reduce_to l)) (no_news l high within unsent)

  nothing_kept : reducer.keeps ≡ false → (l : ℕ) (d : Item) → host.view.masters ≤ l → l < length host.view.vertices → slice_index_or items l d ≡ reducer.identity
  nothing_kept resets l d high within = either (written l) refl
    where
      either : (b : Bool) → written l ≡ b → slice_index_or items l d ≡ reducer.identity
      either true sent =
          did.sent l d
          ∙ ap (λ b. if b && not reducer.keeps then reducer.identity else slice_index_or gathered l d) (high_listed l high within ∙ sent)
          ∙ ap (λ k. if not k then reducer.identity else slice_index_or gathered l d) resets
      either false stays = unsent l d (high_listed l high within ∙ stays) ∙ gathers_nothing l d within stays ∙ kept.nothing_kept resets l d high within

  pub computed_kept : IsKept IsItem IsShown IsState reducer steps (record host { view = after_compute host.view items }) last_news reduces_left broadcasts_left
  computed_kept = record {
    is_host = record {
      is_share = kept.is_host.is_share;
      is_memo = kept.is_host.is_memo;
      fits = kept.is_host.fits;
      of_host = kept.is_host.of_host;
      vertices_are = kept.is_host.vertices_are;
      masters_are = kept.is_host.masters_are;
      states_fit = kept.is_host.states_fit;
      shown_fit = kept.is_host.shown_fit;
      next_fit = kept.is_host.next_fit;
      items_fit = did.long ∙ gathered_long;
      awake_fit = kept.is_host.awake_fit;
      awake_next_fit = kept.is_host.awake_next_fit;
      took_reduce_fit = kept.is_host.took_reduce_fit;
      took_broadcast_fit = kept.is_host.took_broadcast_fit;
    };
    news_fit = did.news_long ∙ did.gains.news_long ∙ kept.news_fit;
    states_are = kept.states_are;
    shown_are = kept.shown_are;
    next_are = kept.next_are;
    items_are = still_items;
    quiet = kept.quiet;
    asleep = kept.asleep;
    states_show = kept.states_show;
    unmoved = still_unmoved;
    all_sent = all_sent;
    nothing_kept = nothing_kept;
    reduces_left_are = kept.reduces_left_are;
    broadcasts_left_are = kept.broadcasts_left_are;
  }

-- channels are ready for the lists of the host that the call is handed
pub ready_in : {Program Item State Shown : Type 0} {host now : HostState Program Item State Shown} (from size : ℕ) (table : Table) → host ≡ now → from ≡ host.view.host
    → IsReady Reduce now.view.host size now.memo.reduce_to table → IsReady Reduce from size host.memo.reduce_to table
ready_in {Program} {Item} {State} {Shown} {host} {now} from size table same from_is ready =
    subst (λ h. IsReady Reduce h size host.memo.reduce_to table) (sym from_is)
    (subst (λ (state : HostState Program Item State Shown). IsReady Reduce state.view.host size state.memo.reduce_to table) (sym same) ready)

-- what the host does, told of the host that the call is handed
pub computes_now : {Program Item State Shown : Type 0} {reducer : Reducer Item} (steps_of : Program → Steps Item State Shown) {item_size : ℕ} {item_bytes : Item → List ℕ} {host now : HostState Program Item State Shown} {items : List Item} {old new : Table}
    → host ≡ now → ComputesOwn host reducer (steps_of host.view.program) item_size item_bytes items old new → ComputesOwn now reducer (steps_of now.view.program) item_size item_bytes items old new
computes_now {Program} {Item} {State} {Shown} {reducer} steps_of {item_size} {item_bytes} {host} {now} {items} {old} {new} same own =
    subst (λ (state : HostState Program Item State Shown). ComputesOwn state reducer (steps_of state.view.program) item_size item_bytes items old new) same own

-- the packets are those of the host, by its number
pub posts_gathered : {Program Item State Shown : Type 0} (size : ℕ) (bytes : Item → List ℕ) (host : HostState Program Item State Shown) (gathered : List Item) (new_news : List Bool) (from : ℕ) (old new : Table) → from ≡ host.view.host
    → Posts Reduce from host.memo.reduce_to (λ to. bytes_of_packet size bytes (packet_at gathered (list_at host.memo.reduce_to to).locals (list_at host.memo.reduce_to to).globals new_news)) old new
    → Posts Reduce host.view.host host.memo.reduce_to (λ to. bytes_of_packet size bytes (packet_at gathered (list_at host.memo.reduce_to to).locals (list_at host.memo.reduce_to to).globals new_news)) old new
posts_gathered size bytes host gathered new_news from old new from_is posts =
    subst (λ h. Posts Reduce h host.memo.reduce_to (λ to. bytes_of_packet size bytes (packet_at gathered (list_at host.memo.reduce_to to).locals (list_at host.memo.reduce_to to).globals new_news)) old new) from_is posts

module _ {Program Item State Shown : Type 0} (IsItem : Item → Type 0) (IsShown : Shown → Type 0) (IsState : State → Type 0) (reducer : Reducer Item) (steps_of : Program → Steps Item State Shown) (item_size shown_size : ℕ) (item_bytes : Item → List ℕ)
    (division : Division) (rounds : ℕ) (host : HostState Program Item State Shown) (items : List Item) (old new : Table) where
  -- what it does in a round of a division that it serves
  abbrev ComputesFor : HostState Program Item State Shown → Type 0
  ComputesFor state =
      Serves division state
      → IsRun IsItem IsShown IsState (run_of reducer (steps_of state.view.program) item_size shown_size division)
      → StandsFor (run_of reducer (steps_of state.view.program) item_size shown_size division) rounds state.view
      → ComputesIn reducer (steps_of state.view.program) item_size shown_size division rounds state (record host { view = after_compute host.view items }) item_bytes old new

  computes_here : IsHost host → host.view.has_computed ≡ false → ComputesOwn host reducer (steps_of host.view.program) item_size item_bytes items old new → ComputesFor host
  computes_here is early own serves fact stands =
      let steps = steps_of host.view.program in
      let effect = computed reducer steps item_size shown_size item_bytes division rounds host is serves fact stands early items old new own in
      record {
        becomes = record { items = items; effect = effect; becomes = refl };
        stands = computed_stands (run_of reducer steps item_size shown_size division) fact rounds host.view stands early items effect;
        posts = posted reducer steps item_size shown_size item_bytes division rounds host is serves fact stands early items old new own;
      }

  pub computes_in : (now : HostState Program Item State Shown) → host ≡ now → IsHost host → now.view.has_computed ≡ false
      → ComputesOwn host reducer (steps_of host.view.program) item_size item_bytes items old new → ComputesFor now
  computes_in now same is early own =
      subst ComputesFor same (computes_here is (ap (λ (state : HostState Program Item State Shown). state.view.has_computed) same ∙ early) own)
