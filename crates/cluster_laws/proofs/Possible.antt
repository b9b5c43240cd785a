-- Events that may come can come.
use Rattle.std.proofs.Common.{◌≡◌, ℕ, zero, suc, ◌<◌, ◌≤◌, true, false, Bool, cond, not, ◌&&◌, ◌==◌, nat_lt, Option, List, length, map, get_or, slice_index, refl, sym, ◌∙◌, ap, subst, inl, inr, arith}
use Rattle.std.specs.List.{range_with_len}
use Rattle.std.specs.Option.{unwrap_or}
use Rattle.std.proofs.lemmas.Bool.{cases_lt, eq-eqb, ne_eqb, lt-ltb}
use Rattle.std.proofs.lemmas.Bool.Decides.{nat_tests}
use Rattle.std.proofs.lemmas.List.{get_or_past, get_or_default}
use Rattle.std.proofs.lemmas.List.FromFn.{length-map-range_with_len, get_or-map-range_with_len}
use Rattle.std.proofs.lemmas.List.Elements.{All-get_or, filter_passes}
use Rattle.round_packets.specs.Runs.{Run, IsRun, contribution}
use Rattle.round_packets.specs.Packets.{carries, carried_value}
use Rattle.round_packets.specs.RunPackets.{reduce_packet, broadcast_packet}
use Rattle.host_laws.specs.HostView.{HostView}
use Rattle.host_laws.specs.Effects.{after_compute, after_reduce, after_spread, after_broadcast, and_maybe}
use Rattle.cluster_laws.specs.Channels.{Leg, payload}
use Rattle.cluster_laws.specs.Channels.Leg.{reduce, broadcast}
use Rattle.cluster_laws.specs.Events.{Event, host_of, round_events}
use Rattle.cluster_laws.specs.Events.Event.{compute, spread, deliver}
use Rattle.cluster_laws.specs.Cluster.{ClusterView, ClusterStands, StandsBetween, IsOver, yet_to_come, may_come, enabled}
use Rattle.cluster_laws.specs.Steps.{Step, StepsInTurn, TakesTo, BecomesBy, posts, flies_after}
use Rattle.cluster_laws.specs.Possible.{IsWhole, AreWhole}
use Rattle.cluster_laws.proofs.Keeping.{step_keeps}
use Rattle.cluster_laws.proofs.Keeping as keeping
use Rattle.cluster_laws.proofs.Ending.{steps_keep, over_where_nothing_left, nothing_left, end_is_over, one_fewer_to_come}

-- a list of so many, of which the first are one thing and the rest another
module _ {X : Type 0} (n m : ℕ) (f g : ℕ → X) where
  made : List X
  made = map (λ l. cond (nat_lt l m) (f l) (g l)) (range_with_len 0 n)

  made_long : length made ≡ n
  unfolding made
  made_long = length-map-range_with_len (λ l. cond (nat_lt l m) (f l) (g l)) 0 n

  at_front : (l : ℕ) (d : X) → l < m → m ≤ n → get_or made l d ≡ f l
  unfolding made
  at_front l d front fits = get_or-map-range_with_len (λ k. cond (nat_lt k m) (f k) (g k)) 0 n l l d (omega arith) (omega arith) ∙ ap (λ b. cond b (f l) (g l)) (lt-ltb l m front)

  at_back : (l : ℕ) (d : X) → m ≤ l → l < n → get_or made l d ≡ g l
  unfolding made
  at_back l d back within =
      get_or-map-range_with_len (λ k. cond (nat_lt k m) (f k) (g k)) 0 n l l d within (omega arith)
      ∙ ap (λ b. cond b (f l) (g l)) (let no_front : nat_lt l m ≡ false = grind (arith, nat_tests) in no_front)

-- where the rest is a list that is as long, it stays, also past its end
back_stays : {X : Type 0} (n m : ℕ) (f : ℕ → X) (xs : List X) (e : X) → length xs ≡ n → (l : ℕ) (d : X) → m ≤ l → get_or (made n m f (λ k. get_or xs k e)) l d ≡ get_or xs l d
back_stays n m f xs e long l d back =
    elim (cases_lt l n) [
      | inl within ↦ at_back n m f (λ k. get_or xs k e) l d back within ∙ get_or_default xs l e d (omega arith)
      | inr past ↦ get_or_past (made n m f (λ k. get_or xs k e)) l d (let have = made_long n m f (λ k. get_or xs k e) in omega arith) ∙ sym (get_or_past xs l d (omega arith))
    ]

front_stays : {X : Type 0} (n m : ℕ) (g : ℕ → X) (xs : List X) (e : X) → length xs ≡ n → m ≤ n → (l : ℕ) (d : X) → l < m → get_or (made n m (λ k. get_or xs k e) g) l d ≡ get_or xs l d
front_stays n m g xs e long fits l d front = at_front n m (λ k. get_or xs k e) g l d front fits ∙ get_or_default xs l e d (omega arith)

module _ {Program Item State Shown : Type 0} (run : Run Item State Shown) (rounds : ℕ) (view : HostView Program Item State Shown) (fits : view.masters ≤ length view.vertices) (whole : IsWhole view) where
  n : ℕ
  n = length view.vertices

  nothing : Item
  nothing = run.reducer.identity

  any_state : State
  any_state = run.steps.start 0

  any_shown : Shown
  any_shown = run.steps.shown any_state

  same_item : (l : ℕ) (d : Item) → l < length view.vertices → get_or view.items l nothing ≡ get_or view.items l d
  same_item l d within = get_or_default view.items l nothing d (let e = whole.items_fit in omega arith)

  can_compute : (h : ℕ) → (new : HostView Program Item State Shown) × BecomesBy run rounds (compute h) view new × IsWhole new
  unfolding n
  can_compute h = (
    after_compute view items,
    record {
      items = items;
      effect = record {
        masters = λ l d front. at_front n view.masters with_own mirrored l d front fits ∙ ap (λ x. run.reducer.combine x (own l)) (same_item l d (omega arith));
        mirrors = λ l d back within written. at_back n view.masters with_own mirrored l d back within ∙ ap (λ x. cond run.reducer.keeps (run.reducer.combine x (own l)) run.reducer.identity) (same_item l d within);
      };
      becomes = refl;
    },
    record { states_fit = whole.states_fit; shown_fit = whole.shown_fit; next_fit = whole.next_fit; items_fit = made_long n view.masters with_own mirrored; awake_next_fit = whole.awake_next_fit },
  )
    where
      own : ℕ → Item
      own l = contribution run rounds view.host (slice_index view.vertices l)

      with_own : ℕ → Item
      with_own l = run.reducer.combine (get_or view.items l nothing) (own l)

      mirrored : ℕ → Item
      mirrored l = cond run.reducer.keeps (run.reducer.combine (get_or view.items l nothing) (own l)) run.reducer.identity

      items : List Item
      items = made n view.masters with_own mirrored

  can_take_reduce : (from : ℕ) → (new : HostView Program Item State Shown) × TakesTo run rounds reduce from view new × IsWhole new
  unfolding n
  can_take_reduce from = (
    after_reduce from view items,
    record {
      items = items;
      effect = record {
        masters = λ l d front. at_front n view.masters with_more stays l d front fits ∙ ap (λ x. and_maybe run.reducer x (more l)) (same_item l d (omega arith));
        mirrors = λ l d back. back_stays n view.masters with_more view.items nothing whole.items_fit l d back;
      };
      becomes = refl;
    },
    record { states_fit = whole.states_fit; shown_fit = whole.shown_fit; next_fit = whole.next_fit; items_fit = made_long n view.masters with_more stays; awake_next_fit = whole.awake_next_fit },
  )
    where
      more : ℕ → Option Item
      more l = carried_value run.item_size (reduce_packet run rounds from view.host) (slice_index view.vertices l)

      with_more : ℕ → Item
      with_more l = and_maybe run.reducer (get_or view.items l nothing) (more l)

      stays : ℕ → Item
      stays l = get_or view.items l nothing

      items : List Item
      items = made n view.masters with_more stays

  can_spread : (h : ℕ) → (new : HostView Program Item State Shown) × BecomesBy run rounds (spread h) view new × IsWhole new
  unfolding n nothing
  can_spread h = (
    after_spread view states next items awake_next,
    record {
      states = states;
      next = next;
      items = items;
      awake_next = awake_next;
      effect = record {
        settles = λ l s x front. at_front n view.masters settled settled l s front fits
            ∙ ap (λ y. run.steps.settle y (get_or view.items l nothing)) (get_or_default view.states l any_state s (let e = whole.states_fit in omega arith))
            ∙ ap (run.steps.settle (get_or view.states l s)) (same_item l x (omega arith));
        sums = λ l x front. at_front n view.masters (λ k. nothing) (λ k. get_or view.items k nothing) l x front fits;
        shows_next_state = λ l s y front. at_front n view.masters shows (λ k. get_or view.next k any_shown) l y front fits
            ∙ ap run.steps.shown (get_or_default states l any_state s (let e = made_long n view.masters settled settled in omega arith));
        wakes = λ l y front. at_front n view.masters awakes (λ k. get_or view.awake_next k false) l false front fits
            ∙ ap (λ x. not (run.steps.same x (get_or next l any_shown))) (get_or_default view.shown l any_shown y (let e = whole.shown_fit in omega arith))
            ∙ ap (λ x. not (run.steps.same (get_or view.shown l y) x)) (get_or_default next l any_shown y (let e = made_long n view.masters shows (λ k. get_or view.next k any_shown) in omega arith));
        items_of_mirrors = λ l x back. back_stays n view.masters (λ k. nothing) view.items nothing whole.items_fit l x back;
        next_of_mirrors = λ l y back. back_stays n view.masters shows view.next any_shown whole.next_fit l y back;
        awake_of_mirrors = λ l back. back_stays n view.masters awakes view.awake_next false whole.awake_next_fit l false back;
      };
      becomes = refl;
    },
    record {
      states_fit = let e = made_long n view.masters settled settled in omega arith;
      shown_fit = whole.shown_fit;
      next_fit = made_long n view.masters shows (λ k. get_or view.next k any_shown);
      items_fit = made_long n view.masters (λ k. nothing) (λ k. get_or view.items k nothing);
      awake_next_fit = made_long n view.masters awakes (λ k. get_or view.awake_next k false);
    },
  )
    where
      settled : ℕ → State
      settled l = run.steps.settle (get_or view.states l any_state) (get_or view.items l nothing)

      states : List State
      states = made n view.masters settled settled

      shows : ℕ → Shown
      shows l = run.steps.shown (get_or states l any_state)

      next : List Shown
      next = made n view.masters shows (λ k. get_or view.next k any_shown)

      awakes : ℕ → Bool
      awakes l = not (run.steps.same (get_or view.shown l any_shown) (get_or next l any_shown))

      items : List Item
      items = made n view.masters (λ k. nothing) (λ k. get_or view.items k nothing)

      awake_next : List Bool
      awake_next = made n view.masters awakes (λ k. get_or view.awake_next k false)

  can_take_broadcast : (from : ℕ) → (new : HostView Program Item State Shown) × TakesTo run rounds broadcast from view new × IsWhole new
  unfolding n
  can_take_broadcast from = (
    after_broadcast from view next items awake_next,
    record {
      next = next;
      items = items;
      awake_next = awake_next;
      effect = record {
        told = λ l y back within. at_back n view.masters (λ k. get_or view.next k any_shown) tells l y back within ∙ ap (unwrap_or (news l)) (get_or_default view.next l any_shown y (let e = whole.next_fit in omega arith));
        wakes = λ l y back within. at_back n view.masters (λ k. get_or view.awake_next k false) awakes l false back within
            ∙ ap (λ x. cond (comes l && not (run.steps.same x (get_or next l any_shown))) true (get_or view.awake_next l false)) (get_or_default view.shown l any_shown y (let e = whole.shown_fit in omega arith))
            ∙ ap (λ x. cond (comes l && not (run.steps.same (get_or view.shown l y) x)) true (get_or view.awake_next l false)) (same_next l y within);
        keeps = λ l x y back within written. at_back n view.masters (λ k. get_or view.items k nothing) holds l x back within
            ∙ ap (λ z. cond (run.reducer.keeps && comes l) (run.steps.keep z) (get_or view.items l nothing)) (same_next l y within)
            ∙ ap (λ z. cond (run.reducer.keeps && comes l) (run.steps.keep (get_or next l y)) z) (same_item l x within);
        next_of_masters = λ l y front. front_stays n view.masters tells view.next any_shown whole.next_fit fits l y front;
        awake_of_masters = λ l front. front_stays n view.masters awakes view.awake_next false whole.awake_next_fit fits l false front;
        sums = λ l x front. front_stays n view.masters holds view.items nothing whole.items_fit fits l x front;
      };
      becomes = refl;
    },
    record {
      states_fit = whole.states_fit;
      shown_fit = whole.shown_fit;
      next_fit = made_long n view.masters (λ k. get_or view.next k any_shown) tells;
      items_fit = made_long n view.masters (λ k. get_or view.items k nothing) holds;
      awake_next_fit = made_long n view.masters (λ k. get_or view.awake_next k false) awakes;
    },
  )
    where
      news : ℕ → Option Shown
      news l = carried_value run.shown_size (broadcast_packet run rounds from view.host) (slice_index view.vertices l)

      comes : ℕ → Bool
      comes l = carries run.shown_size (broadcast_packet run rounds from view.host) (slice_index view.vertices l)

      tells : ℕ → Shown
      tells l = unwrap_or (news l) (get_or view.next l any_shown)

      next : List Shown
      next = made n view.masters (λ k. get_or view.next k any_shown) tells

      same_next : (l : ℕ) (y : Shown) → l < length view.vertices → get_or next l any_shown ≡ get_or next l y
      same_next l y within = get_or_default next l any_shown y (let e = made_long n view.masters (λ k. get_or view.next k any_shown) tells in omega arith)

      awakes : ℕ → Bool
      awakes l = cond (comes l && not (run.steps.same (get_or view.shown l any_shown) (get_or next l any_shown))) true (get_or view.awake_next l false)

      awake_next : List Bool
      awake_next = made n view.masters (λ k. get_or view.awake_next k false) awakes

      holds : ℕ → Item
      holds l = cond (run.reducer.keeps && comes l) (run.steps.keep (get_or next l any_shown)) (get_or view.items l nothing)

      items : List Item
      items = made n view.masters (λ k. get_or view.items k nothing) holds

  can_take : (leg : Leg) (from : ℕ) → (new : HostView Program Item State Shown) × TakesTo run rounds leg from view new × IsWhole new
  can_take reduce from = can_take_reduce from
  can_take broadcast from = can_take_broadcast from

  pub can_become : (event : Event) → (new : HostView Program Item State Shown) × BecomesBy run rounds event view new × IsWhole new
  can_become (compute h) = can_compute h
  can_become (spread h) = can_spread h
  can_become (deliver channel) = can_take channel.leg channel.from

module _ {Program Item State Shown : Type 0} {IsItem : Item → Type 0} {IsShown : Shown → Type 0} {IsState : State → Type 0} {item_bytes : Item → List ℕ} {shown_bytes : Shown → List ℕ} (run : Run Item State Shown) (fact : IsRun IsItem IsShown IsState run) (rounds : ℕ) where
  pub events_happen : (event : Event) (cluster : ClusterView Program Item State Shown) → ClusterStands item_bytes shown_bytes run rounds cluster → AreWhole run.division cluster → may_come run.division cluster event ≡ true
      → (new : ClusterView Program Item State Shown) × Step item_bytes shown_bytes run rounds event cluster new × AreWhole run.division new
  events_happen event cluster stands whole may = (
    new,
    record {
      may = may;
      here = subst (λ (b : Bool). BecomesBy run rounds event (cluster.hosts (host_of event)) (cond b changed.0 (cluster.hosts (host_of event)))) (sym (eq-eqb (host_of event) (host_of event) refl)) changed.1;
      elsewhere = λ h apart. ap (λ b. cond b changed.0 (cluster.hosts h)) (ne_eqb h (host_of event) apart);
      flights = λ channel. refl;
      payloads = λ channel. refl;
    },
    λ h within. either h within (h == host_of event),
  )
    where
      below : host_of event < run.division.hosts
      below = keeping.host_within run fact rounds cluster stands event may

      changed : (w : HostView Program Item State Shown) × BecomesBy run rounds event (cluster.hosts (host_of event)) w × IsWhole w
      changed = can_become run rounds (cluster.hosts (host_of event)) (stands.each (host_of event) below).share.masters_fit (whole (host_of event) below) event

      new : ClusterView Program Item State Shown
      new = record {
        hosts = λ h. cond (h == host_of event) changed.0 (cluster.hosts h);
        flies = λ channel. flies_after run.division cluster event channel;
        bytes = λ channel. cond (posts run.division event channel) (payload item_bytes shown_bytes run rounds channel) (cluster.bytes channel);
      }

      either : (h : ℕ) → h < run.division.hosts → (b : Bool) → IsWhole (cond b changed.0 (cluster.hosts h))
      either h within true = changed.2
      either h within false = whole h within

  pub rounds_end : (first : ClusterView Program Item State Shown) → StandsBetween item_bytes shown_bytes run rounds first → (left count : ℕ) (cluster : ClusterView Program Item State Shown) → StepsInTurn item_bytes shown_bytes run rounds count first cluster → AreWhole run.division cluster → yet_to_come run.division cluster ≡ left
      → (total : ℕ) × (last : ClusterView Program Item State Shown) × StepsInTurn item_bytes shown_bytes run rounds total first last × IsOver run.division last
  unfolding StepsInTurn
  rounds_end first between zero count cluster steps whole none =
      let stands = (steps_keep run fact rounds first between count cluster steps).0 in
      (count, cluster, steps, over_where_nothing_left run fact rounds cluster stands none)
  rounds_end first between (suc left) count cluster steps whole some =
      let stands = (steps_keep run fact rounds first between count cluster steps).0 in
      let next = one_comes cluster stands whole (let e = some in omega arith) in
      let fewer = one_fewer_to_come run fact rounds cluster stands next.0 next.1 next.2 in
      rounds_end first between left (suc count) next.1 (cluster, next.0, steps, next.2) next.3 (omega (arith, fewer, some))
    where
      one_comes : (now : ClusterView Program Item State Shown) → ClusterStands item_bytes shown_bytes run rounds now → AreWhole run.division now → 1 ≤ yet_to_come run.division now → (event : Event) × (new : ClusterView Program Item State Shown) × Step item_bytes shown_bytes run rounds event now new × AreWhole run.division new
      one_comes now stands all more =
          let event = get_or (enabled run.division now) 0 (compute 0) in
          let happens = events_happen event now stands all (All-get_or (λ e. may_come run.division now e ≡ true) (enabled run.division now) 0 (compute 0) (some_enabled now stands more) (filter_passes (may_come run.division now) (round_events run.division))) in
          (event, happens.0, happens.1, happens.2)
        where
          some_enabled : (then : ClusterView Program Item State Shown) → ClusterStands item_bytes shown_bytes run rounds then → 1 ≤ yet_to_come run.division then → 0 < length (enabled run.division then)
          some_enabled then kept more_left =
              elim (cases_lt 0 (length (enabled run.division then))) [
                | inl there ↦ there
                | inr none ↦
                    let left_none = nothing_left run fact rounds then kept (end_is_over run fact rounds then kept (omega arith)) in
                    absurd (omega (arith, left_none, more_left))
              ]
