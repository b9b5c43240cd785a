-- The end of a round: what is left to come, and the moment after it.
use Rattle.std.proofs.Common.{◌≡◌, ℕ, zero, suc, ◌+◌, ◌*◌, ◌<◌, true, false, Bool, not, ◌&&◌, ◌||◌, ◌==◌, nat_lt, List, ◌++◌, length, map, get_or, refl, sym, ◌∙◌, ap, subst, inl, inr, arith, length-append}
use Rattle.std.specs.List.{All, list_any, sum_by, count_by}
use Rattle.std.proofs.lemmas.Bool.{cases_Bool, both_ways, and_right, and_left, or_left, or_from, not_from_true, eq-eqb, ltb-true, lt-ltb}
use Rattle.std.proofs.lemmas.List.{length-map}
use Rattle.std.proofs.lemmas.List.Sums.{length-filter}
use Rattle.std.proofs.lemmas.List.FromFn.{length-range_with_len}
use Rattle.std.proofs.lemmas.List.Elements.{All-append, All-map, All-weaker, filter_passes}
use Rattle.round_packets.specs.Runs.{Run, IsRun}
use Rattle.graph_division.specs.Division.{Division, hosts_of}
use Rattle.graph_division.specs.Lists.{is_readable, is_writable, is_mirror, reduce_list, broadcast_list}
use Rattle.graph_division.proofs.Listed.{picked}
use Rattle.host_laws.specs.HostView.{HostView}
use Rattle.host_laws.specs.Standing.{StandsFor, IsDone, IsFresh}
use Rattle.host_laws.proofs.Closing.{all_false, closed_stands}
use Rattle.host_laws.proofs.Beginning.{fresh_stands}
use Rattle.cluster_laws.specs.Channels.{Leg, Channel, is_needed, is_channel, channels, pairs, payload}
use Rattle.cluster_laws.specs.Channels.Leg.{reduce, broadcast}
use Rattle.cluster_laws.specs.Events.{Event, same_event, posting, posts_leg, round_events}
use Rattle.cluster_laws.specs.Events.Event.{compute, spread, deliver}
use Rattle.cluster_laws.specs.Cluster.{ClusterView, ClusterStands, StandsBetween, IsOver, took, happened, yet_to_come, expects_reduce, may_spread, may_come, enabled}
use Rattle.cluster_laws.specs.Steps.{Step, StepsInTurn, Closes}
use Rattle.cluster_laws.specs.Tally.{packets_of}
use Rattle.cluster_laws.proofs.Counting.{count_none, count_fewer, count_where, count_all, sum_where, some_pass, range_below}
use Rattle.cluster_laws.proofs.Sameness.{same_event_is, is_round_event, event_once}
use Rattle.cluster_laws.proofs.InTime.{channel_parts, channel_from, needed_from, second_of, second_false, not_missing, none_together}
use Rattle.cluster_laws.proofs.Keeping.{may_is_of_round, may_is_new, happened_after, step_keeps}

-- what is not denied is so
so : (b : Bool) → not b ≡ false → b ≡ true
so true h = refl
so false h = absurd (both_ways true h refl)

module _ (division : Division) where
  -- all that stands in the list of a round's events is one
  pub all_of_round : All (λ event. is_round_event division event ≡ true) (round_events division)
  all_of_round =
      All-append (λ event. is_round_event division event ≡ true) (map compute (hosts_of division)) (map spread (hosts_of division) ++ map deliver (channels division))
      (All-map (λ event. is_round_event division event ≡ true) compute (hosts_of division) hosts)
      (All-append (λ event. is_round_event division event ≡ true) (map spread (hosts_of division)) (map deliver (channels division))
      (All-map (λ event. is_round_event division event ≡ true) spread (hosts_of division) hosts)
      (All-map (λ event. is_round_event division event ≡ true) deliver (channels division) (filter_passes (is_channel division) (pairs division reduce ++ pairs division broadcast))))
    where
      hosts : All (λ h. nat_lt h division.hosts ≡ true) (hosts_of division)
      hosts = All-weaker (λ h. h < division.hosts) (λ h. nat_lt h division.hosts ≡ true) (λ h within. lt-ltb h division.hosts within) (hosts_of division) (range_below 0 division.hosts division.hosts (omega arith))

  -- a round has two events a host, and one a packet
  pub events_of_round : length (round_events division) ≡ 2 * division.hosts + packets_of division
  events_of_round =
      let a = length-append (map compute (hosts_of division)) (map spread (hosts_of division) ++ map deliver (channels division)) in
      let b = length-append (map spread (hosts_of division)) (map deliver (channels division)) in
      let c = length-map (hosts_of division) compute in
      let d = length-map (hosts_of division) spread in
      let e = length-map (channels division) deliver in
      let f = length-range_with_len 0 division.hosts in
      a ∙ ap (λ n. length (map compute (hosts_of division)) + n) b ∙ ap (λ n. n + (length (map spread (hosts_of division)) + length (map deliver (channels division)))) (c ∙ f)
      ∙ ap (λ n. division.hosts + (n + length (map deliver (channels division)))) (d ∙ f) ∙ ap (λ n. division.hosts + (division.hosts + n)) e ∙ twice division.hosts (packets_of division)
    where
      twice : (h n : ℕ) → h + (h + n) ≡ 2 * h + n
      twice h n = omega arith

  -- a test that no event of the round passes counts none, and the other way round
  none_counted : (p : Event → Bool) → count_by p (round_events division) ≡ 0 → (event : Event) → is_round_event division event ≡ true → p event ≡ false
  none_counted p none event is =
      elim (cases_Bool (p event)) [
        | inr fails ↦ fails
        | inl passes ↦
            let some = some_pass p (same_event event) (λ other same. ap p (sym (same_event_is event other same)) ∙ passes) (round_events division) in
            let once = event_once division event is in
            absurd (omega (arith, some, once, none))
      ]

  counts_none : (p : Event → Bool) → ((event : Event) → is_round_event division event ≡ true → p event ≡ false) → count_by p (round_events division) ≡ 0
  counts_none p none = count_where (λ event. is_round_event division event ≡ true) p (λ event. false) none (round_events division) all_of_round ∙ count_none (λ event. false) (λ event. refl) (round_events division)

module _ {Program Item State Shown : Type 0} {IsItem : Item → Type 0} {IsShown : Shown → Type 0} {IsState : State → Type 0} {item_bytes : Item → List ℕ} {shown_bytes : Shown → List ℕ} (run : Run Item State Shown) (fact : IsRun IsItem IsShown IsState run) (rounds : ℕ) (cluster : ClusterView Program Item State Shown) (stands : ClusterStands item_bytes shown_bytes run rounds cluster) where
  -- when the round is over, each event that posts has happened
  posted : IsOver run.division cluster → (leg : Leg) (from : ℕ) → from < run.division.hosts → happened cluster (posts_leg leg from) ≡ true
  posted over reduce from there = over.computed from there
  posted over broadcast from there = over.spread_all from there

  pub over_happened : IsOver run.division cluster → (event : Event) → is_round_event run.division event ≡ true → happened cluster event ≡ true
  over_happened over (compute h) is = over.computed h (ltb-true h run.division.hosts is)
  over_happened over (spread h) is = over.spread_all h (ltb-true h run.division.hosts is)
  over_happened over (deliver channel) is =
      second_of (cluster.flies channel) (happened cluster (deliver channel)) (over.landed channel)
      (stands.sent channel is ∙ posted over channel.leg channel.from (channel_parts run channel is).there)

  -- nothing is left to come exactly where the round is over
  pub nothing_left : IsOver run.division cluster → yet_to_come run.division cluster ≡ 0
  nothing_left over = counts_none run.division (λ event. not (happened cluster event)) (λ event is. not_from_true (happened cluster event) (over_happened over event is))

  pub over_where_nothing_left : yet_to_come run.division cluster ≡ 0 → IsOver run.division cluster
  over_where_nothing_left none = record {
    computed = λ h within. all_happened (compute h) (lt-ltb h run.division.hosts within);
    spread_all = λ h within. all_happened (spread h) (lt-ltb h run.division.hosts within);
    landed = λ channel. elim (cases_Bool (cluster.flies channel)) [
      | inr down ↦ down
      | inl flies ↦ absurd (both_ways (happened cluster (deliver channel)) (stands.once channel flies) (all_happened (deliver channel) (stands.needed channel flies)))
    ];
  }
    where
      all_happened : (event : Event) → is_round_event run.division event ≡ true → happened cluster event ≡ true
      all_happened event is = so (happened cluster event) (none_counted run.division (λ e. not (happened cluster e)) none event is)

  -- when it is over no event may come
  over_stops : IsOver run.division cluster → (event : Event) → is_round_event run.division event ≡ true → may_come run.division cluster event ≡ false
  over_stops over (compute h) is = and_right (nat_lt h run.division.hosts) (not (cluster.hosts h).has_computed) (not_from_true (cluster.hosts h).has_computed (over.computed h (ltb-true h run.division.hosts is)))
  over_stops over (spread h) is =
      let view = cluster.hosts h in
      and_right (nat_lt h run.division.hosts) (may_spread run.division view) (and_right view.has_computed (not (view.has_spread || expects_reduce run.division view))
      (not_from_true (view.has_spread || expects_reduce run.division view) (or_left view.has_spread (expects_reduce run.division view) (over.spread_all h (ltb-true h run.division.hosts is)))))
  over_stops over (deliver channel) is = over.landed channel

  pub over_is_end : IsOver run.division cluster → length (enabled run.division cluster) ≡ 0
  over_is_end over = length-filter (may_come run.division cluster) (round_events run.division) ∙ counts_none run.division (may_come run.division cluster) (over_stops over)

  -- and where no event may come it is over
  pub end_is_over : length (enabled run.division cluster) ≡ 0 → IsOver run.division cluster
  end_is_over none = record { computed = computed; spread_all = spread_all; landed = landed }
    where
      stopped : (event : Event) → is_round_event run.division event ≡ true → may_come run.division cluster event ≡ false
      stopped = none_counted run.division (may_come run.division cluster) (sym (length-filter (may_come run.division cluster) (round_events run.division)) ∙ none)

      computed : (h : ℕ) → h < run.division.hosts → (cluster.hosts h).has_computed ≡ true
      computed h within = not_missing (nat_lt h run.division.hosts) (cluster.hosts h).has_computed (stopped (compute h) (lt-ltb h run.division.hosts within)) (lt-ltb h run.division.hosts within)

      landed : (channel : Channel) → cluster.flies channel ≡ false
      landed channel = elim (cases_Bool (cluster.flies channel)) [
        | inr down ↦ down
        | inl flies ↦ stopped (deliver channel) (stands.needed channel flies)
      ]

      -- all reduce packets are taken by now
      taken : (h from : ℕ) → h < run.division.hosts → from < run.division.hosts → (is_needed (reduce_list run.division from (cluster.hosts h).host) && not (get_or (cluster.hosts h).took_reduce from false)) ≡ false
      taken h from within there = elim (cases_Bool (is_needed (reduce_list run.division from (cluster.hosts h).host))) [
        | inr unneeded ↦ and_left (is_needed (reduce_list run.division from (cluster.hosts h).host)) (not (get_or (cluster.hosts h).took_reduce from false)) unneeded
        | inl listed ↦
            let channel : Channel = record { leg = reduce; from = from; to = h } in
            and_right (is_needed (reduce_list run.division from (cluster.hosts h).host)) (not (get_or (cluster.hosts h).took_reduce from false))
            (not_from_true (get_or (cluster.hosts h).took_reduce from false)
            (second_of (cluster.flies channel) (get_or (cluster.hosts h).took_reduce from false) (landed channel)
            (stands.sent channel (channel_from run reduce from h there within (ap (λ n. is_needed (reduce_list run.division from n)) (sym (stands.named h within)) ∙ listed)) ∙ computed from there)))
      ]

      spread_all : (h : ℕ) → h < run.division.hosts → (cluster.hosts h).has_spread ≡ true
      spread_all h within =
          let view = cluster.hosts h in
          let expects_none = none_together (λ from. is_needed (reduce_list run.division from view.host) && not (get_or view.took_reduce from false)) 0 run.division.hosts (λ from there. taken h from within (omega arith)) in
          first_of_two view.has_spread (expects_reduce run.division view) expects_none
          (not_missing view.has_computed (view.has_spread || expects_reduce run.division view)
          (sym (ap (λ b. b && may_spread run.division view) (lt-ltb h run.division.hosts within)) ∙ stopped (spread h) (lt-ltb h run.division.hosts within)) (computed h within))
        where
          first_of_two : (a b : Bool) → b ≡ false → (a || b) ≡ true → a ≡ true
          first_of_two true b e h = refl
          first_of_two false b e h = absurd (both_ways b e h)

  -- when it is over, all is done on each host
  pub over_is_done : IsOver run.division cluster → (h : ℕ) → h < run.division.hosts → IsDone run.division (cluster.hosts h)
  over_is_done over h within = record {
    computed = over.computed h within;
    spread = over.spread_all h within;
    told = λ v below away read.
        let here = stands.named h within in
        let there = fact.divided.mastered v below in
        let listed : list_any (λ id. id == v) (broadcast_list run.division (run.division.master v) (cluster.hosts h).host) ≡ true =
        picked (λ u. run.division.master u == run.division.master v && (is_mirror run.division (cluster.hosts h).host u && is_readable run.division (cluster.hosts h).host u)) 0 run.division.nodes v (omega arith) (omega arith)
        ∙ ap (λ b. b && (is_mirror run.division (cluster.hosts h).host v && is_readable run.division (cluster.hosts h).host v)) (eq-eqb (run.division.master v) (run.division.master v) refl)
        ∙ ap (λ b. (not b && (is_readable run.division (cluster.hosts h).host v || is_writable run.division (cluster.hosts h).host v)) && is_readable run.division (cluster.hosts h).host v) away
        ∙ ap (λ b. (b || is_writable run.division (cluster.hosts h).host v) && b) read in
        let needed = needed_from (broadcast_list run.division (run.division.master v) h) v (ap (λ n. list_any (λ id. id == v) (broadcast_list run.division (run.division.master v) n)) (sym here) ∙ listed) in
        over_happened over (deliver (record { leg = broadcast; from = run.division.master v; to = h })) (channel_from run broadcast (run.division.master v) h there within needed);
  }

  -- one event more leaves one fewer to come
  pub one_fewer_to_come : (event : Event) (new : ClusterView Program Item State Shown) → Step item_bytes shown_bytes run rounds event cluster new → yet_to_come run.division new + 1 ≡ yet_to_come run.division cluster
  one_fewer_to_come event new step =
      ap (λ n. yet_to_come run.division new + n) (sym (event_once run.division event (may_is_of_round run fact rounds cluster stands event step.may)))
      ∙ count_fewer (λ other. not (happened cluster other)) (λ other. not (happened new other)) (same_event event)
      (λ other. ap not (happened_after run fact rounds cluster stands event new step other) ∙ neither (happened cluster other) (same_event event other))
      (λ other same. ap (λ e. not (happened cluster e)) (sym (same_event_is event other same)) ∙ ap not (may_is_new run fact rounds cluster stands event step.may))
      (round_events run.division)
    where
      neither : (a b : Bool) → not (a || b) ≡ (not a && not b)
      neither true b = refl
      neither false b = refl

  -- once all hosts are closed, it stands for the moment before the next round
  pub closes : IsOver run.division cluster → (new : ClusterView Program Item State Shown) → Closes run.division cluster new → StandsBetween item_bytes shown_bytes run (suc rounds) new
  closes over new close = record {
    stands = record {
      each = λ h within. subst (λ (w : HostView Program Item State Shown). StandsFor run (suc rounds) w) (sym (close.hosts_close h within))
          (closed_stands run fact rounds (cluster.hosts h) (stands.each h within) (over_is_done over h within));
      named = λ h within. ap (λ w. w.host) (close.hosts_close h within) ∙ stands.named h within;
      sent = λ channel is.
          let parts = channel_parts run channel is in
          or_from (new.flies channel) (happened new (deliver channel)) (still channel) (untaken channel.leg channel.from channel.to parts.here)
          ∙ sym (unposted channel.leg channel.from parts.there);
      once = λ channel flies. absurd (both_ways (new.flies channel) (still channel) flies);
      needed = λ channel flies. absurd (both_ways (new.flies channel) (still channel) flies);
      payloads = λ channel is done. absurd (both_ways (happened new (posting channel)) (unposted channel.leg channel.from (channel_parts run channel is).there) done);
    };
    not_computed = λ h within. ap (λ w. w.has_computed) (close.hosts_close h within);
  }
    where
      still : (channel : Channel) → new.flies channel ≡ false
      still channel = close.same_flights channel ∙ over.landed channel

      untaken : (leg : Leg) (from to : ℕ) → to < run.division.hosts → took leg (new.hosts to) from ≡ false
      untaken reduce from to within = ap (λ w. get_or w.took_reduce from false) (close.hosts_close to within) ∙ all_false (length (cluster.hosts to).took_reduce) from
      untaken broadcast from to within = ap (λ w. get_or w.took_broadcast from false) (close.hosts_close to within) ∙ all_false (length (cluster.hosts to).took_broadcast) from

      unposted : (leg : Leg) (from : ℕ) → from < run.division.hosts → happened new (posts_leg leg from) ≡ false
      unposted reduce from within = ap (λ w. w.has_computed) (close.hosts_close from within)
      unposted broadcast from within = ap (λ w. w.has_spread) (close.hosts_close from within)

  -- and each channel has the bytes of the round's packet
  pub packets_stay : IsOver run.division cluster → (new : ClusterView Program Item State Shown) → Closes run.division cluster new → (channel : Channel) → is_channel run.division channel ≡ true → new.bytes channel ≡ payload item_bytes shown_bytes run rounds channel
  packets_stay over new close channel is = close.same_bytes channel ∙ stands.payloads channel is (posted over channel.leg channel.from (channel_parts run channel is).there)

  pub lengths_stay : IsOver run.division cluster → (new : ClusterView Program Item State Shown) → Closes run.division cluster new → sum_by (λ channel. length (new.bytes channel)) (channels run.division) ≡ sum_by (λ channel. length (payload item_bytes shown_bytes run rounds channel)) (channels run.division)
  lengths_stay over new close =
      sum_where (λ channel. is_channel run.division channel ≡ true) (λ channel. length (new.bytes channel)) (λ channel. length (payload item_bytes shown_bytes run rounds channel))
      (λ channel is. ap length (packets_stay over new close channel is)) (channels run.division) (filter_passes (is_channel run.division) (pairs run.division reduce ++ pairs run.division broadcast))

module _ {Program Item State Shown : Type 0} {IsItem : Item → Type 0} {IsShown : Shown → Type 0} {IsState : State → Type 0} {item_bytes : Item → List ℕ} {shown_bytes : Shown → List ℕ} (run : Run Item State Shown) (fact : IsRun IsItem IsShown IsState run) (rounds : ℕ) (first : ClusterView Program Item State Shown) (between : StandsBetween item_bytes shown_bytes run rounds first) where
  -- between rounds no event of the next one has happened
  nothing_happened : (event : Event) → is_round_event run.division event ≡ true → happened first event ≡ false
  nothing_happened (compute h) is = between.not_computed h (ltb-true h run.division.hosts is)
  nothing_happened (spread h) is =
      elim (cases_Bool (first.hosts h).has_spread) [
        | inr waits ↦ waits
        | inl done ↦ absurd (both_ways (first.hosts h).has_computed (between.not_computed h (ltb-true h run.division.hosts is)) ((between.stands.each h (ltb-true h run.division.hosts is)).computed_first done))
      ]
  nothing_happened (deliver channel) is =
      second_false (first.flies channel) (happened first (deliver channel)) (between.stands.sent channel is ∙ unposted channel.leg channel.from (channel_parts run channel is).there)
    where
      unposted : (leg : Leg) (from : ℕ) → from < run.division.hosts → happened first (posts_leg leg from) ≡ false
      unposted reduce from there = between.not_computed from there
      unposted broadcast from there =
          elim (cases_Bool (first.hosts from).has_spread) [
            | inr waits ↦ waits
            | inl done ↦ absurd (both_ways (first.hosts from).has_computed (between.not_computed from there) ((between.stands.each from there).computed_first done))
          ]

  all_to_come : yet_to_come run.division first ≡ 2 * run.division.hosts + packets_of run.division
  all_to_come =
      count_where (λ event. is_round_event run.division event ≡ true) (λ event. not (happened first event)) (λ event. true) (λ event is. ap not (nothing_happened event is)) (round_events run.division) (all_of_round run.division)
      ∙ count_all (round_events run.division) ∙ events_of_round run.division

  -- after any events the cluster stands for the round, and so many are left
  pub steps_keep : (count : ℕ) (cluster : ClusterView Program Item State Shown) → StepsInTurn item_bytes shown_bytes run rounds count first cluster → ClusterStands item_bytes shown_bytes run rounds cluster × (count + yet_to_come run.division cluster ≡ 2 * run.division.hosts + packets_of run.division)
  unfolding StepsInTurn
  steps_keep zero cluster steps = (
    subst (λ (c : ClusterView Program Item State Shown). ClusterStands item_bytes shown_bytes run rounds c) (sym steps) between.stands,
    let left = ap (λ c. yet_to_come run.division c) steps ∙ all_to_come in let e : 0 + yet_to_come run.division cluster ≡ yet_to_come run.division cluster = omega arith in e ∙ left,
  )
  steps_keep (suc count) cluster steps =
      let before = steps_keep count steps.0 steps.2 in
      let fewer = one_fewer_to_come run fact rounds steps.0 before.0 steps.1 cluster steps.3 in (
        step_keeps run fact rounds steps.0 before.0 steps.1 cluster steps.3,
        one_on count (yet_to_come run.division cluster) (yet_to_come run.division steps.0) (2 * run.division.hosts + packets_of run.division) before.1 fewer,
      )
    where
      one_on : (n left before total : ℕ) → n + before ≡ total → left + 1 ≡ before → suc n + left ≡ total
      one_on n left before total e f = omega arith

-- a cluster of fresh hosts, with nothing in flight, stands for the moment before the first round
pub fresh_stands_between : {Program Item State Shown : Type 0} {IsItem : Item → Type 0} {IsShown : Shown → Type 0} {IsState : State → Type 0} {item_bytes : Item → List ℕ} {shown_bytes : Shown → List ℕ} (run : Run Item State Shown) → IsRun IsItem IsShown IsState run → (cluster : ClusterView Program Item State Shown)
    → ((h : ℕ) → h < run.division.hosts → IsFresh run (cluster.hosts h)) → ((h : ℕ) → h < run.division.hosts → (cluster.hosts h).host ≡ h) → ((channel : Channel) → cluster.flies channel ≡ false) → StandsBetween item_bytes shown_bytes run 0 cluster
fresh_stands_between {item_bytes} {shown_bytes} run fact cluster fresh named still = record {
  stands = record {
    each = λ h within. fresh_stands run fact (cluster.hosts h) (fresh h within);
    named = named;
    sent = λ channel is.
        let parts = channel_parts run channel is in
        or_from (cluster.flies channel) (happened cluster (deliver channel)) (still channel) (untaken channel.leg channel.from channel.to parts.here) ∙ sym (unposted channel.leg channel.from parts.there);
    once = λ channel flies. absurd (both_ways (cluster.flies channel) (still channel) flies);
    needed = λ channel flies. absurd (both_ways (cluster.flies channel) (still channel) flies);
    payloads = λ channel is done. absurd (both_ways (happened cluster (posting channel)) (unposted channel.leg channel.from (channel_parts run channel is).there) done);
  };
  not_computed = λ h within. (fresh h within).not_computed;
}
  where
    untaken : (leg : Leg) (from to : ℕ) → to < run.division.hosts → took leg (cluster.hosts to) from ≡ false
    untaken reduce from to within = (fresh to within).no_reduce from
    untaken broadcast from to within = (fresh to within).no_broadcast from

    unposted : (leg : Leg) (from : ℕ) → from < run.division.hosts → happened cluster (posts_leg leg from) ≡ false
    unposted reduce from within = (fresh from within).not_computed
    unposted broadcast from within = (fresh from within).not_spread

-- no event has come yet
pub no_steps : {Program Item State Shown : Type 0} (item_bytes : Item → List ℕ) (shown_bytes : Shown → List ℕ) (run : Run Item State Shown) (rounds : ℕ) (cluster : ClusterView Program Item State Shown) → StepsInTurn item_bytes shown_bytes run rounds 0 cluster cluster
unfolding StepsInTurn
no_steps item_bytes shown_bytes run rounds cluster = refl
