-- Each event keeps what a cluster stands for.
use Rattle.std.proofs.Common.{◌≡◌, ℕ, ◌<◌, true, false, Bool, cond, not, ◌&&◌, ◌||◌, nat_lt, List, refl, sym, ◌∙◌, ap, subst, inl, inr}
use Rattle.std.proofs.lemmas.Bool.{cases_Bool, both_ways, and_parts, cases_eq, or_left, or_right, ltb-true}
use Rattle.round_packets.specs.Runs.{Run, IsRun}
use Rattle.host_laws.specs.HostView.{HostView}
use Rattle.host_laws.specs.Standing.{StandsFor}
use Rattle.host_laws.proofs.Computing.{computed_stands}
use Rattle.host_laws.proofs.Taking.{took_reduce_stands}
use Rattle.host_laws.proofs.Spreading.{spread_stands}
use Rattle.host_laws.proofs.Telling.{told_stands}
use Rattle.cluster_laws.specs.Channels.{Leg, Channel, is_channel, payload}
use Rattle.cluster_laws.specs.Channels.Leg.{reduce, broadcast}
use Rattle.cluster_laws.specs.Events.{Event, same_event, host_of, posting}
use Rattle.cluster_laws.specs.Events.Event.{compute, spread, deliver}
use Rattle.cluster_laws.specs.Cluster.{ClusterView, ClusterStands, has_done, happened, expects_reduce, may_spread, may_come}
use Rattle.cluster_laws.specs.Steps.{Step, TakesTo, BecomesBy, posts}
use Rattle.cluster_laws.proofs.Sameness.{same_event_itself, same_event_is, other_host, same_event_sym, posting_is_no_delivery, is_round_event}
use Rattle.cluster_laws.proofs.InTime.{channel_parts, all_reduced, denied, first_false, second_false, reduce_in_time, broadcast_in_time}
use Rattle.cluster_laws.proofs.Happening.{or_none, CanTake, same_host, done_here}

module _ {Program Item State Shown : Type 0} {IsItem : Item → Type 0} {IsShown : Shown → Type 0} {IsState : State → Type 0} {item_bytes : Item → List ℕ} {shown_bytes : Shown → List ℕ} (run : Run Item State Shown) (fact : IsRun IsItem IsShown IsState run) (rounds : ℕ) (cluster : ClusterView Program Item State Shown) (stands : ClusterStands item_bytes shown_bytes run rounds cluster) where
  -- an event that may come is one of the round, and has not happened
  pub may_is_of_round : (event : Event) → may_come run.division cluster event ≡ true → is_round_event run.division event ≡ true
  may_is_of_round (compute h) may = (and_parts (nat_lt h run.division.hosts) (not (cluster.hosts h).has_computed) may).0
  may_is_of_round (spread h) may = (and_parts (nat_lt h run.division.hosts) (may_spread run.division (cluster.hosts h)) may).0
  may_is_of_round (deliver channel) may = stands.needed channel may

  pub may_is_new : (event : Event) → may_come run.division cluster event ≡ true → happened cluster event ≡ false
  may_is_new (compute h) may = denied (cluster.hosts h).has_computed (and_parts (nat_lt h run.division.hosts) (not (cluster.hosts h).has_computed) may).1
  may_is_new (spread h) may =
      let view = cluster.hosts h in
      first_false view.has_spread (expects_reduce run.division view) (denied (view.has_spread || expects_reduce run.division view) (and_parts view.has_computed _ (and_parts (nat_lt h run.division.hosts) (may_spread run.division view) may).1).1)
  may_is_new (deliver channel) may = stands.once channel may

  -- its host is one of the run
  pub host_within : (event : Event) → may_come run.division cluster event ≡ true → host_of event < run.division.hosts
  host_within (compute h) may = ltb-true h run.division.hosts (and_parts (nat_lt h run.division.hosts) (not (cluster.hosts h).has_computed) may).0
  host_within (spread h) may = ltb-true h run.division.hosts (and_parts (nat_lt h run.division.hosts) (may_spread run.division (cluster.hosts h)) may).0
  host_within (deliver channel) may = (channel_parts run channel (stands.needed channel may)).here

  pub can_take : (event : Event) → may_come run.division cluster event ≡ true → CanTake run rounds event (cluster.hosts (host_of event))
  can_take (compute h) may = tt
  can_take (spread h) may = tt
  can_take (deliver channel) may =
      let parts = channel_parts run channel (stands.needed channel may) in
      let share = (stands.each channel.to parts.here).share in
      (subst (λ n. channel.from < n) (sym share.reduce_by_host) parts.there, subst (λ n. channel.from < n) (sym share.broadcast_by_host) parts.there)

  -- a host that takes a packet stands for the round
  takes_stands : (leg : Leg) (from to : ℕ) (new : HostView Program Item State Shown) → cluster.flies (record { leg = leg; from = from; to = to }) ≡ true → TakesTo run rounds leg from (cluster.hosts to) new → StandsFor run rounds new
  takes_stands reduce from to new flies by =
      let channel : Channel = record { leg = reduce; from = from; to = to } in
      let parts = channel_parts run channel (stands.needed channel flies) in
      subst (λ (w : HostView Program Item State Shown). StandsFor run rounds w) (sym by.becomes)
      (took_reduce_stands run fact rounds (cluster.hosts to) (stands.each to parts.here) from by.items by.effect parts.there (stands.once channel flies) (reduce_in_time run rounds cluster stands from to flies))
  takes_stands broadcast from to new flies by =
      let channel : Channel = record { leg = broadcast; from = from; to = to } in
      let parts = channel_parts run channel (stands.needed channel flies) in
      subst (λ (w : HostView Program Item State Shown). StandsFor run rounds w) (sym by.becomes)
      (told_stands run fact rounds (cluster.hosts to) (stands.each to parts.here) from parts.there (stands.once channel flies) by.next by.items by.awake_next by.effect (broadcast_in_time run fact rounds cluster stands from to flies))

  -- the host of an event stands for the round
  stands_here : (event : Event) (new : HostView Program Item State Shown) → may_come run.division cluster event ≡ true → BecomesBy run rounds event (cluster.hosts (host_of event)) new → StandsFor run rounds new
  stands_here (compute h) new may by =
      let parts = and_parts (nat_lt h run.division.hosts) (not (cluster.hosts h).has_computed) may in
      subst (λ (w : HostView Program Item State Shown). StandsFor run rounds w) (sym by.becomes)
      (computed_stands run fact rounds (cluster.hosts h) (stands.each h (ltb-true h run.division.hosts parts.0)) (denied (cluster.hosts h).has_computed parts.1) by.items by.effect)
  stands_here (spread h) new may by =
      let view = cluster.hosts h in
      let parts = and_parts (nat_lt h run.division.hosts) (may_spread run.division view) may in
      let ready = and_parts view.has_computed (not (view.has_spread || expects_reduce run.division view)) parts.1 in
      let waits = denied (view.has_spread || expects_reduce run.division view) ready.1 in
      subst (λ (w : HostView Program Item State Shown). StandsFor run rounds w) (sym by.becomes)
      (spread_stands run fact rounds view (stands.each h (ltb-true h run.division.hosts parts.0)) ready.0 (all_reduced run view (second_false view.has_spread (expects_reduce run.division view) waits)) (first_false view.has_spread (expects_reduce run.division view) waits) by.states by.next by.items by.awake_next by.effect)
  stands_here (deliver channel) new may by = takes_stands channel.leg channel.from channel.to new may by

  module _ (event : Event) (new : ClusterView Program Item State Shown) (step : Step item_bytes shown_bytes run rounds event cluster new) where
    -- the event has happened, and else what had
    pub happened_after : (other : Event) → happened new other ≡ (happened cluster other || same_event event other)
    happened_after other =
        elim (cases_eq (host_of other) (host_of event)) [
          | inl here ↦
              ap (λ h. has_done (new.hosts h) other) here
              ∙ done_here run rounds event other (cluster.hosts (host_of event)) (new.hosts (host_of event)) (can_take event step.may) step.here here
              ∙ ap (λ h. has_done (cluster.hosts h) other || same_event event other) (sym here)
          | inr apart ↦
              ap (λ w. has_done w other) (step.elsewhere (host_of other) apart)
              ∙ sym (ap (λ b. happened cluster other || b) (other_host event other apart) ∙ or_none (happened cluster other))
        ]

    -- a fact of each host, where the host of the event has it
    of_each : (P : ℕ → HostView Program Item State Shown → Type 0) → P (host_of event) (new.hosts (host_of event)) → ((h : ℕ) → P h (cluster.hosts h)) → (h : ℕ) → P h (new.hosts h)
    of_each P here elsewhere h =
        elim (cases_eq h (host_of event)) [
          | inl same ↦ subst (λ (n : ℕ). P n (new.hosts n)) (sym same) here
          | inr other ↦ subst (λ (w : HostView Program Item State Shown). P h w) (sym (step.elsewhere h other)) (elsewhere h)
        ]

    -- the three ways of a channel: its packet is posted, or taken, or neither
    data Way (channel : Channel) : Type 0 where
      is_posted : posts run.division event channel ≡ true → posting channel ≡ event → Way channel
      is_taken : posts run.division event channel ≡ false → deliver channel ≡ event → Way channel
      is_left : posts run.division event channel ≡ false → same_event (deliver channel) event ≡ false → Way channel

    way : (channel : Channel) → Way channel
    way channel =
        elim (cases_Bool (posts run.division event channel)) [
          | inl posted ↦ is_posted posted (same_event_is (posting channel) event (and_parts (is_channel run.division channel) (same_event (posting channel) event) posted).1)
          | inr not_posted ↦ (elim (cases_Bool (same_event (deliver channel) event)) [
            | inl taken ↦ is_taken not_posted (same_event_is (deliver channel) event taken)
            | inr left ↦ is_left not_posted left
          ])
        ]

    -- on a channel of the run, what is not posted by the event is posted by another
    not_posting : (channel : Channel) → is_channel run.division channel ≡ true → posts run.division event channel ≡ false → same_event (posting channel) event ≡ false
    not_posting channel is not_posted = sym (ap (λ b. b && same_event (posting channel) event) is) ∙ not_posted

    -- who is not posted by the event was posted before exactly where it is now
    posted_before : (channel : Channel) → is_channel run.division channel ≡ true → posts run.division event channel ≡ false → happened new (posting channel) ≡ happened cluster (posting channel)
    posted_before channel is not_posted =
        happened_after (posting channel) ∙ ap (λ b. happened cluster (posting channel) || b) (same_event_sym event (posting channel) ∙ not_posting channel is not_posted) ∙ or_none (happened cluster (posting channel))

    taken_before : (channel : Channel) → same_event (deliver channel) event ≡ false → happened new (deliver channel) ≡ happened cluster (deliver channel)
    taken_before channel other =
        happened_after (deliver channel) ∙ ap (λ b. happened cluster (deliver channel) || b) (same_event_sym event (deliver channel) ∙ other) ∙ or_none (happened cluster (deliver channel))

    flies_posted : (channel : Channel) → posts run.division event channel ≡ true → new.flies channel ≡ true
    flies_posted channel posted = step.flights channel ∙ or_left (posts run.division event channel) _ posted

    flies_left : (channel : Channel) → posts run.division event channel ≡ false → same_event (deliver channel) event ≡ false → new.flies channel ≡ cluster.flies channel
    flies_left channel not_posted left =
        step.flights channel
        ∙ ap (λ b. b || (cluster.flies channel && not (same_event (deliver channel) event))) not_posted
        ∙ ap (λ b. cluster.flies channel && not b) left
        ∙ and_all (cluster.flies channel)
      where
        and_all : (b : Bool) → (b && true) ≡ b
        and_all true = refl
        and_all false = refl

    flies_taken : (channel : Channel) → posts run.division event channel ≡ false → deliver channel ≡ event → new.flies channel ≡ false
    flies_taken channel not_posted taken =
        step.flights channel
        ∙ ap (λ b. b || (cluster.flies channel && not (same_event (deliver channel) event))) not_posted
        ∙ ap (λ e. cluster.flies channel && not (same_event (deliver channel) e)) (sym taken)
        ∙ ap (λ b. cluster.flies channel && not b) (same_event_itself (deliver channel))
        ∙ and_not (cluster.flies channel)
      where
        and_not : (b : Bool) → (b && false) ≡ false
        and_not true = refl
        and_not false = refl

    -- a channel whose packet is posted by the event had none taken
    untaken : (channel : Channel) → is_channel run.division channel ≡ true → posting channel ≡ event → happened new (deliver channel) ≡ false
    untaken channel is by =
        taken_before channel (same_event_sym (deliver channel) event ∙ ap (λ e. same_event e (deliver channel)) (sym by) ∙ posting_is_no_delivery channel.leg channel.from channel)
        ∙ second_false (cluster.flies channel) (happened cluster (deliver channel)) (stands.sent channel is ∙ ap (happened cluster) by ∙ may_is_new event step.may)

    is_of_run : (channel : Channel) → posts run.division event channel ≡ true → is_channel run.division channel ≡ true
    is_of_run channel posted = (and_parts (is_channel run.division channel) (same_event (posting channel) event) posted).0

    has_happened : happened new event ≡ true
    has_happened = happened_after event ∙ or_right (happened cluster event) (same_event event event) (same_event_itself event)

    pub step_keeps : ClusterStands item_bytes shown_bytes run rounds new
    step_keeps = record {
      each = of_each (λ h w. h < run.division.hosts → StandsFor run rounds w) (λ _. stands_here event (new.hosts (host_of event)) step.may step.here) stands.each;
      named = of_each (λ h w. h < run.division.hosts → w.host ≡ h) (λ within. same_host run rounds event (cluster.hosts (host_of event)) (new.hosts (host_of event)) step.here ∙ stands.named (host_of event) within) stands.named;
      sent = λ channel is. elim (way channel) [
        | is_posted posted by ↦ or_left (new.flies channel) (happened new (deliver channel)) (flies_posted channel posted) ∙ sym (ap (happened new) by ∙ has_happened)
        | is_taken not_posted taken ↦
            or_right (new.flies channel) (happened new (deliver channel)) (ap (happened new) taken ∙ has_happened)
            ∙ sym (posted_before channel is not_posted ∙ sym (stands.sent channel is) ∙ or_left (cluster.flies channel) (happened cluster (deliver channel)) (ap (may_come run.division cluster) taken ∙ step.may))
        | is_left not_posted left ↦
            ap (λ b. b || happened new (deliver channel)) (flies_left channel not_posted left)
            ∙ ap (λ b. cluster.flies channel || b) (taken_before channel left)
            ∙ stands.sent channel is ∙ sym (posted_before channel is not_posted)
      ];
      once = λ channel flies. elim (way channel) [
        | is_posted posted by ↦ untaken channel (is_of_run channel posted) by
        | is_taken not_posted taken ↦ absurd (both_ways (new.flies channel) (flies_taken channel not_posted taken) flies)
        | is_left not_posted left ↦ taken_before channel left ∙ stands.once channel (sym (flies_left channel not_posted left) ∙ flies)
      ];
      needed = λ channel flies. elim (way channel) [
        | is_posted posted by ↦ is_of_run channel posted
        | is_taken not_posted taken ↦ absurd (both_ways (new.flies channel) (flies_taken channel not_posted taken) flies)
        | is_left not_posted left ↦ stands.needed channel (sym (flies_left channel not_posted left) ∙ flies)
      ];
      payloads = λ channel is done. elim (cases_Bool (posts run.division event channel)) [
        | inl posted ↦ step.payloads channel ∙ ap (λ b. cond b (payload item_bytes shown_bytes run rounds channel) (cluster.bytes channel)) posted
        | inr not_posted ↦ step.payloads channel ∙ ap (λ b. cond b (payload item_bytes shown_bytes run rounds channel) (cluster.bytes channel)) not_posted
            ∙ stands.payloads channel is (sym (posted_before channel is not_posted) ∙ done)
      ];
    }
