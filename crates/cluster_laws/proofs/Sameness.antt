-- What the tests of sameness tell, and that each event of a round stands in its list once.
use Rattle.std.proofs.Common.{◌≡◌, ◌≢◌, ℕ, ◌+◌, ◌<◌, true, false, Bool, cond, ◌&&◌, ◌==◌, nat_lt, ◌++◌, map, refl, sym, ◌∙◌, ap, inl, inr, arith}
use Rattle.std.specs.List.{count_by}
use Rattle.std.proofs.lemmas.Bool.{cases_Bool, both_ways, and_parts, and_from, eq-eqb, eqb-true, ltb-true}
use Rattle.graph_division.specs.Division.{Division, hosts_of}
use Rattle.cluster_laws.specs.Channels.{Leg, Channel, same_leg, same_channel, is_channel, pairs, channels}
use Rattle.cluster_laws.specs.Channels.Leg.{reduce, broadcast}
use Rattle.cluster_laws.specs.Events.{Event, same_event, host_of, posts_leg, round_events}
use Rattle.cluster_laws.specs.Events.Event.{compute, spread, deliver}
use Rattle.cluster_laws.proofs.Counting.{count-append, count_none, sum_agree, count-filter, count-flat_map, count-map, once_in_range}

same_leg_itself : (leg : Leg) → same_leg leg leg ≡ true
same_leg_itself reduce = refl
same_leg_itself broadcast = refl

pub same_leg_is : (leg other : Leg) → same_leg leg other ≡ true → leg ≡ other
same_leg_is reduce reduce h = refl
same_leg_is reduce broadcast h = absurd (both_ways false refl h)
same_leg_is broadcast reduce h = absurd (both_ways false refl h)
same_leg_is broadcast broadcast h = refl

pub same_channel_itself : (channel : Channel) → same_channel channel channel ≡ true
same_channel_itself channel =
    and_from (same_leg channel.leg channel.leg) (channel.from == channel.from && channel.to == channel.to) (same_leg_itself channel.leg)
    (and_from (channel.from == channel.from) (channel.to == channel.to) (eq-eqb channel.from channel.from refl) (eq-eqb channel.to channel.to refl))

pub same_channel_is : (channel other : Channel) → same_channel channel other ≡ true → channel ≡ other
same_channel_is channel other h =
    let parts = and_parts (same_leg channel.leg other.leg) (channel.from == other.from && channel.to == other.to) h in
    let ends = and_parts (channel.from == other.from) (channel.to == other.to) parts.1 in
    between (same_leg_is channel.leg other.leg parts.0) (eqb-true channel.from other.from ends.0) (eqb-true channel.to other.to ends.1)
  where
    made : Leg → ℕ → ℕ → Channel
    made leg from to = record { leg = leg; from = from; to = to }

    between : channel.leg ≡ other.leg → channel.from ≡ other.from → channel.to ≡ other.to → made channel.leg channel.from channel.to ≡ made other.leg other.from other.to
    between p q r = ap (λ leg. made leg channel.from channel.to) p ∙ ap (λ from. made other.leg from channel.to) q ∙ ap (λ to. made other.leg other.from to) r

pub same_event_itself : (event : Event) → same_event event event ≡ true
same_event_itself (compute h) = eq-eqb h h refl
same_event_itself (spread h) = eq-eqb h h refl
same_event_itself (deliver channel) = same_channel_itself channel

pub same_event_is : (event other : Event) → same_event event other ≡ true → event ≡ other
same_event_is (compute h) (compute k) e = ap compute (eqb-true h k e)
same_event_is (compute h) (spread k) e = absurd (both_ways false refl e)
same_event_is (compute h) (deliver other) e = absurd (both_ways false refl e)
same_event_is (spread h) (compute k) e = absurd (both_ways false refl e)
same_event_is (spread h) (spread k) e = ap spread (eqb-true h k e)
same_event_is (spread h) (deliver other) e = absurd (both_ways false refl e)
same_event_is (deliver channel) (compute k) e = absurd (both_ways false refl e)
same_event_is (deliver channel) (spread k) e = absurd (both_ways false refl e)
same_event_is (deliver channel) (deliver other) e = ap deliver (same_channel_is channel other e)

-- events that are the same have one host
pub other_host : (event other : Event) → host_of other ≢ host_of event → same_event event other ≡ false
other_host event other apart = elim (cases_Bool (same_event event other)) [ inl same ↦ absurd (apart (sym (ap host_of (same_event_is event other same)))) | inr differ ↦ differ ]

-- the test does not mind the order
pub same_event_sym : (event other : Event) → same_event event other ≡ same_event other event
same_event_sym event other = elim (cases_Bool (same_event event other)) [
  | inl same ↦ ap (same_event event) (sym (same_event_is event other same)) ∙ ap (λ e. same_event e event) (same_event_is event other same)
  | inr differ ↦ differ ∙ sym (elim (cases_Bool (same_event other event)) [
    | inl same ↦ absurd (both_ways (same_event event other) differ (ap (same_event event) (same_event_is other event same) ∙ same_event_itself event))
    | inr so ↦ so
  ])
]

-- no event that posts takes
pub posting_is_no_delivery : (leg : Leg) (from : ℕ) (channel : Channel) → same_event (posts_leg leg from) (deliver channel) ≡ false
posting_is_no_delivery reduce from channel = refl
posting_is_no_delivery broadcast from channel = refl

module _ (division : Division) where
  -- an event of the round
  abbrev pub is_round_event : Event → Bool
  is_round_event (compute h) = nat_lt h division.hosts
  is_round_event (spread h) = nat_lt h division.hosts
  is_round_event (deliver channel) = is_channel division channel

  host_once : (h : ℕ) → h < division.hosts → count_by (λ k. h == k) (hosts_of division) ≡ 1
  host_once h within = once_in_range h 0 division.hosts (omega arith) (omega arith)

  -- a row of pairs has a channel once, where the sender is its own
  in_row : (leg other : Leg) (from to a : ℕ) → to < division.hosts → count_by (same_channel (record { leg = leg; from = from; to = to })) (map (λ b. record { leg = other; from = a; to = b }) (hosts_of division)) ≡ cond (same_leg leg other && from == a) 1 0
  in_row leg other from to a within =
      count-map (same_channel (record { leg = leg; from = from; to = to })) (λ b. record { leg = other; from = a; to = b }) (hosts_of division)
      ∙ step (same_leg leg other) (from == a)
    where
      step : (s f : Bool) → count_by (λ b. s && (f && to == b)) (hosts_of division) ≡ cond (s && f) 1 0
      step true true = host_once to within
      step true false = count_none (λ b. false) (λ b. refl) (hosts_of division)
      step false f = count_none (λ b. false) (λ b. refl) (hosts_of division)

  in_pairs : (leg other : Leg) (from to : ℕ) → from < division.hosts → to < division.hosts → count_by (same_channel (record { leg = leg; from = from; to = to })) (pairs division other) ≡ cond (same_leg leg other) 1 0
  in_pairs leg other from to there here =
      count-flat_map (same_channel (record { leg = leg; from = from; to = to })) (λ a. map (λ b. record { leg = other; from = a; to = b }) (hosts_of division)) (hosts_of division)
      ∙ sum_agree (λ a. count_by (same_channel (record { leg = leg; from = from; to = to })) (map (λ b. record { leg = other; from = a; to = b }) (hosts_of division))) (λ a. cond (same_leg leg other && from == a) 1 0) (λ a. in_row leg other from to a here) (hosts_of division)
      ∙ step (same_leg leg other)
    where
      step : (s : Bool) → count_by (λ a. s && from == a) (hosts_of division) ≡ cond s 1 0
      step true = host_once from there
      step false = count_none (λ a. false) (λ a. refl) (hosts_of division)

  -- a channel of the division stands once among the channels
  pub channel_once : (channel : Channel) → is_channel division channel ≡ true → count_by (same_channel channel) (channels division) ≡ 1
  channel_once channel is =
      count-filter (is_channel division) (same_channel channel) (λ other same. ap (is_channel division) (sym (same_channel_is channel other same)) ∙ is) (pairs division reduce ++ pairs division broadcast)
      ∙ count-append (same_channel channel) (pairs division reduce) (pairs division broadcast)
      ∙ both channel.leg
    where
      hosts : (nat_lt channel.from division.hosts ≡ true) × (nat_lt channel.to division.hosts ≡ true)
      hosts = and_parts (nat_lt channel.from division.hosts) (nat_lt channel.to division.hosts) (and_parts (nat_lt channel.from division.hosts && nat_lt channel.to division.hosts) _ is).0

      there : channel.from < division.hosts
      there = ltb-true channel.from division.hosts hosts.0

      here : channel.to < division.hosts
      here = ltb-true channel.to division.hosts hosts.1

      both : (leg : Leg) → count_by (same_channel (record { leg = leg; from = channel.from; to = channel.to })) (pairs division reduce) + count_by (same_channel (record { leg = leg; from = channel.from; to = channel.to })) (pairs division broadcast) ≡ 1
      both reduce = ap (λ n. n + count_by (same_channel (record { leg = reduce; from = channel.from; to = channel.to })) (pairs division broadcast)) (in_pairs reduce reduce channel.from channel.to there here) ∙ ap (λ n. 1 + n) (in_pairs reduce broadcast channel.from channel.to there here)
      both broadcast = ap (λ n. n + count_by (same_channel (record { leg = broadcast; from = channel.from; to = channel.to })) (pairs division broadcast)) (in_pairs broadcast reduce channel.from channel.to there here) ∙ ap (λ n. 0 + n) (in_pairs broadcast broadcast channel.from channel.to there here)

  -- an event of the round stands once in its list
  pub event_once : (event : Event) → is_round_event event ≡ true → count_by (same_event event) (round_events division) ≡ 1
  event_once event is =
      count-append (same_event event) (map compute (hosts_of division)) (map spread (hosts_of division) ++ map deliver (channels division))
      ∙ ap (λ n. count_by (same_event event) (map compute (hosts_of division)) + n) (count-append (same_event event) (map spread (hosts_of division)) (map deliver (channels division)))
      ∙ ap (λ n. n + (count_by (same_event event) (map spread (hosts_of division)) + count_by (same_event event) (map deliver (channels division)))) (count-map (same_event event) compute (hosts_of division))
      ∙ ap (λ n. count_by (λ h. same_event event (compute h)) (hosts_of division) + (n + count_by (same_event event) (map deliver (channels division)))) (count-map (same_event event) spread (hosts_of division))
      ∙ ap (λ n. count_by (λ h. same_event event (compute h)) (hosts_of division) + (count_by (λ h. same_event event (spread h)) (hosts_of division) + n)) (count-map (same_event event) deliver (channels division))
      ∙ parts event is
    where
      no_host : count_by (λ h. false) (hosts_of division) ≡ 0
      no_host = count_none (λ h. false) (λ h. refl) (hosts_of division)

      no_channel : count_by (λ channel. false) (channels division) ≡ 0
      no_channel = count_none (λ channel. false) (λ channel. refl) (channels division)

      added : (a b c x y z : ℕ) → a ≡ x → b ≡ y → c ≡ z → a + (b + c) ≡ x + (y + z)
      added a b c x y z p q r = ap (λ n. n + (b + c)) p ∙ ap (λ n. x + (n + c)) q ∙ ap (λ n. x + (y + n)) r

      parts : (e : Event) → is_round_event e ≡ true → count_by (λ h. same_event e (compute h)) (hosts_of division) + (count_by (λ h. same_event e (spread h)) (hosts_of division) + count_by (λ channel. same_event e (deliver channel)) (channels division)) ≡ 1
      parts (compute h) within = added _ _ _ 1 0 0 (host_once h (ltb-true h division.hosts within)) no_host no_channel
      parts (spread h) within = added _ _ _ 0 1 0 no_host (host_once h (ltb-true h division.hosts within)) no_channel
      parts (deliver channel) within = added _ _ _ 0 0 1 no_host no_host (channel_once channel within)
