-- All hosts of a run and the packets between them: which events may come next, and what a cluster
-- stands for within a round.
use Rattle.std.specs.Prelude.{◌≡◌, ◌<◌, ℕ, Bool, true, false, not, ◌||◌, ◌&&◌, nat_lt, List}
use Rattle.std.specs.List.{filter, list_any, count_by, slice_index_or}
use Rattle.round_packets.specs.Runs.{Run}
use Rattle.graph_division.specs.Division.{Division, hosts_of}
use Rattle.graph_division.specs.Lists.{reduce_list}
use Rattle.host_laws.specs.HostView.{HostView}
use Rattle.host_laws.specs.Standing.{StandsFor}
use Rattle.cluster_laws.specs.Channels.{Leg, Channel, is_needed, is_channel, payload}
use Rattle.cluster_laws.specs.Channels.Leg.{reduce, broadcast}
use Rattle.cluster_laws.specs.Events.{Event, host_of, posting, round_events}
use Rattle.cluster_laws.specs.Events.Event.{compute, spread, deliver}

-- each host by number, which channels have a packet in flight, and the bytes that were last posted on each
pub record ClusterView (Program Item State Shown : Type 0) : Type 0 where
  pub hosts : ℕ → HostView Program Item State Shown
  pub flies : Channel → Bool
  pub bytes : Channel → List ℕ

-- whether a host took the round's packet of a leg from another
abbrev pub took : {Program Item State Shown : Type 0} → Leg → HostView Program Item State Shown → (from : ℕ) → Bool
took reduce view from = slice_index_or view.took_reduce from false
took broadcast view from = slice_index_or view.took_broadcast from false

-- whether a host has done its part in an event of the round
abbrev pub has_done : {Program Item State Shown : Type 0} → HostView Program Item State Shown → Event → Bool
has_done view (compute h) = view.has_computed
has_done view (spread h) = view.has_spread
has_done view (deliver channel) = took channel.leg view channel.from

-- whether an event of the round has happened
abbrev pub happened : {Program Item State Shown : Type 0} → ClusterView Program Item State Shown → Event → Bool
happened cluster event = has_done (cluster.hosts (host_of event)) event

-- how many events of the round are yet to come
abbrev pub yet_to_come : {Program Item State Shown : Type 0} → Division → ClusterView Program Item State Shown → ℕ
yet_to_come division cluster = count_by (λ event. not (happened cluster event)) (round_events division)

-- whether a host still expects a reduce packet
abbrev pub expects_reduce : {Program Item State Shown : Type 0} → Division → HostView Program Item State Shown → Bool
expects_reduce division view = list_any (λ from. is_needed (reduce_list division from view.host) && not (slice_index_or view.took_reduce from false)) (hosts_of division)

-- whether a host may spread: it has computed, has all reduce packets, and has not spread
abbrev pub may_spread : {Program Item State Shown : Type 0} → Division → HostView Program Item State Shown → Bool
may_spread division view = view.has_computed && not (view.has_spread || expects_reduce division view)

-- whether an event may come next
abbrev pub may_come : {Program Item State Shown : Type 0} → Division → ClusterView Program Item State Shown → Event → Bool
may_come division cluster (compute h) = nat_lt h division.hosts && not (cluster.hosts h).has_computed
may_come division cluster (spread h) = nat_lt h division.hosts && may_spread division (cluster.hosts h)
may_come division cluster (deliver channel) = cluster.flies channel

-- the events that may come next: hosts that compute, hosts that spread, packets that are taken
abbrev pub enabled : {Program Item State Shown : Type 0} → Division → ClusterView Program Item State Shown → List Event
enabled division cluster = filter (may_come division cluster) (round_events division)

-- the cluster within the round after so many, where these are the bytes of an item and of a shown value
pub record ClusterStands {Program Item State Shown : Type 0} (item_bytes : Item → List ℕ) (shown_bytes : Shown → List ℕ) (run : Run Item State Shown) (rounds : ℕ) (cluster : ClusterView Program Item State Shown) : Type 0 where
  pub each : (h : ℕ) → h < run.division.hosts → StandsFor run rounds (cluster.hosts h)
  pub named : (h : ℕ) → h < run.division.hosts → (cluster.hosts h).host ≡ h
  -- a packet is in flight or taken exactly where the event that posts it has happened
  pub sent : (channel : Channel) → is_channel run.division channel ≡ true → (cluster.flies channel || happened cluster (deliver channel)) ≡ happened cluster (posting channel)
  -- no packet is both in flight and taken
  pub once : (channel : Channel) → cluster.flies channel ≡ true → happened cluster (deliver channel) ≡ false
  -- what is in flight is on a channel of the run
  pub needed : (channel : Channel) → cluster.flies channel ≡ true → is_channel run.division channel ≡ true
  -- the bytes of what is in flight or taken are those of the round's packet
  pub payloads : (channel : Channel) → is_channel run.division channel ≡ true → happened cluster (posting channel) ≡ true → cluster.bytes channel ≡ payload item_bytes shown_bytes run rounds channel

-- the cluster between two rounds: it stands for the round to come, in which no host has computed
pub record StandsBetween {Program Item State Shown : Type 0} (item_bytes : Item → List ℕ) (shown_bytes : Shown → List ℕ) (run : Run Item State Shown) (rounds : ℕ) (cluster : ClusterView Program Item State Shown) : Type 0 where
  pub stands : ClusterStands item_bytes shown_bytes run rounds cluster
  pub not_computed : (h : ℕ) → h < run.division.hosts → (cluster.hosts h).has_computed ≡ false

-- the round is over: each host has computed and spread, and nothing is in flight
pub record IsOver {Program Item State Shown : Type 0} (division : Division) (cluster : ClusterView Program Item State Shown) : Type 0 where
  pub computed : (h : ℕ) → h < division.hosts → (cluster.hosts h).has_computed ≡ true
  pub spread_all : (h : ℕ) → h < division.hosts → (cluster.hosts h).has_spread ≡ true
  pub landed : (channel : Channel) → cluster.flies channel ≡ false
