-- Channels by number, and a cluster as lists hold it.
use Rattle.std.specs.Prelude.{◌≡◌, ◌<◌, ◌==◌, ℕ, Bool, true, false, not, ◌||◌, ◌&&◌, nat_lt, if◌then◌else◌, List, [], ◌++◌, map, length, slice_set}
use Rattle.std.specs.List.{filter, range_with_len, position_or_len, slice_index_or}
use Rattle.round_packets.specs.Runs.{Run}
use Rattle.graph_division.specs.Division.{Division, hosts_of}
use Rattle.host_laws.specs.HostView.{HostView}
use Rattle.cluster_laws.specs.Channels.{Leg, Channel, same_leg, same_channel, channels, payload}
use Rattle.cluster_laws.specs.Channels.Leg.{reduce, broadcast}
use Rattle.cluster_laws.specs.Events.{Event, same_event, host_of, posting}
use Rattle.cluster_laws.specs.Events.Event.{compute, spread, deliver}
use Rattle.cluster_laws.specs.Cluster.{ClusterView, may_spread, may_come}
use Rattle.cluster_laws.specs.Steps.{BecomesBy}
use Rattle.cluster_laws.specs.Tally.{packets_of}

-- whether a leg comes before another: the reduce leg comes first
abbrev pub leg_before : Leg → Leg → Bool
leg_before reduce reduce = false
leg_before reduce broadcast = true
leg_before broadcast reduce = false
leg_before broadcast broadcast = false

-- whether a channel comes before another, by leg, sender and receiver
abbrev pub comes_before : Channel → Channel → Bool
comes_before channel other =
    leg_before channel.leg other.leg
    || (same_leg channel.leg other.leg && (nat_lt channel.from other.from || (channel.from == other.from && nat_lt channel.to other.to)))

-- the number of a channel is its place among those of the division
abbrev pub number_of : Division → Channel → ℕ
number_of division channel = position_or_len (same_channel channel) (channels division)

-- the channel of a number
abbrev pub channel_at : Division → ℕ → Channel
channel_at division number = slice_index_or (channels division) number (record { leg = reduce; from = 0; to = 0 })

-- the hosts by number, and by the number of a channel whether a packet is in flight there and what was
-- last posted
pub record ClusterTable (Program Item State Shown : Type 0) : Type 0 where
  pub hosts : List (HostView Program Item State Shown)
  pub flights : List Bool
  pub payloads : List (List ℕ)

-- a table has as many of each as the division
pub record FitsRun {Program Item State Shown : Type 0} (division : Division) (table : ClusterTable Program Item State Shown) : Type 0 where
  pub hosts_fit : length table.hosts ≡ division.hosts
  pub flights_fit : length table.flights ≡ packets_of division
  pub payloads_fit : length table.payloads ≡ packets_of division

-- the numbers of the channels in flight, which rise
abbrev pub flying : {Program Item State Shown : Type 0} → ClusterTable Program Item State Shown → List ℕ
flying table = filter (λ number. slice_index_or table.flights number false) (range_with_len 0 (length table.flights))

module _ {Program Item State Shown : Type 0} (division : Division) (spare : HostView Program Item State Shown) where
  -- the cluster that a table holds, where `spare` stands for hosts that there are not
  abbrev pub cluster_of : ClusterTable Program Item State Shown → ClusterView Program Item State Shown
  cluster_of table = record {
    hosts = λ h. slice_index_or table.hosts h spare;
    flies = λ channel. slice_index_or table.flights (number_of division channel) false;
    bytes = λ channel. slice_index_or table.payloads (number_of division channel) [];
  }

  -- the hosts that may compute
  abbrev pub who_may_compute : ClusterTable Program Item State Shown → List ℕ
  who_may_compute table = filter (λ h. not (slice_index_or table.hosts h spare).has_computed) (hosts_of division)

  -- the hosts that may spread
  abbrev pub who_may_spread : ClusterTable Program Item State Shown → List ℕ
  who_may_spread table = filter (λ h. may_spread division (slice_index_or table.hosts h spare)) (hosts_of division)

  -- the events that may come next: Compute by host, Spread by host, Deliver by channel
  abbrev pub enabled_by_number : ClusterTable Program Item State Shown → List Event
  enabled_by_number table = map compute (who_may_compute table) ++ (map spread (who_may_spread table) ++ map (λ number. deliver (channel_at division number)) (flying table))

-- an event that may come leads from one table to another
pub record TableStep {Program Item State Shown : Type 0} (item_bytes : Item → List ℕ) (shown_bytes : Shown → List ℕ) (run : Run Item State Shown) (rounds : ℕ) (spare : HostView Program Item State Shown) (event : Event) (table new : ClusterTable Program Item State Shown) : Type 0 where
  pub may : may_come run.division (cluster_of run.division spare table) event ≡ true
  -- its host becomes this one
  pub view : HostView Program Item State Shown
  pub here : BecomesBy run rounds event (slice_index_or table.hosts (host_of event) spare) view
  pub hosts_change : new.hosts ≡ slice_set table.hosts (host_of event) view
  -- what it posts is in flight, and what it takes is not any longer
  pub flights_change : (number : ℕ) → number < packets_of run.division → slice_index_or new.flights number false
      ≡ (same_event (posting (channel_at run.division number)) event || (slice_index_or table.flights number false && not (same_event (deliver (channel_at run.division number)) event)))
  -- the bytes that it posts are those of the round's packet, and others are as they were
  pub payloads_change : (number : ℕ) → number < packets_of run.division → slice_index_or new.payloads number []
      ≡ (if same_event (posting (channel_at run.division number)) event then payload item_bytes shown_bytes run rounds (channel_at run.division number) else slice_index_or table.payloads number [])
  pub lengths_stay : FitsRun run.division new
