-- Channels and their numbers say the same, and so do clusters and their lists.
use Rattle.std.specs.Prelude.{◌≡◌, ◌<◌, ◌≤◌, ◌+◌, ◌-◌, ◌==◌, ◌&&◌, ℕ, true, false, List, length}
use Rattle.std.specs.List.{AllPairs, slice_index_or, sum_by}
use Rattle.graph_division.specs.Division.{Division}
use Rattle.round_packets.specs.Runs.{Run}
use Rattle.host_laws.specs.HostView.{HostView}
use Rattle.cluster_laws.specs.Channels.{Channel, same_leg, is_channel, channels}
use Rattle.cluster_laws.specs.Channels.Leg.{reduce, broadcast}
use Rattle.cluster_laws.specs.Events.{Event, same_event, posting}
use Rattle.cluster_laws.specs.Events.Event.{compute, spread, deliver}
use Rattle.cluster_laws.specs.Cluster.{enabled}
use Rattle.cluster_laws.specs.Steps.{Step}
use Rattle.cluster_laws.specs.Tally.{packets_of}
use Rattle.cluster_laws.specs.Numbers.{comes_before, number_of, channel_at, ClusterTable, FitsRun, flying, cluster_of, who_may_compute, who_may_spread, enabled_by_number, TableStep}

-- the channels of a division rise by leg, sender and receiver
abbrev pub ChannelsRise : Type 0
ChannelsRise = (division : Division) → AllPairs (λ channel other. comes_before channel other ≡ true) (channels division)

-- a channel of the division has a number, and is the channel of that number
abbrev pub ChannelsHaveNumbers : Type 0
ChannelsHaveNumbers = (division : Division) (channel : Channel) → is_channel division channel ≡ true → (number_of division channel < packets_of division) × (channel_at division (number_of division channel) ≡ channel)

-- a number has a channel of the division, and is the number of that channel
abbrev pub NumbersHaveChannels : Type 0
NumbersHaveChannels = (division : Division) (number : ℕ) → number < packets_of division → (is_channel division (channel_at division number) ≡ true) × (number_of division (channel_at division number) ≡ number)

-- the tests of a table's step, event by event: a host that computes posts its reduce channels, one that
-- spreads its broadcast channels, and a packet that is taken is that of one number
pub record EventsByNumber (division : Division) (number : ℕ) : Type 0 where
  pub computing : (h : ℕ) → same_event (posting (channel_at division number)) (compute h) ≡ (same_leg (channel_at division number).leg reduce && (channel_at division number).from == h)
  pub spreading : (h : ℕ) → same_event (posting (channel_at division number)) (spread h) ≡ (same_leg (channel_at division number).leg broadcast && (channel_at division number).from == h)
  pub delivering : (channel : Channel) → same_event (posting (channel_at division number)) (deliver channel) ≡ false
  pub taking : (other : ℕ) → number < packets_of division → other < packets_of division → same_event (deliver (channel_at division number)) (deliver (channel_at division other)) ≡ (number == other)

-- each number is such
abbrev pub EventsHaveNumbers : Type 0
EventsHaveNumbers = (division : Division) (number : ℕ) → EventsByNumber division number

module _ (Program Item State Shown : Type 0) where
  -- the events that may come next, by number
  abbrev pub EnabledByNumber : Type 0
  EnabledByNumber =
      (division : Division) (spare : HostView Program Item State Shown) (table : ClusterTable Program Item State Shown)
      → FitsRun division table
      → enabled division (cluster_of division spare table) ≡ enabled_by_number division spare table

  -- which of them a pick names
  pub record Picks (division : Division) (spare : HostView Program Item State Shown) (table : ClusterTable Program Item State Shown) (place : ℕ) (none : Event) : Type 0 where
    pub computing : place < length (who_may_compute division spare table) → slice_index_or (enabled_by_number division spare table) place none ≡ compute (slice_index_or (who_may_compute division spare table) place 0)
    pub spreading : length (who_may_compute division spare table) ≤ place → place < length (who_may_compute division spare table) + length (who_may_spread division spare table)
        → slice_index_or (enabled_by_number division spare table) place none ≡ spread (slice_index_or (who_may_spread division spare table) (place - length (who_may_compute division spare table)) 0)
    pub delivering : length (who_may_compute division spare table) + length (who_may_spread division spare table) ≤ place → place < length (enabled_by_number division spare table)
        → slice_index_or (enabled_by_number division spare table) place none
        ≡ deliver (channel_at division (slice_index_or (flying table) (place - (length (who_may_compute division spare table) + length (who_may_spread division spare table))) 0))

  -- each place is such
  abbrev pub PicksByNumber : Type 0
  PicksByNumber = (division : Division) (spare : HostView Program Item State Shown) (table : ClusterTable Program Item State Shown) (place : ℕ) (none : Event) → Picks division spare table place none

  -- what was last posted has as many bytes on the channels as in the lists
  abbrev pub BytesByNumber : Type 0
  BytesByNumber =
      (division : Division) (spare : HostView Program Item State Shown) (table : ClusterTable Program Item State Shown)
      → FitsRun division table
      → sum_by (λ channel. length ((cluster_of division spare table).bytes channel)) (channels division) ≡ sum_by length table.payloads

module _ {Item Shown : Type 0} (Program State : Type 0) (item_bytes : Item → List ℕ) (shown_bytes : Shown → List ℕ) where
  -- a step of the lists is a step of the cluster
  abbrev pub TableStepIsStep : Type 0
  TableStepIsStep =
      (run : Run Item State Shown) (rounds : ℕ) (spare : HostView Program Item State Shown) (event : Event) (table new : ClusterTable Program Item State Shown)
      → FitsRun run.division table
      → TableStep item_bytes shown_bytes run rounds spare event table new
      → Step item_bytes shown_bytes run rounds event (cluster_of run.division spare table) (cluster_of run.division spare new)
