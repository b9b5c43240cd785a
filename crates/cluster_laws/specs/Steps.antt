-- What each event does to a cluster.
use Rattle.std.specs.Prelude.{◌≡◌, ◌≢◌, ◌<◌, ℕ, zero, suc, Bool, true, not, ◌&&◌, ◌||◌, if◌then◌else◌, List}
use Rattle.graph_division.specs.Division.{Division}
use Rattle.round_packets.specs.Runs.{Run}
use Rattle.host_laws.specs.HostView.{HostView}
use Rattle.host_laws.specs.Effects.{Computes, after_compute, TakesReduce, after_reduce, Spreads, after_spread, TakesBroadcast, after_broadcast, closed}
use Rattle.cluster_laws.specs.Channels.{Leg, Channel, is_channel, payload}
use Rattle.cluster_laws.specs.Channels.Leg.{reduce, broadcast}
use Rattle.cluster_laws.specs.Events.{Event, same_event, host_of, posting}
use Rattle.cluster_laws.specs.Events.Event.{compute, spread, deliver}
use Rattle.cluster_laws.specs.Cluster.{ClusterView, may_come}

-- a host that computes in the round after so many becomes this one
pub record ComputesTo {Program Item State Shown : Type 0} (run : Run Item State Shown) (rounds : ℕ) (view new : HostView Program Item State Shown) : Type 0 where
  pub items : List Item
  pub effect : Computes run rounds view items
  pub becomes : new ≡ after_compute view items

-- a host that spreads becomes this one
pub record SpreadsTo {Program Item State Shown : Type 0} (run : Run Item State Shown) (view new : HostView Program Item State Shown) : Type 0 where
  pub states : List State
  pub next : List Shown
  pub items : List Item
  pub awake_next : List Bool
  pub effect : Spreads run view states next items awake_next
  pub becomes : new ≡ after_spread view states next items awake_next

-- a host that takes a reduce packet from another becomes this one
pub record TakesReduceTo {Program Item State Shown : Type 0} (run : Run Item State Shown) (rounds from : ℕ) (view new : HostView Program Item State Shown) : Type 0 where
  pub items : List Item
  pub effect : TakesReduce run rounds from view items
  pub becomes : new ≡ after_reduce from view items

-- a host that takes a broadcast packet from another becomes this one
pub record TakesBroadcastTo {Program Item State Shown : Type 0} (run : Run Item State Shown) (rounds from : ℕ) (view new : HostView Program Item State Shown) : Type 0 where
  pub next : List Shown
  pub items : List Item
  pub awake_next : List Bool
  pub effect : TakesBroadcast run rounds from view next items awake_next
  pub becomes : new ≡ after_broadcast from view next items awake_next

-- a host that takes a packet of a leg from another becomes this one
abbrev pub TakesTo : {Program Item State Shown : Type 0} → Run Item State Shown → (rounds : ℕ) → Leg → (from : ℕ) → (view new : HostView Program Item State Shown) → Type 0
TakesTo run rounds reduce from view new = TakesReduceTo run rounds from view new
TakesTo run rounds broadcast from view new = TakesBroadcastTo run rounds from view new

-- the host of an event becomes this one
abbrev pub BecomesBy : {Program Item State Shown : Type 0} → Run Item State Shown → (rounds : ℕ) → Event → (view new : HostView Program Item State Shown) → Type 0
BecomesBy run rounds (compute h) view new = ComputesTo run rounds view new
BecomesBy run rounds (spread h) view new = SpreadsTo run view new
BecomesBy run rounds (deliver channel) view new = TakesTo run rounds channel.leg channel.from view new

-- whether an event posts on a channel of the division
abbrev pub posts : Division → Event → Channel → Bool
posts division event channel = is_channel division channel && same_event (posting channel) event

-- whether a packet is in flight on a channel once an event has happened
abbrev pub flies_after : {Program Item State Shown : Type 0} → Division → ClusterView Program Item State Shown → Event → Channel → Bool
flies_after division cluster event channel = posts division event channel || (cluster.flies channel && not (same_event (deliver channel) event))

-- an event that may come leads from one cluster to another
pub record Step {Program Item State Shown : Type 0} (item_bytes : Item → List ℕ) (shown_bytes : Shown → List ℕ) (run : Run Item State Shown) (rounds : ℕ) (event : Event) (cluster new : ClusterView Program Item State Shown) : Type 0 where
  pub may : may_come run.division cluster event ≡ true
  -- its host changes, and the others stay
  pub here : BecomesBy run rounds event (cluster.hosts (host_of event)) (new.hosts (host_of event))
  pub elsewhere : (h : ℕ) → h ≢ host_of event → new.hosts h ≡ cluster.hosts h
  -- what it posts is in flight, and what it takes is not any longer
  pub flights : (channel : Channel) → new.flies channel ≡ flies_after run.division cluster event channel
  -- the bytes that it posts are those of the round's packet, and the others stay
  pub payloads : (channel : Channel) → new.bytes channel ≡ (if posts run.division event channel then payload item_bytes shown_bytes run rounds channel else cluster.bytes channel)

-- so many events in turn lead from one cluster to another
unfoldable pub StepsInTurn : {Program Item State Shown : Type 0} → (Item → List ℕ) → (Shown → List ℕ) → Run Item State Shown → (rounds count : ℕ) → (first last : ClusterView Program Item State Shown) → Type 0
StepsInTurn item_bytes shown_bytes run rounds zero first last = last ≡ first
StepsInTurn {Program} {Item} {State} {Shown} item_bytes shown_bytes run rounds (suc count) first last =
    (before : ClusterView Program Item State Shown) × (event : Event) × StepsInTurn item_bytes shown_bytes run rounds count first before × Step item_bytes shown_bytes run rounds event before last

-- all hosts are closed, and the bytes that were posted stay
pub record Closes {Program Item State Shown : Type 0} (division : Division) (cluster new : ClusterView Program Item State Shown) : Type 0 where
  pub hosts_close : (h : ℕ) → h < division.hosts → new.hosts h ≡ closed (cluster.hosts h)
  pub same_flights : (channel : Channel) → new.flies channel ≡ cluster.flies channel
  pub same_bytes : (channel : Channel) → new.bytes channel ≡ cluster.bytes channel
