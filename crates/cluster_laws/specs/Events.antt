-- The events of a round.
use Rattle.std.specs.Prelude.{ℕ, ◌==◌, Bool, false, List, ◌++◌, map}
use Rattle.graph_division.specs.Division.{Division, hosts_of}
use Rattle.cluster_laws.specs.Channels.{Leg, Channel, same_channel, channels}
use Rattle.cluster_laws.specs.Channels.Leg.{reduce, broadcast}

-- a host computes, a host spreads, the packet in flight on a channel is taken by its receiver
pub data Event : Type 0 where
  compute : ℕ → Event
  spread : ℕ → Event
  deliver : Channel → Event

-- whether two events are the same
abbrev pub same_event : Event → Event → Bool
same_event (compute h) (compute k) = h == k
same_event (compute h) (spread k) = false
same_event (compute h) (deliver channel) = false
same_event (spread h) (compute k) = false
same_event (spread h) (spread k) = h == k
same_event (spread h) (deliver channel) = false
same_event (deliver channel) (compute k) = false
same_event (deliver channel) (spread k) = false
same_event (deliver channel) (deliver other) = same_channel channel other

-- the host that an event changes
abbrev pub host_of : Event → ℕ
host_of (compute h) = h
host_of (spread h) = h
host_of (deliver channel) = channel.to

-- the event by which a host posts its packets of a leg
abbrev pub posts_leg : Leg → ℕ → Event
posts_leg reduce from = compute from
posts_leg broadcast from = spread from

-- the event by which the packet of a channel is posted
abbrev pub posting : Channel → Event
posting channel = posts_leg channel.leg channel.from

-- the events of a round: each host computes and spreads, and each channel's packet is taken
abbrev pub round_events : Division → List Event
round_events division = map compute (hosts_of division) ++ (map spread (hosts_of division) ++ map deliver (channels division))
