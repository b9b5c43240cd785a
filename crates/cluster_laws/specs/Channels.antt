-- The channels between hosts, one for each list that is not empty, and what is sent on them.
use Rattle.std.specs.Prelude.{ℕ, ◌==◌, Bool, true, false, ◌&&◌, nat_lt, List, ◌++◌, map}
use Rattle.std.specs.List.{filter, flat_map, list_any}
use Rattle.round_packets.specs.Runs.{Run}
use Rattle.graph_division.specs.Division.{Division, hosts_of}
use Rattle.graph_division.specs.Lists.{reduce_list, broadcast_list}
use Rattle.round_packets.specs.Packets.{bytes_of_packet}
use Rattle.round_packets.specs.RunPackets.{reduce_packet, broadcast_packet}

-- the two legs of a synchronisation: from mirrors to their masters, and from masters to their mirrors
pub data Leg : Type 0 where
  reduce : Leg
  broadcast : Leg

-- a leg from one host to another
pub record Channel : Type 0 where
  pub leg : Leg
  pub from : ℕ
  pub to : ℕ

-- whether two legs are the same
abbrev pub same_leg : Leg → Leg → Bool
same_leg reduce reduce = true
same_leg reduce broadcast = false
same_leg broadcast reduce = false
same_leg broadcast broadcast = true

-- whether two channels are the same
abbrev pub same_channel : Channel → Channel → Bool
same_channel channel other = same_leg channel.leg other.leg && (channel.from == other.from && channel.to == other.to)

-- whether a list has an id in it
abbrev pub is_needed : List ℕ → Bool
is_needed ids = list_any (λ id. true) ids

-- the list of a leg from one host to another
abbrev pub list_of : Division → Leg → (from to : ℕ) → List ℕ
list_of division reduce from to = reduce_list division from to
list_of division broadcast from to = broadcast_list division from to

-- whether a division has a channel: its list is not empty
abbrev pub is_channel : Division → Channel → Bool
is_channel division channel = (nat_lt channel.from division.hosts && nat_lt channel.to division.hosts) && is_needed (list_of division channel.leg channel.from channel.to)

-- all pairs of hosts, by sender and then by receiver
abbrev pub pairs : Division → Leg → List Channel
pairs division leg = flat_map (λ from. map (λ to. record { leg = leg; from = from; to = to }) (hosts_of division)) (hosts_of division)

-- the channels of a division, by leg, sender and receiver
abbrev pub channels : Division → List Channel
channels division = filter (is_channel division) (pairs division reduce ++ pairs division broadcast)

-- the bytes that one host sends to another on a leg in the round after so many, where these are the
-- bytes of an item and of a shown value
abbrev pub payload_of : {Item State Shown : Type 0} → (Item → List ℕ) → (Shown → List ℕ) → Run Item State Shown → (rounds : ℕ) → Leg → (from to : ℕ) → List ℕ
payload_of item_bytes shown_bytes run rounds reduce from to = bytes_of_packet run.item_size item_bytes (reduce_packet run rounds from to)
payload_of item_bytes shown_bytes run rounds broadcast from to = bytes_of_packet run.shown_size shown_bytes (broadcast_packet run rounds from to)

-- the bytes that are sent on a channel
abbrev pub payload : {Item State Shown : Type 0} → (Item → List ℕ) → (Shown → List ℕ) → Run Item State Shown → (rounds : ℕ) → Channel → List ℕ
payload item_bytes shown_bytes run rounds channel = payload_of item_bytes shown_bytes run rounds channel.leg channel.from channel.to
