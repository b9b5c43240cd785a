-- The channels that the lists of hosts ask for, by leg, sender and receiver.
use Rattle.std.specs.Prelude.{◌≡◌, ◌<◌, ◌≤◌, ◌+◌, ◌*◌, ℕ, List, [], ◌∷◌, ◌++◌, length, map}
use Rattle.std.specs.List.{filter, range_with_len}
use Rattle.graph_model.specs.Graph.{most_nodes}
use Rattle.address_memo.specs.Memos.{Memos, list_at}
use Rattle.packet_table.specs.declared.channel_spec.ChannelSpec.{ChannelSpec}
use Rattle.packet_table.specs.declared.channel_spec.Leg.{Leg}
use Rattle.packet_table.specs.declared.channel_spec.Leg.TheVariants.{Reduce, Spread}
use Rattle.cluster_laws.specs.Channels.{is_needed}

-- the vertices of a host's list of a leg to a peer
abbrev pub list_to : Memos → Leg → (to : ℕ) → List ℕ
list_to memo Reduce to = (list_at memo.reduce_to to).globals
list_to memo Spread to = (list_at memo.spread_to to).globals

-- the memo is one of so many hosts, and no list has more vertices than a graph may have
pub record IsMemoOf (hosts : ℕ) (memo : Memos) : Type 0 where
  pub of_hosts : memo.hosts ≡ hosts
  pub few : (leg : Leg) (to : ℕ) → to < hosts → length (list_to memo leg to) ≤ most_nodes

-- the channel of a leg to a peer, with room for the form of all values of its list
abbrev pub spec_to : Leg → (size from : ℕ) → Memos → (to : ℕ) → ChannelSpec
spec_to leg size from memo to = record { leg = leg; from = from; to = to; room = 1 + length (list_to memo leg to) * size }

-- a host's channels of a leg to the hosts below one: one for each list that is not empty
abbrev pub specs_below : Leg → (size from : ℕ) → Memos → (count : ℕ) → List ChannelSpec
specs_below leg size from memo count = map (spec_to leg size from memo) (filter (λ to. is_needed (list_to memo leg to)) (range_with_len 0 count))

-- the channels of a leg of hosts that are numbered from `first` on
abbrev pub specs_of_leg : Leg → (size first : ℕ) → List Memos → List ChannelSpec
specs_of_leg leg size first [] = []
specs_of_leg leg size first (memo ∷ memos) = specs_below leg size first memo memo.hosts ++ specs_of_leg leg size (first + 1) memos
