-- A table of channels as contracts see it: a list for each thing that a channel has.
use Rattle.std.specs.Prelude.{◌≡◌, ℕ, ◌<◌, ◌≤◌, ◌^◌, Bool, List, [], ◌∷◌, ◌++◌, length, map, sum, take, drop, replicate, slice_index, slice_set}
use Rattle.std.specs.List.{slice_index_or}
use Rattle.list_laws.specs.Members.{no_members, with_member, without_member}
use Rattle.packet_table.specs.declared.channel_spec.ChannelSpec.{ChannelSpec}
use Rattle.packet_table.specs.Order.{Rise}

-- the channel of each number: what it is, whether its packet is in flight, the length of its payload, and all bytes of its buffer
pub record Table : Type 0 where
  pub specs : List ChannelSpec
  pub flying : List Bool
  pub lengths : List ℕ
  pub buffers : List (List ℕ)

-- the rooms of channels
abbrev pub rooms_of : List ChannelSpec → List ℕ
rooms_of specs = map (λ spec. spec.room) specs

-- the buffer of a channel
abbrev pub buffer_of : Table → ℕ → List ℕ
buffer_of table id = slice_index_or table.buffers id []

-- the payload of a channel: the front of its buffer
abbrev pub payload_of : Table → ℕ → List ℕ
payload_of table id = take (slice_index table.lengths id) (buffer_of table id)

-- nothing is in flight, each payload is empty, and each buffer is filled with zeros
abbrev pub fresh : List ChannelSpec → Table
fresh specs = record {
  specs = specs;
  flying = no_members (length specs);
  lengths = replicate (length specs) 0;
  buffers = map (λ room. replicate room 0) (rooms_of specs);
}

-- the same table where the channel has its first len bytes as payload, in flight
abbrev pub posted : Table → ℕ → ℕ → Table
posted table id len = record table { flying = with_member table.flying id; lengths = slice_set table.lengths id len }

-- the same table where the channel is not in flight
abbrev pub taken : Table → ℕ → Table
taken table id = record table { flying = without_member table.flying id }

-- the same table where the channel's buffer is these bytes
abbrev pub with_buffer : Table → ℕ → List ℕ → Table
with_buffer table id bytes = record table { buffers = slice_set table.buffers id bytes }

-- the list with bytes over its front, as far as both reach
abbrev pub overlaid : List ℕ → List ℕ → List ℕ
overlaid [] list = list
overlaid bytes [] = []
overlaid (byte ∷ bytes) (_ ∷ list) = byte ∷ overlaid bytes list

-- the buffers with bytes over them, one buffer after the other
abbrev pub all_overlaid : List ℕ → List (List ℕ) → List (List ℕ)
all_overlaid bytes [] = []
all_overlaid bytes (buffer ∷ buffers) = overlaid bytes buffer ∷ all_overlaid (drop (length buffer) bytes) buffers

-- the same table with bytes over the buffers from the channel's on; as many bytes as its buffer has leave the other buffers as they are
abbrev pub written : Table → ℕ → List ℕ → Table
written table id bytes = record table { buffers = take id table.buffers ++ all_overlaid bytes (drop id table.buffers) }

-- what holds of every table of channels
pub record IsTable (table : Table) : Type 0 where
  pub rise : Rise table.specs
  pub few : length table.specs < 2 ^ 32
  pub bounded : sum (rooms_of table.specs) < 2 ^ 63
  pub flights : length table.flying ≡ length table.specs
  pub payloads : length table.lengths ≡ length table.specs
  pub rooms : map length table.buffers ≡ rooms_of table.specs
  -- no payload exceeds its buffer
  pub fit : (id : ℕ) → slice_index table.lengths id ≤ slice_index (rooms_of table.specs) id
