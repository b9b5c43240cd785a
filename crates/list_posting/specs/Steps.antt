-- What one step of a host posts: the packet for one peer.
use Rattle.std.specs.Prelude.{◌≡◌, ◌==◌, ◌&&◌, ◌||◌, ℕ, Bool, true, false, List, slice_get, slice_index, Some}
use Rattle.list_laws.specs.Members.{has_member}
use Rattle.address_memo.specs.Memos.{Proxies, list_at}
use Rattle.field_encodings.specs.Packets.{packet_at, bytes_of_packet}
use Rattle.packet_table.specs.declared.channel_spec.Leg.{Leg}
use Rattle.packet_table.specs.declared.channel_spec.ChannelSpec.{ChannelSpec}
use Rattle.packet_table.specs.Table.{Table, buffer_of, payload_of}
use Rattle.host_state.specs.Posting.{posts_on}

-- whether a host posts on a channel when it comes to a peer
abbrev pub posts_to : Leg → (from : ℕ) → List Proxies → (peer : ℕ) → ChannelSpec → Bool
posts_to leg from lists peer spec = posts_on leg from lists spec && spec.to == peer

-- the bytes of the packets of lists, by receiver, from a field and a set that are kept by local number
abbrev pub packets_of : {X : Type 0} → (size : ℕ) → (X → List ℕ) → List Proxies → (values : List X) → (bits : List Bool) → (to : ℕ) → List ℕ
packets_of size bytes_of lists values bits to = bytes_of_packet size bytes_of (packet_at values (list_at lists to).locals (list_at lists to).globals bits)

-- on the channels that a test picks a packet is posted, of these bytes by receiver, and on all others everything stays
pub record PostsWhere (picks : ChannelSpec → Bool) (bytes : ℕ → List ℕ) (old new : Table) : Type 0 where
  pub same_specs : new.specs ≡ old.specs
  pub in_flight : (id : ℕ) (spec : ChannelSpec) → slice_get old.specs id ≡ Some spec
      → has_member new.flying id ≡ (picks spec || has_member old.flying id)
  pub payloads : (id : ℕ) (spec : ChannelSpec) → slice_get old.specs id ≡ Some spec → picks spec ≡ true → payload_of new id ≡ bytes spec.to
  pub others : (id : ℕ) (spec : ChannelSpec) → slice_get old.specs id ≡ Some spec → picks spec ≡ false
      → (slice_index new.lengths id ≡ slice_index old.lengths id) × (buffer_of new id ≡ buffer_of old id)
