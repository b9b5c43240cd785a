-- The packets that a host posts, one for each list that is not empty.
use Rattle.std.specs.Prelude.{◌≡◌, ◌≤◌, ◌==◌, ◌&&◌, ◌||◌, ◌+◌, ◌*◌, ℕ, Bool, true, false, List, length, slice_get, slice_index, Some}
use Rattle.std.specs.List.{list_any}
use Rattle.list_laws.specs.Among.{is_among}
use Rattle.list_laws.specs.Members.{has_member}
use Rattle.address_memo.specs.Memos.{Proxies, list_at}
use Rattle.packet_table.specs.declared.channel_spec.Leg.{Leg}
use Rattle.packet_table.specs.declared.channel_spec.ChannelSpec.{ChannelSpec}
use Rattle.packet_table.specs.Order.{leg_place, IsChannelAt}
use Rattle.packet_table.specs.Table.{Table, rooms_of, buffer_of, payload_of}
use Rattle.cluster_laws.specs.Channels.{is_needed}

-- whether a proxy is in one of the lists
abbrev pub is_listed : List Proxies → (local : ℕ) → Bool
is_listed lists local = list_any (λ list. is_among list.locals local) lists

-- whether a host posts on a channel: it is the host's, of this leg, and its list is not empty
abbrev pub posts_on : Leg → (from : ℕ) → List Proxies → ChannelSpec → Bool
posts_on leg from lists spec = leg_place spec.leg == leg_place leg && (spec.from == from && is_needed (list_at lists spec.to).globals)

-- one host can post so many bytes for another
pub record HasRoom (leg : Leg) (from to bytes : ℕ) (table : Table) : Type 0 where
  pub id : ℕ
  pub is_channel : IsChannelAt table.specs id leg from to
  pub fits : bytes ≤ slice_index (rooms_of table.specs) id
  pub rests : has_member table.flying id ≡ false

-- each list that is not empty has its channel, with room for the form of all values, and nothing is in flight there
abbrev pub IsReady : Leg → (from size : ℕ) → List Proxies → Table → Type 0
IsReady leg from size lists table =
    (to : ℕ) → is_needed (list_at lists to).globals ≡ true → HasRoom leg from to (1 + length (list_at lists to).globals * size) table

-- a host has posted a packet for each list that is not empty: these bytes, by receiver
pub record Posts (leg : Leg) (from : ℕ) (lists : List Proxies) (bytes : ℕ → List ℕ) (old new : Table) : Type 0 where
  pub same_specs : new.specs ≡ old.specs
  pub in_flight : (id : ℕ) (spec : ChannelSpec) → slice_get old.specs id ≡ Some spec
      → has_member new.flying id ≡ (posts_on leg from lists spec || has_member old.flying id)
  pub payloads : (id : ℕ) (spec : ChannelSpec) → slice_get old.specs id ≡ Some spec → posts_on leg from lists spec ≡ true → payload_of new id ≡ bytes spec.to
  -- on all other channels everything stays
  pub others : (id : ℕ) (spec : ChannelSpec) → slice_get old.specs id ≡ Some spec → posts_on leg from lists spec ≡ false
      → (slice_index new.lengths id ≡ slice_index old.lengths id) × (buffer_of new id ≡ buffer_of old id)
