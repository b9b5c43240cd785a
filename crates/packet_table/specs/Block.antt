-- How the buffers of channels lie in one block of bytes. No public clause speaks of it.
use Rattle.std.specs.Prelude.{◌≡◌, ℕ, ◌<◌, ◌≤◌, ◌^◌, Bool, List, [], ◌∷◌, length, sum, take, drop, slice_index}
use Rattle.list_laws.specs.Members.{count_of}
use Rattle.packet_table.specs.declared.channel_spec.ChannelSpec.{ChannelSpec}
use Rattle.packet_table.specs.Order.{Rise}
use Rattle.packet_table.specs.Table.{Table, rooms_of}

-- a block cut into parts of these lengths, from its front on
abbrev pub cut : List ℕ → List ℕ → List (List ℕ)
cut [] block = []
cut (room ∷ rooms) block = take room block ∷ cut rooms (drop room block)

-- where the part of this number starts
abbrev pub start_of : List ℕ → ℕ → ℕ
start_of rooms id = sum (take id rooms)

-- starts are where the parts start
pub record AreStarts (rooms starts : List ℕ) : Type 0 where
  pub as_many : length starts ≡ length rooms
  pub at : (id : ℕ) → id < length rooms → slice_index starts id ≡ start_of rooms id

-- what the fields of a table of channels stand for
abbrev pub table_of : List ChannelSpec → List Bool → List ℕ → List ℕ → Table
table_of specs flying lengths block = record { specs = specs; flying = flying; lengths = lengths; buffers = cut (rooms_of specs) block }

-- what holds of the fields of a table of channels
pub record IsLaidOut (specs : List ChannelSpec) (starts lengths block : List ℕ) (flying : List Bool) (flying_count : ℕ) : Type 0 where
  pub rise : Rise specs
  pub few : length specs < 2 ^ 32
  pub bounded : sum (rooms_of specs) < 2 ^ 63
  pub started : AreStarts (rooms_of specs) starts
  pub fills : length block ≡ sum (rooms_of specs)
  pub payloads : length lengths ≡ length specs
  pub fit : (id : ℕ) → slice_index lengths id ≤ slice_index (rooms_of specs) id
  pub flights : length flying ≡ length specs
  pub counted : flying_count ≡ count_of flying
