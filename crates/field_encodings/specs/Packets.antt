-- A packet before it is written, the bytes that are sent for it, and what they carry.
use Rattle.std.specs.Prelude.{ℕ, ◌||◌, Bool, List, [], ◌∷◌, length, nat_eq, slice_get, if◌then◌else◌, Option, Some, None}
use Rattle.list_laws.specs.Members.{has_member, members}
use Rattle.field_encodings.specs.Lengths.{greatest_of, sent_tag}
use Rattle.field_encodings.specs.Lists.{marks_at, values_at}
use Rattle.field_encodings.specs.Forms.{form, entries}

-- the global ids of a list, a mark for each position that is true where it is updated, and a value for each
pub record Packet (X : Type 0) : Type 0 where
  pub ids : List ℕ
  pub marks : List Bool
  pub values : List X

-- the packet of a list, from a field and a set that are kept by local number
abbrev pub packet_at : {X : Type 0} → (values : List X) (locals ids : List ℕ) (bits : List Bool) → Packet X
packet_at values locals ids bits = record { ids = ids; marks = marks_at bits locals; values = values_at values locals }

-- the tag that is sent for it, with values of so many bytes
abbrev pub tag_of : {X : Type 0} → (size : ℕ) → Packet X → ℕ
tag_of size packet = sent_tag (length packet.ids) (length (members packet.marks)) (greatest_of (members packet.marks)) size

-- the bytes that are sent for it
abbrev pub bytes_of_packet : {X : Type 0} → (size : ℕ) → (X → List ℕ) → Packet X → List ℕ
bytes_of_packet size bytes_of packet = form bytes_of (tag_of size packet) packet.ids packet.marks packet.values

-- the entries that they carry
abbrev pub entries_of_packet : {X : Type 0} → (size : ℕ) → Packet X → List (ℕ × X)
entries_of_packet size packet = entries (tag_of size packet) packet.marks packet.values

-- the value of the first entry at a position
abbrev pub value_at : {X : Type 0} → List (ℕ × X) → ℕ → Option X
value_at [] position = None
value_at (entry ∷ rest) position = if nat_eq entry.0 position then Some entry.1 else value_at rest position

-- the value that a form of this tag carries for a position: with tag 0 for each, else for the marked ones
abbrev pub carried_value : {X : Type 0} → (tag : ℕ) → List Bool → List X → ℕ → Option X
carried_value tag marks values position = if nat_eq tag 0 || has_member marks position then slice_get values position else None
