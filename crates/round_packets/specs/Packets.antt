-- A packet before it is written, the bytes that are sent of it, and what these carry.
use Rattle.std.specs.Prelude.{◌≡◌, ℕ, ◌==◌, Bool, ◌&&◌, ◌||◌, if◌then◌else◌, List, [], ◌∷◌, length, map, slice_index, Option, Some, None, All}
use Rattle.list_laws.specs.Among.{is_among}
use Rattle.list_laws.specs.Members.{members_from}
use Rattle.field_encodings.specs.Lengths.{greatest_of, sent_tag}
use Rattle.field_encodings.specs.Forms.{form, IsForm}

-- the ids of a list, which of them are updated, and the value of each
pub record Packet (X : Type 0) : Type 0 where
  pub ids : List ℕ
  pub updated : ℕ → Bool
  pub value : ℕ → X

-- a mark for each position of the list: whether it is updated
abbrev pub marks_of : {X : Type 0} → Packet X → List Bool
marks_of packet = map packet.updated packet.ids

-- the tag of the form in which a packet is sent, which is the shortest, for values of so many bytes
abbrev pub tag_of : {X : Type 0} → (size : ℕ) → Packet X → ℕ
tag_of size packet =
    sent_tag (length packet.ids) (length (members_from 0 (marks_of packet))) (greatest_of (members_from 0 (marks_of packet))) size

-- the bytes that are sent
abbrev pub bytes_of_packet : {X : Type 0} → (size : ℕ) → (X → List ℕ) → Packet X → List ℕ
bytes_of_packet size bytes_of packet =
    form bytes_of (tag_of size packet) packet.ids (marks_of packet) (map packet.value packet.ids)

-- some bytes are a packet in the form in which it is sent
abbrev pub IsFormOf : {X : Type 0} → (X → Type 0) → (X → List ℕ) → (size : ℕ) → Packet X → List ℕ → Type 0
IsFormOf IsValue bytes_of size packet bytes =
    IsForm IsValue bytes_of packet.ids bytes (tag_of size packet) (marks_of packet) (map packet.value packet.ids)

-- whether an entry of the form that is sent is for a vertex: the form of tag 0 has one for each of the
-- list, the others have one for each that is updated
abbrev pub carries : {X : Type 0} → (size : ℕ) → Packet X → ℕ → Bool
carries size packet v = is_among packet.ids v && (tag_of size packet == 0 || packet.updated v)

-- the value that a packet has for a vertex, where it carries it
abbrev pub carried_value : {X : Type 0} → (size : ℕ) → Packet X → ℕ → Option X
carried_value size packet v = if carries size packet v then Some (packet.value v) else None

-- the value of the first entry for a vertex, where entries are for positions in a list of ids
abbrev pub value_for : {X : Type 0} → List ℕ → List (ℕ × X) → ℕ → Option X
value_for ids [] v = None
value_for ids (entry ∷ rest) v = if slice_index ids entry.0 == v then Some entry.1 else value_for ids rest v

-- two packets agree: on their list, and there on what is updated and on all values
pub record Agree {X : Type 0} (packet other : Packet X) : Type 0 where
  pub ids : packet.ids ≡ other.ids
  pub updated : All (λ v. packet.updated v ≡ other.updated v) packet.ids
  pub values : All (λ v. packet.value v ≡ other.value v) packet.ids
