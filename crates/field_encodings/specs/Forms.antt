-- The four forms of a packet as whole lists of bytes, and the entries that a form carries. A list has
-- its global ids, a mark for each position, true where it is updated, and a value for each position.
use Rattle.std.specs.Prelude.{◌≡◌, ◌≤◌, ℕ, zero, suc, Bool, List, [], ◌∷◌, ◌++◌, length}
use Rattle.std.specs.List.{flat_map, zip, All, range_with_len, items_where_true}
use Rattle.list_laws.specs.LittleEndian.{le_bytes}
use Rattle.list_laws.specs.Members.{members_from}
use Rattle.list_laws.specs.Bits.{packed}
use Rattle.field_encodings.specs.Lengths.{width_for, greatest_of, vector_length}

-- the marks as a bit vector: position i is bit i mod 8 of byte i / 8
abbrev pub bit_vector : List Bool → List ℕ
bit_vector marks = packed 8 (vector_length (length marks)) marks

-- rising positions behind the width that they are written in
abbrev pub position_text : List ℕ → List ℕ
position_text positions =
    width_for (greatest_of positions) ∷ flat_map (le_bytes (width_for (greatest_of positions))) positions

-- which positions a form carries, as it says so between the tag and the values: nothing for all of
-- them, a bit for each, the updated positions, or the global ids of these
unfoldable pub names : (tag : ℕ) → List ℕ → List Bool → List ℕ
names zero ids marks = []
names (suc zero) ids marks = bit_vector marks
names (suc (suc zero)) ids marks = position_text (members_from 0 marks)
names (suc (suc (suc more))) ids marks = flat_map (le_bytes 4) (items_where_true marks ids)

-- the positions that a form carries
abbrev pub carried : (tag : ℕ) → List Bool → List ℕ
carried zero marks = range_with_len 0 (length marks)
carried (suc more) marks = members_from 0 marks

-- the values that a form carries
abbrev pub sent : {X : Type 0} → (tag : ℕ) → List Bool → List X → List X
sent zero marks values = values
sent (suc more) marks values = items_where_true marks values

-- the form of a tag, for values whose bytes are given
abbrev pub form : {X : Type 0} → (X → List ℕ) → (tag : ℕ) → List ℕ → List Bool → List X → List ℕ
form bytes_of tag ids marks values = tag ∷ (names tag ids marks ++ flat_map bytes_of (sent tag marks values))

-- the entries that the form of a tag carries: positions with their values
abbrev pub entries : {X : Type 0} → (tag : ℕ) → List Bool → List X → List (ℕ × X)
entries tag marks values = zip (carried tag marks) (sent tag marks values)

-- the bytes are the form of a tag, some marks and some values for a list with these ids
pub record IsForm {X : Type 0} (IsValue : X → Type 0) (bytes_of : X → List ℕ) (ids : List ℕ) (bytes : List ℕ) (tag : ℕ) (marks : List Bool) (values : List X) : Type 0 where
  pub is_tag : tag ≤ 3
  pub mark_for_each : length marks ≡ length ids
  pub value_for_each : length values ≡ length ids
  pub are_values : All IsValue values
  pub whole : bytes ≡ form bytes_of tag ids marks values

-- a payload that is well formed for a list with these ids and carries these entries
abbrev pub IsWellFormed : {X : Type 0} → (X → Type 0) → (X → List ℕ) → List ℕ → List ℕ → List (ℕ × X) → Type 0
IsWellFormed {X} IsValue bytes_of ids bytes found =
    (tag : ℕ) × (marks : List Bool) × (values : List X) × IsForm IsValue bytes_of ids bytes tag marks values × (found ≡ entries tag marks values)
