-- How long each form is, which width positions take, and which form is the shortest.
use Rattle.std.specs.Prelude.{◌≡◌, ◌<◌, ◌≤◌, ℕ, zero, suc, ◌+◌, ◌*◌, ◌/◌, max, List, [], ◌∷◌, nat_lt, nat_le, nat_eq, ◌&&◌, if◌then◌else◌}

-- the greatest of some numbers, and 0 where there is none
abbrev pub greatest_of : List ℕ → ℕ
greatest_of [] = 0
greatest_of (x ∷ xs) = max x (greatest_of xs)

-- the bytes that hold a bit for each of so many positions
abbrev pub vector_length : ℕ → ℕ
vector_length positions = (positions + 7) / 8

-- the least of 1, 2 and 4 bytes that hold a number
unfoldable pub width_for : ℕ → ℕ
width_for number = if nat_lt number 256 then 1 else (if nat_lt number 65536 then 2 else 4)

-- the length of the form of a tag, for a list of so many positions of which so many are updated, the
-- greatest of them being given, and values of so many bytes
abbrev pub form_length : (positions updated greatest size tag : ℕ) → ℕ
form_length positions updated greatest size zero = 1 + positions * size
form_length positions updated greatest size (suc zero) = 1 + vector_length positions + updated * size
form_length positions updated greatest size (suc (suc zero)) = 2 + updated * (width_for greatest + size)
form_length positions updated greatest size (suc (suc (suc more))) = 1 + updated * (4 + size)

-- no form is shorter than that of the tag, and each of a smaller tag is longer
pub record IsShortest (length_of : ℕ → ℕ) (tag : ℕ) : Type 0 where
  pub is_tag : tag ≤ 3
  pub least : (other : ℕ) → other ≤ 3 → length_of tag ≤ length_of other
  pub first : (other : ℕ) → other < tag → length_of tag < length_of other

-- the tag that is sent: that of the shortest form, and 3 for the empty list
pub record IsSentTag (positions updated greatest size tag : ℕ) : Type 0 where
  pub shortest : 0 < positions → IsShortest (form_length positions updated greatest size) tag
  pub empty : positions ≡ 0 → tag ≡ 3

-- the first of the tags 0 to 3 whose length no other is below
abbrev pub shortest_tag : (ℕ → ℕ) → ℕ
shortest_tag length_of =
    if nat_le (length_of 0) (length_of 1) && (nat_le (length_of 0) (length_of 2) && nat_le (length_of 0) (length_of 3)) then 0
    else (if nat_le (length_of 1) (length_of 2) && nat_le (length_of 1) (length_of 3) then 1
    else (if nat_le (length_of 2) (length_of 3) then 2 else 3))

-- the tag that is sent, as a number: that of the shortest form, and 3 for the empty list
unfoldable pub sent_tag : (positions updated greatest size : ℕ) → ℕ
sent_tag positions updated greatest size =
    if nat_eq positions 0 then 3 else shortest_tag (form_length positions updated greatest size)

-- the lengths of the forms of tags 0 to 3
abbrev pub lengths_of : (positions updated greatest size : ℕ) → List ℕ
lengths_of positions updated greatest size =
    form_length positions updated greatest size 0 ∷ form_length positions updated greatest size 1
    ∷ form_length positions updated greatest size 2 ∷ form_length positions updated greatest size 3 ∷ []
