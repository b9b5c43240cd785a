-- What holds of the forms and the checks, whatever a word is: each form is read back, with a tag above
-- 0 entries have one form, and the table of lengths tells how long a form is.
use Rattle.std.specs.Prelude.{◌≡◌, ◌↔◌, ◌<◌, ◌^◌, ℕ, Bool, List, length, Ok}
use Rattle.std.specs.List.{All}
use Rattle.std.specs.List.Sorted.{IsStrictlyIncreasing}
use Rattle.list_laws.specs.Members.{members_from}
use Rattle.field_encodings.specs.Lengths.{form_length, greatest_of, IsSentTag, sent_tag}
use Rattle.field_encodings.specs.Forms.{IsForm, entries}
use Rattle.field_encodings.specs.Packets.{value_at, carried_value}
use Rattle.field_encodings.specs.Checks.{checked}

-- the global ids of a list: they rise, each is a number of four bytes, and so is their count
pub record AreIds (ids : List ℕ) : Type 0 where
  pub rise : IsStrictlyIncreasing ids
  pub fit : All (λ id. id < 2 ^ 32) ids
  pub few : length ids < 2 ^ 32

-- the checks pass a form, and find the entries from which it was made
abbrev pub FormsReadBack : {X : Type 0} → (size : ℕ) → (X → Type 0) → (X → List ℕ) → (List ℕ → X) → Type 0
FormsReadBack {X} size IsValue bytes_of value_of =
    (ids bytes : List ℕ) (tag : ℕ) (marks : List Bool) (values : List X) → AreIds ids → IsForm IsValue bytes_of ids bytes tag marks values
    → checked size value_of ids bytes ≡ Ok (entries tag marks values)

-- two forms of one tag above 0 that carry the same entries are the same bytes
abbrev pub EntriesHaveOneForm : {X : Type 0} → (X → Type 0) → (X → List ℕ) → Type 0
EntriesHaveOneForm {X} IsValue bytes_of =
    (ids bytes others : List ℕ) (tag : ℕ) (marks more_marks : List Bool) (values more_values : List X) → 0 < tag
    → IsForm IsValue bytes_of ids bytes tag marks values → IsForm IsValue bytes_of ids others tag more_marks more_values
    → entries tag marks values ≡ entries tag more_marks more_values → bytes ≡ others

-- a form is as long as the table of lengths says
abbrev pub FormsHaveTheirLength : {X : Type 0} → (size : ℕ) → (X → Type 0) → (X → List ℕ) → Type 0
FormsHaveTheirLength {X} size IsValue bytes_of =
    (ids bytes : List ℕ) (tag : ℕ) (marks : List Bool) (values : List X) → IsForm IsValue bytes_of ids bytes tag marks values
    → length bytes ≡ form_length (length ids) (length (members_from 0 marks)) (greatest_of (members_from 0 marks)) size tag

-- the tag of the shortest form is the sent tag, and there is no other
abbrev pub OneTagIsSent : Type 0
OneTagIsSent =
    (positions updated greatest size tag : ℕ) → IsSentTag positions updated greatest size tag ↔ (tag ≡ sent_tag positions updated greatest size)

-- the entries of a form have at each position the value that the form carries for it, and none else
abbrev pub EntriesAreCarried : (X : Type 0) → Type 0
EntriesAreCarried X =
    (tag position : ℕ) (marks : List Bool) (values : List X) → length values ≡ length marks
    → value_at (entries tag marks values) position ≡ carried_value tag marks values position
