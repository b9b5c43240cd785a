-- What a list of proxies shows of fields and sets that are kept by local number: the marks of its
-- positions, and their values.
use Rattle.std.specs.Prelude.{◌≡◌, ◌<◌, ◌^◌, ℕ, Bool, List, length, map, slice_get}
use Rattle.std.specs.List.{All, filter_map}
use Rattle.std.specs.List.Sorted.{IsStrictlyIncreasing}
use Rattle.list_laws.specs.Members.{has_member}

-- a mark for each position: whether the set holds the local number there
abbrev pub marks_at : (bits : List Bool) (locals : List ℕ) → List Bool
marks_at bits locals = map (has_member bits) locals

-- a value for each position: what the field has at the local number there
abbrev pub values_at : {X : Type 0} → (values : List X) (locals : List ℕ) → List X
values_at values locals = filter_map (slice_get values) locals

-- a field, a set and a list that go together
pub record IsSource {X : Type 0} (values : List X) (locals ids : List ℕ) (bits : List Bool) : Type 0 where
  -- the list has a global id for each local number
  pub one_length : length locals ≡ length ids
  -- its positions are numbers of four bytes
  pub short : length locals < 2 ^ 32
  -- its local numbers rise
  pub rise : IsStrictlyIncreasing locals
  -- the field has a value at each of them
  pub has_values : All (λ local. local < length values) locals
  -- the set is over each of them
  pub has_bits : All (λ local. local < length bits) locals
