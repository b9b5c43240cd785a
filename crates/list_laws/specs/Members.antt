-- Sets of numbers below a length, each as the list of that length which is true exactly at the members.
use Rattle.std.specs.Prelude.{◌≡◌, ◌≤◌, ◌<◌, ◌+◌, ℕ, Bool, true, false, cond, List, [], ◌∷◌, length, replicate, slice_set, fold, Option, MatchOption}
use Rattle.std.specs.List.{slice_index_or}

-- whether i is a member; no number from the length on is one
abbrev pub has_member : List Bool → ℕ → Bool
has_member bits i = slice_index_or bits i false

-- i is a member
abbrev pub IsMember : List Bool → ℕ → Type 0
IsMember bits i = has_member bits i ≡ true

-- no number below n is a member
abbrev pub no_members : ℕ → List Bool
no_members n = replicate n false

-- each number below n is a member
abbrev pub all_members : ℕ → List Bool
all_members n = replicate n true

-- the same set with i in it
abbrev pub with_member : List Bool → ℕ → List Bool
with_member bits i = slice_set bits i true

-- the same set with i out of it
abbrev pub without_member : List Bool → ℕ → List Bool
without_member bits i = slice_set bits i false

-- the places that are true, rising, where the first place has the number i
abbrev pub members_from : ℕ → List Bool → List ℕ
members_from i [] = []
members_from i (b ∷ bits) = cond b (i ∷ members_from (i + 1) bits) (members_from (i + 1) bits)

-- the members, rising
abbrev pub members : List Bool → List ℕ
members bits = members_from 0 bits

-- how many members there are
abbrev pub count_of : List Bool → ℕ
count_of bits = length (members bits)

-- m is the least member that is at least i
pub record IsLeastMemberSince (bits : List Bool) (i m : ℕ) : Type 0 where
  -- it is a member
  pub member : IsMember bits m
  -- it is no smaller than i
  pub since : i ≤ m
  -- no member lies between
  pub least : (k : ℕ) → i ≤ k → k < m → has_member bits k ≡ false

-- no member is at least i
abbrev pub HasNoMemberSince : List Bool → ℕ → Type 0
HasNoMemberSince bits i = (k : ℕ) → i ≤ k → has_member bits k ≡ false

-- the least member that is at least i, or None exactly where there is none
abbrev pub IsNextMember : List Bool → ℕ → Option ℕ → Type 0
IsNextMember bits i next = MatchOption next (HasNoMemberSince bits i) (λ m. IsLeastMemberSince bits i m)

-- the same set without each of these numbers
abbrev pub without_all : List Bool → List ℕ → List Bool
without_all bits numbers = fold without_member bits numbers
