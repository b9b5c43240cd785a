-- The member of a set that comes last before a number.
use Rattle.std.specs.Prelude.{◌≡◌, ◌<◌, ℕ, Bool, false, List, Option, MatchOption}
use Rattle.list_laws.specs.Members.{has_member, IsMember}

-- m is the greatest member below i
pub record IsGreatestMemberBefore (bits : List Bool) (i m : ℕ) : Type 0 where
  -- it is a member
  pub member : IsMember bits m
  -- it is below i
  pub before : m < i
  -- no member lies between
  pub greatest : (k : ℕ) → m < k → k < i → has_member bits k ≡ false

-- no member is below i
abbrev pub HasNoMemberBefore : List Bool → ℕ → Type 0
HasNoMemberBefore bits i = (k : ℕ) → k < i → has_member bits k ≡ false

-- the greatest member below i, or None exactly where there is none
abbrev pub IsLastMember : List Bool → ℕ → Option ℕ → Type 0
IsLastMember bits i last = MatchOption last (HasNoMemberBefore bits i) (λ m. IsGreatestMemberBefore bits i m)
