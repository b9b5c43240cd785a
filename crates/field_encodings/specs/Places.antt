-- What is still to come of a payload that was checked: the positions that each kind of place gives.
use Rattle.std.specs.Prelude.{◌≡◌, ◌<◌, ◌≤◌, ◌⊎◌, ◌^◌, ℕ, ◌+◌, ◌*◌, List, length, map, drop}
use Rattle.std.specs.List.{range_with_len}
use Rattle.std.specs.List.Sorted.{IsStrictlyIncreasing}
use Rattle.field_encodings.specs.declared.places.Places.{Places}
use Rattle.field_encodings.specs.declared.places.Places.TheVariants.{All, Bits, Numbers, Ids}
use Rattle.list_laws.specs.LittleEndian.{numbers}
use Rattle.list_laws.specs.Members.{members_from}
use Rattle.list_laws.specs.Bits.{unpacked}
use Rattle.list_laws.specs.Rising.{Rises}
use Rattle.list_laws.specs.Among.{place_of, AllAmong}

-- a number of bytes that positions may take
abbrev pub IsPositionWidth : ℕ → Type 0
IsPositionWidth width = (width ≡ 1) ⊎ ((width ≡ 2) ⊎ (width ≡ 4))

-- the positions that are set in a bit vector, from one on
unfoldable pub set_from : List ℕ → ℕ → List ℕ
set_from bits next = members_from next (drop next (unpacked 8 bits))

-- rising numbers stand among these ids from a place on
pub record StandFrom (ids : List ℕ) (from : ℕ) (named : List ℕ) : Type 0 where
  -- the place is in the list, or its end
  pub within : from ≤ length ids
  -- the numbers rise
  pub rise : Rises 0 named
  -- each is one of the ids from there on
  pub known : AllAmong (drop from ids) named

-- the positions to come
abbrev pub coming : Places → List ℕ
coming (All next left) = range_with_len next left
coming (Bits bits next) = set_from bits.now next
coming (Numbers next count width text) = drop next (numbers width count text.now)
coming (Ids next count from text ids) = map (place_of ids.now) (drop next (numbers 4 count text.now))

-- the places can give them
abbrev pub AreReady : Places → Type 0
AreReady (All next left) = next + left < 2 ^ 32
AreReady (Bits bits next) = (next ≤ length bits.now * 8) × (length bits.now * 8 < 2 ^ 32)
AreReady (Numbers next count width text) = IsPositionWidth width × (count * width ≤ length text.now)
AreReady (Ids next count from text ids) =
    (count * 4 ≤ length text.now) × (length ids.now < 2 ^ 32) × IsStrictlyIncreasing ids.now × StandFrom ids.now from (drop next (numbers 4 count text.now))
