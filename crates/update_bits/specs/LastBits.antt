-- The last bit of words of 64 bits that is set below a place.
use Rattle.std.specs.Prelude.{◌≡◌, ℕ, ◌/◌, ◌<◌, true, false, List, Option, MatchOption}
use Rattle.list_laws.specs.Bits.{bit_in}
use Rattle.std.specs.Int.{bit_at}

-- the highest bit of a number that is set
pub record IsHighestBit (number bit : ℕ) : Type 0 where
  pub below : bit < 64
  pub set : bit_at number bit ≡ 1
  pub above : (k : ℕ) → bit < k → bit_at number k ≡ 0

-- the last bit that is set, below bit i
pub record IsGreatestBit (words : List ℕ) (i m : ℕ) : Type 0 where
  pub set : bit_in words m ≡ true
  pub before : m < i
  pub last : (k : ℕ) → m < k → k < i → bit_in words k ≡ false

-- the last bit that is set, below bit i, or None exactly where there is none
abbrev pub IsLastBit : List ℕ → ℕ → Option ℕ → Type 0
IsLastBit words i last = MatchOption last ((k : ℕ) → k < i → bit_in words k ≡ false) (λ m. IsGreatestBit words i m)

-- the last bit of the word of bit i that is set, below bit i, or None exactly where there is none
abbrev pub IsLastInWord : List ℕ → ℕ → Option ℕ → Type 0
IsLastInWord words i last = MatchOption last ((k : ℕ) → k < i → k / 64 ≡ i / 64 → bit_in words k ≡ false) (λ m. IsGreatestBit words i m)
