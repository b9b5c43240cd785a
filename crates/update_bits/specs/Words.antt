-- A set of numbers below a length as words of 64 bits: number i is bit i mod 64 of word i / 64. Marks say,
-- one bit a word, which words may have a bit that is set.
use Rattle.std.specs.Prelude.{◌≡◌, ℕ, ◌+◌, ◌*◌, ◌/◌, ◌^◌, ◌<◌, ◌≤◌, Bool, false, List, length, take, slice_index, Option, MatchOption, true}
use Rattle.list_laws.specs.Bits.{unpacked, bit_in}
use Rattle.list_laws.specs.Members.{count_of}

-- the set that the words hold
abbrev pub set_in : (count : ℕ) (words : List ℕ) → List Bool
set_in count words = take count (unpacked 64 words)

-- the words are as many as the numbers below `count` need, and no bit past these is set
pub record AreWords (count : ℕ) (words : List ℕ) : Type 0 where
  pub short : count < 2 ^ 32
  pub enough : length words ≡ (count + 63) / 64
  pub spare : (i : ℕ) → count ≤ i → bit_in words i ≡ false

-- the marks have a bit for each word, and where it is not set no bit of the word is
pub record AreMarks (words marks : List ℕ) : Type 0 where
  pub places : AreWords (length words) marks
  pub marked : (k : ℕ) → bit_in marks (k / 64) ≡ false → bit_in words k ≡ false

-- one number for each word of the set: how many members the words before it hold
pub record AreCountsBefore (bits : List Bool) (before : List ℕ) : Type 0 where
  pub each : length before ≡ (length bits + 63) / 64
  pub counts : (w : ℕ) → w < length before → slice_index before w ≡ count_of (take (w * 64) bits)

-- the bits from `start` up to, but not including, `end` were cleared, and the others stay
pub record AreClearedBetween (old new : List ℕ) (start end : ℕ) : Type 0 where
  pub cleared : (k : ℕ) → start ≤ k → k < end → bit_in new k ≡ false
  pub before : (k : ℕ) → k < start → bit_in new k ≡ bit_in old k
  pub behind : (k : ℕ) → end ≤ k → bit_in new k ≡ bit_in old k

-- the first bit that is set, from bit i on
pub record IsFirstBit (words : List ℕ) (i m : ℕ) : Type 0 where
  pub set : bit_in words m ≡ true
  pub since : i ≤ m
  pub first : (k : ℕ) → i ≤ k → k < m → bit_in words k ≡ false

-- the first bit that is set, from bit i on, or None exactly where there is none
abbrev pub IsNextBit : List ℕ → ℕ → Option ℕ → Type 0
IsNextBit words i next = MatchOption next ((k : ℕ) → i ≤ k → bit_in words k ≡ false) (λ m. IsFirstBit words i m)

-- the first bit of the word of bit i that is set, from bit i on, or None exactly where there is none
abbrev pub IsNextInWord : List ℕ → ℕ → Option ℕ → Type 0
IsNextInWord words i next = MatchOption next ((k : ℕ) → i ≤ k → k / 64 ≡ i / 64 → bit_in words k ≡ false) (λ m. IsFirstBit words i m)
