-- What the moves of bytes and counts in two calls, one after the other, come to together.
use Rattle.std.proofs.Common.{◌≡◌, ℕ, ◌+◌, ◌≤◌, List, [], ◌++◌, length, take, Option, Some, None, refl, arith, append_assoc, length-append}
use Rattle.std.proofs.Math.Seq.{take-append-add}
use Rattle.std.proofs.lemmas.Grind.{common_steps}
use Rattle.io_edge.specs.Faults.{Rose, IsQuiet, last_count, count_up}
use Rattle.io_edge.specs.Bytes.{Gives, Gains, GainsPrefix}

-- bytes given in two calls
pub Gives-++ : (a b c : Option (List ℕ)) (xs ys : List ℕ) → Gives a b xs → Gives b c ys → Gives a c (xs ++ ys)
Gives-++ a b None xs ys first second = cc
Gives-++ a b (Some rest) xs ys first second = let e = append_assoc xs ys rest in cc

-- no byte given
pub Gives-[] : (a : Option (List ℕ)) → Gives a a []
Gives-[] None = refl
Gives-[] (Some bytes) = refl

-- bytes given out of bytes that are told: what is left is told too
pub Gives-told : (bytes got : List ℕ) (b : Option (List ℕ)) → Gives (Some bytes) b got → (rest : List ℕ) × (b ≡ Some rest) × (bytes ≡ got ++ rest)
Gives-told bytes got None gives = let no : ⊥ = cc in absurd no
Gives-told bytes got (Some rest) gives = (rest, refl, cc)

-- bytes gained in two calls
pub Gains-++ : (a b c : Option (List ℕ)) (xs ys : List ℕ) → Gains a b xs → Gains b c ys → Gains a c (xs ++ ys)
Gains-++ None b c xs ys first second = cc
Gains-++ (Some held) b c xs ys first second = let e = append_assoc held xs ys in cc

-- no byte gained
pub Gains-[] : (a b : Option (List ℕ)) → b ≡ a → Gains a b []
Gains-[] None b same = same
Gains-[] (Some held) b same = grind (arith, common_steps)

-- nothing gained is a front of anything
pub GainsPrefix-none : (a b : Option (List ℕ)) (whole : List ℕ) → b ≡ a → GainsPrefix a b whole
GainsPrefix-none a b whole same = (0, omega arith, Gains-[] a b same)

-- all of the bytes are a front of them
pub GainsPrefix-all : (a b : Option (List ℕ)) (whole : List ℕ) → Gains a b whole → GainsPrefix a b whole
GainsPrefix-all a b whole gains = (length whole, omega arith, grind (arith, common_steps))

-- a front of the first bytes is a front of the first bytes and more
pub GainsPrefix-more : (a b : Option (List ℕ)) (xs ys : List ℕ) → GainsPrefix a b xs → GainsPrefix a b (xs ++ ys)
GainsPrefix-more a b xs ys (n, le, gains) = (n, omega (arith, length-append xs ys), grind (arith, common_steps))

-- the first bytes, and then a front of the next
pub GainsPrefix-++ : (a b c : Option (List ℕ)) (xs ys : List ℕ) → Gains a b xs → GainsPrefix b c ys → GainsPrefix a c (xs ++ ys)
GainsPrefix-++ a b c xs ys first (n, le, second) = (
  length xs + n,
  omega (arith, length-append xs ys),
  rw (take-append-add xs ys n) (Gains-++ a b c xs (take n ys) first second),
)

-- a count that stayed, and then rose
pub Rose-after : (a b c : ℕ) → b ≡ a → Rose b c → Rose a c
Rose-after a b c same rose = record { kept = omega arith; above = λ below. rw (← same) (rose.above (rw same below)); bounded = rose.bounded }

-- a count that rose, and then did not fall
pub Rose-before : (a b c : ℕ) → Rose a b → b ≤ c → c ≤ last_count → Rose a c
Rose-before a b c rose le bounded = record { kept = omega arith; above = λ below. let h = rose.above below in omega arith; bounded = bounded }

-- a count that is quiet did not rise
pub IsQuiet-Rose : (a b : ℕ) → IsQuiet a b → Rose a b → ⊥
IsQuiet-Rose a b quiet rose = let h = rose.above quiet.below in omega arith

-- a count that went one up rose
pub Rose-count_up : (a : ℕ) → a ≤ last_count → Rose a (count_up a)
Rose-count_up a bounded = record { kept = omega arith; above = λ below. omega arith; bounded = omega arith }
