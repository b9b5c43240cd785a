-- Laws of lists that rise.
use Rattle.std.proofs.Common.{◌<◌, ◌≤◌, ℕ, zero, suc, ◌+◌, List, [], ◌∷◌, ◌++◌, length, get_or, replicate, arith, add-one}
use Rattle.std.specs.List.{range_with_len}
use Rattle.std.specs.List.Sorted.{IsStrictlyIncreasing}
use Rattle.list_laws.specs.Rising.{Climbs, Rises, NeverFalls}

-- from a lower bound too
pub Climbs-lower : (after : ℕ → ℕ) (low high : ℕ) (xs : List ℕ) → low ≤ high → Climbs after high xs → Climbs after low xs
Climbs-lower after low high [] l h = tt
Climbs-lower after low high (x ∷ xs) l h = (omega (arith, h.0), h.1)

pub Rises-lower : (low high : ℕ) (xs : List ℕ) → low ≤ high → Rises high xs → Rises low xs
Rises-lower low high xs l h = Climbs-lower (λ x. x + 1) low high xs l h

pub NeverFalls-lower : (low high : ℕ) (xs : List ℕ) → low ≤ high → NeverFalls high xs → NeverFalls low xs
NeverFalls-lower low high xs l h = Climbs-lower (λ x. x) low high xs l h

-- what rises strictly does not fall
pub NeverFalls-from_rises : (low : ℕ) (xs : List ℕ) → Rises low xs → NeverFalls low xs
NeverFalls-from_rises low [] h = tt
NeverFalls-from_rises low (x ∷ xs) h =
    (h.0, NeverFalls-from_rises x xs (Rises-lower x (x + 1) xs (omega arith) h.1))

-- the same number again and again before those that do not fall from it on
pub NeverFalls-replicate : (x count : ℕ) (xs : List ℕ) → NeverFalls x xs → NeverFalls x (replicate count x ++ xs)
NeverFalls-replicate x zero xs h = h
NeverFalls-replicate x (suc count) xs h = (omega arith, NeverFalls-replicate x count xs h)

tail_increases : (x : ℕ) (xs : List ℕ) → IsStrictlyIncreasing (x ∷ xs) → IsStrictlyIncreasing xs
tail_increases x xs h k l = let later : get_or xs k 0 < get_or xs (suc k) 0 = rw add-one at (h (suc k) (omega arith)) in rw add-one later

tail_above : (x : ℕ) (xs : List ℕ) → IsStrictlyIncreasing (x ∷ xs) → (0 < length xs → x < get_or xs 0 0)
tail_above x xs h l = h 0 (omega arith)

pub Rises-from_increasing : (low : ℕ) (xs : List ℕ) → IsStrictlyIncreasing xs → (0 < length xs → low ≤ get_or xs 0 0) → Rises low xs
Rises-from_increasing low [] h l = tt
Rises-from_increasing low (x ∷ xs) h l =
    (l (omega arith), Rises-from_increasing (x + 1) xs (tail_increases x xs h) (λ some. let above : x < get_or xs 0 0 = tail_above x xs h some in omega arith))

-- ---- by place

-- the element at a place is at least low
pub at_least : (low : ℕ) (xs : List ℕ) (i : ℕ) → Rises low xs → i < length xs → low ≤ get_or xs i 0
at_least low [] i r l = absurd (omega arith)
at_least low (x ∷ xs) zero r l = r.0
at_least low (x ∷ xs) (suc i) r l = let rest : x + 1 ≤ get_or xs i 0 = at_least (x + 1) xs i r.1 (omega arith) in omega (arith, r.0)

-- a later place has no lesser number
pub in_order : (low : ℕ) (xs : List ℕ) (i j : ℕ) → Rises low xs → i ≤ j → j < length xs → get_or xs i 0 ≤ get_or xs j 0
in_order low [] i j r l h = absurd (omega arith)
in_order low (x ∷ xs) zero zero r l h = omega arith
in_order low (x ∷ xs) zero (suc j) r l h = let rest : x + 1 ≤ get_or xs j 0 = at_least (x + 1) xs j r.1 (omega arith) in omega arith
in_order low (x ∷ xs) (suc i) zero r l h = absurd (omega arith)
in_order low (x ∷ xs) (suc i) (suc j) r l h = in_order (x + 1) xs i j r.1 (omega arith) (omega arith)

-- ---- numbers in a row

pub Rises-range : (first count : ℕ) → Rises first (range_with_len first count)
Rises-range first zero = tt
Rises-range first (suc count) = (omega arith, Rises-range (first + 1) count)
