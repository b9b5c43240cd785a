-- A front of what a source has left, and what follows it.
use Rattle.std.proofs.Common.{◌≡◌, ℕ, ◌+◌, ◌≤◌, List, ◌++◌, length, take, drop, min, arith, ◌∙◌, length-take}
use Rattle.std.proofs.lemmas.List.{take-append-drop, drop-drop, take-take}

-- a front of what follows the first `at`, and what follows that front
pub take-drop-rest : (xs got : List ℕ) (at n : ℕ) → got ≡ take n (drop at xs) → got ++ drop (at + n) xs ≡ drop at xs
take-drop-rest xs got at n is = rw (is, ← drop-drop n at xs) (take-append-drop n (drop at xs))

-- the same where the front is taken of a part that is long enough
pub take-part-rest : (xs got : List ℕ) (at n k m : ℕ) → n ≡ min m (length (take k (drop at xs))) → got ≡ take n (take k (drop at xs)) → got ++ drop (at + n) xs ≡ drop at xs
take-part-rest xs got at n k m count is =
    let short : n ≤ k = omega (arith, length-take k (drop at xs)) in
    take-drop-rest xs got at n (is ∙ take-take n k (drop at xs) short)
