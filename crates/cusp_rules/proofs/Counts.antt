-- How many elements of a list pass a test, told by where they stand.
use Rattle.std.proofs.Common.{◌≡◌, ℕ, zero, suc, ◌+◌, ◌<◌, ◌≤◌, Bool, true, false, cond, List, [], ◌∷◌, length, slice_index, count_by, refl, ap, arith}
use Rattle.std.proofs.lemmas.List.Sums.{sum_by-cons}

module _ (p : ℕ → Bool) where
  -- how many pass, where the first does not
  count_by-fails : (x : ℕ) (xs : List ℕ) → p x ≡ false → count_by p (x ∷ xs) ≡ count_by p xs
  count_by-fails x xs fails =
      let more = sum_by-cons (λ y. cond (p y) 1 0) x xs in
      omega (arith, more, ap {B = ℕ} (λ b. cond b 1 0) fails)

  -- how many pass, where the first does
  count_by-passes : (x : ℕ) (xs : List ℕ) → p x ≡ true → count_by p (x ∷ xs) ≡ 1 + count_by p xs
  count_by-passes x xs passes =
      let more = sum_by-cons (λ y. cond (p y) 1 0) x xs in
      omega (arith, more, ap {B = ℕ} (λ b. cond b 1 0) passes)

  -- the first counts once at most
  count_by-cons-le : (x : ℕ) (xs : List ℕ) → count_by p (x ∷ xs) ≤ 1 + count_by p xs
  count_by-cons-le x xs =
      elim (p x) as (λ b. p x ≡ b → count_by p (x ∷ xs) ≤ 1 + count_by p xs) [
        | true ↦ λ passes. omega (arith, count_by-passes x xs passes)
        | false ↦ λ fails. omega (arith, count_by-fails x xs fails)
      ] refl

  -- no more pass than stand before place k, where none from there on does
  pub count-le : (xs : List ℕ) (k : ℕ) → ((h : ℕ) → k ≤ h → h < length xs → p (slice_index xs h) ≡ false) → count_by p xs ≤ k
  count-le [] k fails = omega arith
  count-le (x ∷ xs) zero fails =
      let rest = count-le xs zero (λ h low within. fails (suc h) (omega arith) (omega arith)) in
      omega (arith, rest, count_by-fails x xs (fails zero (omega arith) (omega arith)))
  count-le (x ∷ xs) (suc k) fails =
      let rest = count-le xs k (λ h low within. fails (suc h) (omega arith) (omega arith)) in
      omega (arith, rest, count_by-cons-le x xs)

  -- no fewer pass than stand before place k, where all up to there do
  pub le-count : (xs : List ℕ) (k : ℕ) → k ≤ length xs → ((h : ℕ) → h < k → p (slice_index xs h) ≡ true) → k ≤ count_by p xs
  le-count xs zero within passes = omega arith
  le-count [] (suc k) within passes = absurd (omega arith)
  le-count (x ∷ xs) (suc k) within passes =
      let rest = le-count xs k (omega arith) (λ h lower. passes (suc h) (omega arith)) in
      omega (arith, rest, count_by-passes x xs (passes zero (omega arith)))
