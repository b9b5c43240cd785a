-- How many elements of a list pass a test.
use Rattle.std.proofs.Common.{◌≡◌, ℕ, zero, suc, ◌+◌, ◌<◌, ◌≤◌, Bool, true, false, cond, List, [], ◌∷◌, length, count_by, Some, slice_get, refl, ap, arith}
use Rattle.std.proofs.lemmas.List.Sums.{sum_by-cons}

module _ {X : Type 0} where
  -- the first counts where it passes
  pub count-cons : (p : X → Bool) (x : X) (xs : List X) → count_by p (x ∷ xs) ≡ cond (p x) 1 0 + count_by p xs
  count-cons p x xs = sum_by-cons (λ y. cond (p y) 1 0) x xs

  -- none pass
  pub count_none : (p : X → Bool) → ((x : X) → p x ≡ false) → (xs : List X) → count_by p xs ≡ 0
  count_none p none [] = refl
  count_none p none (x ∷ xs) = omega (arith, count-cons p x xs, ap {B = ℕ} (λ b. cond b 1 0) (none x), count_none p none xs)

  -- as many pass as stand in front, where these do and no others
  pub count_front : (p : X → Bool) (xs : List X) (i : ℕ) → i ≤ length xs
      → ((k : ℕ) (x : X) → k < i → slice_get xs k ≡ Some x → p x ≡ true)
      → ((k : ℕ) (x : X) → i ≤ k → slice_get xs k ≡ Some x → p x ≡ false)
      → count_by p xs ≡ i
  count_front p [] i within passes fails = omega arith
  count_front p (x ∷ xs) zero within passes fails =
      let here = fails 0 x (omega arith) refl in
      let rest = count_front p xs 0 (omega arith) (λ k y low at. absurd (omega arith)) (λ k y high at. fails (suc k) y (omega arith) at) in
      omega (arith, count-cons p x xs, ap {B = ℕ} (λ b. cond b 1 0) here, rest)
  count_front p (x ∷ xs) (suc i) within passes fails =
      let here = passes 0 x (omega arith) refl in
      let rest = count_front p xs i (omega arith) (λ k y low at. passes (suc k) y (omega arith) at) (λ k y high at. fails (suc k) y (omega arith) at) in
      omega (arith, count-cons p x xs, ap {B = ℕ} (λ b. cond b 1 0) here, rest)

  -- what passes one of two tests that exclude each other
  pub count_split : (p q either : X → Bool) → ((x : X) → cond (either x) 1 0 ≡ cond {A = ℕ} (p x) 1 0 + cond (q x) 1 0) → (xs : List X) → count_by either xs ≡ count_by p xs + count_by q xs
  count_split p q either splits [] = refl
  count_split p q either splits (x ∷ xs) =
      omega (arith, count-cons p x xs, count-cons q x xs, count-cons either x xs, splits x, count_split p q either splits xs)

  -- a weaker test passes no fewer
  pub count_more : (p q : X → Bool) → ((x : X) → cond {A = ℕ} (p x) 1 0 ≤ cond (q x) 1 0) → (xs : List X) → count_by p xs ≤ count_by q xs
  count_more p q weaker [] = omega arith
  count_more p q weaker (x ∷ xs) = omega (arith, count-cons p x xs, count-cons q x xs, weaker x, count_more p q weaker xs)

  -- one counts once at most
  count-cons-le : (p : X → Bool) (x : X) (xs : List X) → count_by p (x ∷ xs) ≤ 1 + count_by p xs
  count-cons-le p x xs = omega (arith, count-cons p x xs, once (p x))
    where
      once : (b : Bool) → cond {A = ℕ} b 1 0 ≤ 1
      once true = omega arith
      once false = omega arith

  -- no more pass than stand before a place from which on none does
  pub count_le : (p : X → Bool) (xs : List X) (i : ℕ) → ((k : ℕ) (x : X) → i ≤ k → slice_get xs k ≡ Some x → p x ≡ false) → count_by p xs ≤ i
  count_le p [] i fails = omega arith
  count_le p (x ∷ xs) zero fails =
      let rest = count_le p xs 0 (λ k y high at. fails (suc k) y (omega arith) at) in
      omega (arith, count-cons p x xs, ap {B = ℕ} (λ b. cond b 1 0) (fails 0 x (omega arith) refl), rest)
  count_le p (x ∷ xs) (suc i) fails =
      let rest = count_le p xs i (λ k y high at. fails (suc k) y (omega arith) at) in
      omega (arith, count-cons-le p x xs, rest)

  -- no fewer pass than stand before a place up to which all do
  pub le_count : (p : X → Bool) (xs : List X) (i : ℕ) → i ≤ length xs → ((k : ℕ) (x : X) → k < i → slice_get xs k ≡ Some x → p x ≡ true) → i ≤ count_by p xs
  le_count p xs zero within passes = omega arith
  le_count p [] (suc i) within passes = absurd (omega arith)
  le_count p (x ∷ xs) (suc i) within passes =
      let rest = le_count p xs i (omega arith) (λ k y low at. passes (suc k) y (omega arith) at) in
      omega (arith, count-cons p x xs, ap {B = ℕ} (λ b. cond b 1 0) (passes 0 x (omega arith) refl), rest)
