-- Lists that are pushed one element after another.
use Rattle.std.proofs.Common.{◌≡◌, ◌<◌, ◌≤◌, ◌+◌, ◌⊎◌, ℕ, List, [], ◌∷◌, ◌++◌, length, get_or, refl, sym, subst, inl, inr, arith, length-append}
use Rattle.std.specs.List.{All}
use Rattle.std.proofs.lemmas.Bool.{cases_lt}
use Rattle.std.proofs.lemmas.List.{get_or_push, get_or_append_left}

-- there are so many elements, and each fits its place
pub record AreFirst {X : Type 0} (Fits : ℕ → X → Type 0) (n : ℕ) (xs : List X) : Type 0 where
  pub long : length xs ≡ n
  pub fit : (k : ℕ) (d : X) → k < n → Fits k (get_or xs k d)

module _ {X : Type 0} (Fits : ℕ → X → Type 0) where
  pub AreFirst-none : AreFirst Fits 0 []
  AreFirst-none = record { long = refl; fit = λ k d h. absurd (omega arith) }

  -- one more element that fits
  pub AreFirst-push : (n : ℕ) (xs : List X) (x : X) → AreFirst Fits n xs → Fits n x → AreFirst Fits (n + 1) (xs ++ x ∷ [])
  AreFirst-push n xs x first fits = record {
    long = omega (arith, first.long, length-append xs (x ∷ []));
    fit = λ k d h. each k d h (cases_lt k n);
  }
    where
      each : (k : ℕ) (d : X) → k < n + 1 → (k < n) ⊎ (n ≤ k) → Fits k (get_or (xs ++ x ∷ []) k d)
      each k d h (inl below) =
          let within : k < length xs = omega (arith, first.long) in
          subst (Fits k) (sym (get_or_append_left xs (x ∷ []) d k within)) (first.fit k d below)
      each k d h (inr above) =
          let last : k ≡ n = omega arith in
          subst (λ i. Fits i (get_or (xs ++ x ∷ []) i d)) (sym last) (subst (Fits n) (sym (get_or_push xs x d n first.long)) fits)

  -- what fits has a property
  pub AreFirst-All : (P : X → Type 0) (n : ℕ) (xs : List X) → AreFirst Fits n xs → ((k : ℕ) (x : X) → Fits k x → P x) → All P xs
  AreFirst-All P n xs first fitting = λ k d h. let below : k < n = omega (arith, first.long) in fitting k (get_or xs k d) (first.fit k d below)
