-- Numbers in a row.
use Rattle.std.proofs.Common.{◌≡◌, ℕ, zero, suc, ◌+◌, ◌≤◌, ◌∷◌, map, refl, ap, ◌∙◌, arith}
use Rattle.std.specs.List.{range_with_len}

-- two functions that agree from a number on agree on the numbers from it on
pub map-range_same : (f g : ℕ → ℕ) (a k : ℕ) → ((v : ℕ) → a ≤ v → f v ≡ g v) → map f (range_with_len a k) ≡ map g (range_with_len a k)
map-range_same f g a zero same = refl
map-range_same f g a (suc k) same =
    let others = map-range_same f g (a + 1) k (λ v h. same v (omega arith)) in
    ap (λ n. n ∷ map f (range_with_len (a + 1) k)) (same a (omega arith)) ∙ ap (λ l. g a ∷ l) others
