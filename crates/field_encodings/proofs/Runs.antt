-- Numbers in a row: how a list that rises is told to be one.
use Rattle.std.proofs.Common.{◌≡◌, ◌<◌, ◌≤◌, ◌+◌, ◌-◌, ℕ, suc, List, [], ◌∷◌, length, get_or, refl, ap, ◌∙◌, arith}
use Rattle.std.specs.List.{range_with_len}
use Rattle.std.specs.List.Sorted.{IsStrictlyIncreasing}
use Rattle.std.proofs.lemmas.List.FromFn.{get_or-range_with_len}
use Rattle.list_laws.specs.Rising.{Rises}
use Rattle.list_laws.proofs.Rising.{Rises-from_increasing}

-- the last number is at least as far above the first as there are numbers behind that
last_above : (x : ℕ) (xs : List ℕ) → Rises (x + 1) xs → x + length xs ≤ get_or (x ∷ xs) (length xs) 0
last_above x [] r = omega arith
last_above x (y ∷ ys) r = let rest : y + length ys ≤ get_or (y ∷ ys) (length ys) 0 = last_above y ys r.1 in omega (arith, r.0)

-- where it is no further, each number follows on the one before
row_from : (x : ℕ) (xs : List ℕ) → Rises (x + 1) xs → get_or (x ∷ xs) (length xs) 0 ≡ x + length xs → x ∷ xs ≡ range_with_len x (suc (length xs))
row_from x [] r e = refl
row_from x (y ∷ ys) r e =
    let above : y + length ys ≤ get_or (y ∷ ys) (length ys) 0 = last_above y ys r.1 in
    let last : get_or (y ∷ ys) (length ys) 0 ≡ x + suc (length ys) = e in
    let next : y ≡ x + 1 = omega (arith, r.0) in
    let rest : y ∷ ys ≡ range_with_len y (suc (length ys)) = row_from y ys r.1 (omega arith) in
    ap (λ l. x ∷ l) (rest ∙ ap (λ n. range_with_len n (suc (length ys))) next)

-- the first is at most the last
pub first_last : (xs : List ℕ) → IsStrictlyIncreasing xs → 0 < length xs → get_or xs 0 0 ≤ get_or xs (length xs - 1) 0
first_last [] rise some = absurd (omega arith)
first_last (x ∷ xs) rise some =
    let rises : Rises 0 (x ∷ xs) = Rises-from_increasing 0 (x ∷ xs) rise (λ some. omega arith) in
    let above : x + length xs ≤ get_or (x ∷ xs) (length xs) 0 = last_above x xs rises.1 in
    let place : suc (length xs) - 1 ≡ length xs = omega arith in
    rw place (omega arith)

-- their difference tells a row
pub row_of : (xs : List ℕ) → IsStrictlyIncreasing xs → 0 < length xs → get_or xs (length xs - 1) 0 - get_or xs 0 0 ≡ length xs - 1 → xs ≡ range_with_len (get_or xs 0 0) (length xs)
row_of [] rise some e = absurd (omega arith)
row_of (x ∷ xs) rise some e =
    let rises : Rises 0 (x ∷ xs) = Rises-from_increasing 0 (x ∷ xs) rise (λ some. omega arith) in
    let above : x + length xs ≤ get_or (x ∷ xs) (length xs) 0 = last_above x xs rises.1 in
    let place : suc (length xs) - 1 ≡ length xs = omega arith in
    let apart : get_or (x ∷ xs) (length xs) 0 - x ≡ length xs = rw place at e in
    row_from x xs rises.1 (omega arith)

-- the last number of a row
pub row_last : (xs : List ℕ) (first : ℕ) → xs ≡ range_with_len first (length xs) → 0 < length xs → get_or xs (length xs - 1) 0 ≡ first + (length xs - 1)
row_last xs first row some = ap (λ l. get_or l (length xs - 1) 0) row ∙ get_or-range_with_len first (length xs) (length xs - 1) 0 (omega arith)
