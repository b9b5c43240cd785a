-- Numbers in a row, and what tests pick from them.
use Rattle.std.proofs.Common.{◌≡◌, ℕ, zero, suc, ◌+◌, ◌-◌, ◌<◌, ◌≤◌, true, false, Bool, cond, [], ◌∷◌, ◌++◌, refl, sym, ◌∙◌, ap, arith, append-nil}
use Rattle.std.specs.List.{filter, range_with_len}
use Rattle.std.proofs.lemmas.List.Elements.{filter-append}

-- one number more in a row
pub range_push : (first count last : ℕ) → first + count ≡ last → range_with_len first (count + 1) ≡ range_with_len first count ++ last ∷ []
range_push first zero last end = ap (λ x. x ∷ []) (let same : first ≡ last = omega arith in same)
range_push first (suc count) last end =
    let more : suc count + 1 ≡ suc (count + 1) = omega arith in
    ap (λ (n : ℕ). range_with_len first n) more ∙ ap (λ xs. first ∷ xs) (range_push (first + 1) count last (omega arith))

-- a range in two parts
pub range_parts : (first m n : ℕ) → range_with_len first (m + n) ≡ range_with_len first m ++ range_with_len (first + m) n
range_parts first zero n = ap (λ (k : ℕ). range_with_len first k) (let same : 0 + n ≡ n = omega arith in same) ∙ ap (λ (k : ℕ). range_with_len k n) (let same : first ≡ first + 0 = omega arith in same)
range_parts first (suc m) n =
    ap (λ (k : ℕ). range_with_len first k) (let same : suc m + n ≡ suc (m + n) = omega arith in same)
    ∙ ap (λ xs. first ∷ xs) (range_parts (first + 1) m n)
    ∙ ap (λ (k : ℕ). first ∷ (range_with_len (first + 1) m ++ range_with_len k n)) (let same : first + 1 + m ≡ first + suc m = omega arith in same)

-- ---- what tests pick

pub picked_same : (p q : ℕ → Bool) (first count : ℕ) → ((v : ℕ) → first ≤ v → v < first + count → p v ≡ q v) → filter p (range_with_len first count) ≡ filter q (range_with_len first count)
picked_same p q first zero same = refl
picked_same p q first (suc count) same =
    ap (λ b. cond b (first ∷ filter p (range_with_len (first + 1) count)) (filter p (range_with_len (first + 1) count))) (same first (omega arith) (omega arith))
    ∙ ap (λ xs. cond (q first) (first ∷ xs) xs) (picked_same p q (first + 1) count (λ v low high. same v (omega arith) (omega arith)))

pub picked_none : (p : ℕ → Bool) (first count : ℕ) → ((v : ℕ) → first ≤ v → v < first + count → p v ≡ false) → filter p (range_with_len first count) ≡ []
picked_none p first zero none = refl
picked_none p first (suc count) none =
    ap (λ b. cond b (first ∷ filter p (range_with_len (first + 1) count)) (filter p (range_with_len (first + 1) count))) (none first (omega arith) (omega arith))
    ∙ picked_none p (first + 1) count (λ v low high. none v (omega arith) (omega arith))

pub picked_all : (p : ℕ → Bool) (first count : ℕ) → ((v : ℕ) → first ≤ v → v < first + count → p v ≡ true) → filter p (range_with_len first count) ≡ range_with_len first count
picked_all p first zero all = refl
picked_all p first (suc count) all =
    ap (λ b. cond b (first ∷ filter p (range_with_len (first + 1) count)) (filter p (range_with_len (first + 1) count))) (all first (omega arith) (omega arith))
    ∙ ap (λ xs. first ∷ xs) (picked_all p (first + 1) count (λ v low high. all v (omega arith) (omega arith)))

-- a test that no number more passes picks nothing more
pub picked_no_more : (p : ℕ → Bool) (at next : ℕ) → at ≤ next → ((v : ℕ) → at ≤ v → v < next → p v ≡ false) → filter p (range_with_len 0 at) ≡ filter p (range_with_len 0 next)
picked_no_more p at next order none =
    let whole : next ≡ at + (next - at) = omega arith in
    let start : 0 + at ≡ at = omega arith in
    sym (
    ap (λ (n : ℕ). filter p (range_with_len 0 n)) whole
    ∙ ap (filter p) (range_parts 0 at (next - at))
    ∙ filter-append p (range_with_len 0 at) (range_with_len (0 + at) (next - at))
    ∙ ap (λ (k : ℕ). filter p (range_with_len 0 at) ++ filter p (range_with_len k (next - at))) start
    ∙ ap (λ xs. filter p (range_with_len 0 at) ++ xs) (picked_none p at (next - at) (λ v low high. none v low (omega arith)))
    ∙ append-nil (filter p (range_with_len 0 at)))
