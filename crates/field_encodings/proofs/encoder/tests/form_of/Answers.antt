use Rattle.std.proofs.Common.{◌≡◌, ◌≤◌, ◌<◌, ◌+◌, ◌*◌, ℕ, List, length, get_or, ap, ◌∙◌, arith}
use Rattle.std.specs.List.Sorted.{IsStrictlyIncreasing}
use Rattle.std.proofs.Math.Nat.{mul-le-mul_right}
use Rattle.std.proofs.lemmas.List.{get_or_default}
use Rattle.field_encodings.proofs.encoder.tests.form_of.Goals as goal

-- each of the first n multiples of a step is below the next multiple
below : (xs ys : List ℕ) (n step k d : ℕ) → ys ≡ xs → length ys ≡ n → 0 < step → ((i : ℕ) → i < n → get_or xs i 0 ≡ i * step) → k < length ys → get_or ys k d < n * step
below xs ys n step k d same long some each within =
    let inside : k < length xs = omega (arith, ap length same) in
    let at : get_or ys k d ≡ k * step = ap (λ zs. get_or zs k d) same ∙ get_or_default xs k d 0 inside ∙ each k (omega arith) in
    let up : (k + 1) * step ≤ n * step = mul-le-mul_right step (omega arith) in
    omega arith

-- so they rise
rises : (xs ys : List ℕ) (n step : ℕ) → ys ≡ xs → length ys ≡ n → 0 < step → ((i : ℕ) → i < n → get_or xs i 0 ≡ i * step) → IsStrictlyIncreasing ys
rises xs ys n step same long some each k within =
    let here : get_or ys k 0 ≡ k * step = ap (λ zs. get_or zs k 0) same ∙ each k (omega arith) in
    let next : get_or ys (k + 1) 0 ≡ (k + 1) * step = ap (λ zs. get_or zs (k + 1) 0) same ∙ each (k + 1) (omega arith) in
    let up : k * step + step ≡ (k + 1) * step = omega arith in
    omega arith

pub encode-coded-requires-clause-has_values : goal.encode-coded-requires-clause-has_values
encode-coded-requires-clause-has_values g c k d within =
    let long : length c.deref-2.result.now ≡ c.args.n = omega (arith, c.deref-2.ensures.len, c.in_ok-locals.ensures.len) in
    let low : get_or c.deref-2.result.now k d < c.args.n * c.args.step
    = below c.in_ok-locals.locals.items c.deref-2.result.now c.args.n c.args.step k d c.deref-2.ensures.value long (omega arith) c.in_ok-locals.ensures.each within in
    omega (arith, low, c.deref.ensures.len, c.in_ok-values.ensures.len)

pub encode-coded-requires-clause-has_bits : goal.encode-coded-requires-clause-has_bits
encode-coded-requires-clause-has_bits g c k d within =
    let long : length c.deref-2.result.now ≡ c.args.n = omega (arith, c.deref-2.ensures.len, c.in_ok-locals.ensures.len) in
    let low : get_or c.deref-2.result.now k d < c.args.n * c.args.step
    = below c.in_ok-locals.locals.items c.deref-2.result.now c.args.n c.args.step k d c.deref-2.ensures.value long (omega arith) c.in_ok-locals.ensures.each within in
    omega (arith, low, c.loop-position.invariant)

pub encode-coded-requires-clause-locals_rise : goal.encode-coded-requires-clause-locals_rise
encode-coded-requires-clause-locals_rise g c =
    rises c.in_ok-locals.locals.items c.deref-2.result.now c.args.n c.args.step c.deref-2.ensures.value (omega (arith, c.deref-2.ensures.len, c.in_ok-locals.ensures.len)) (omega arith) c.in_ok-locals.ensures.each

pub encode-coded-requires-clause-ids_rise : goal.encode-coded-requires-clause-ids_rise
encode-coded-requires-clause-ids_rise g c =
    rises c.in_ok-locals.locals.items c.deref-3.result.now c.args.n c.args.step c.deref-3.ensures.value (omega (arith, c.deref-3.ensures.len, c.in_ok-locals.ensures.len)) (omega arith) c.in_ok-locals.ensures.each
