use Rattle.std.proofs.Common.{◌≡◌, ◌<◌, ◌*◌, ◌+◌, ◌/◌, ◌%◌, ◌^◌, ℕ, List, get_or, length, ap, subst, ◌∙◌, arith}
use Rattle.std.specs.Int.{w8, trailing_zeros}
use Rattle.field_encodings.specs.Places.{set_from}
use Rattle.field_encodings.proofs.BitPlaces.{IsFirstSet, first_in_byte, none_in_byte, set_from-end}
use Rattle.field_encodings.proofs.bit_places.next_bit.Goals as goal

-- the first bit in the byte of a bit, from that bit on
first_here : (bits : List ℕ) (next : ℕ) → next / 8 < length bits → get_or bits (next / 8) 0 < 256 → 0 < get_or bits (next / 8) 0 / 2 ^ (next % 8)
    → IsFirstSet bits next (next + trailing_zeros w8 (get_or bits (next / 8) 0 / 2 ^ (next % 8)))
first_here bits next within fits some =
    let whole : next / 8 * 8 + next % 8 ≡ next = omega arith in
    subst (λ n. IsFirstSet bits n (n + trailing_zeros w8 (get_or bits (next / 8) 0 / 2 ^ (next % 8)))) whole (first_in_byte bits (next / 8) (next % 8) within (omega arith) fits some)

-- the first bit of a byte
first_of_byte : (bits : List ℕ) (later : ℕ) → later < length bits → get_or bits later 0 < 256 → 0 < get_or bits later 0 → IsFirstSet bits (later * 8) (later * 8 + trailing_zeros w8 (get_or bits later 0))
first_of_byte bits later within fits some =
    let none : later * 8 + 0 ≡ later * 8 = omega arith in
    let all : get_or bits later 0 / 2 ^ 0 ≡ get_or bits later 0 = omega arith in
    let moved : IsFirstSet bits (later * 8) (later * 8 + trailing_zeros w8 (get_or bits later 0 / 2 ^ 0))
    = subst (λ n. IsFirstSet bits n (n + trailing_zeros w8 (get_or bits later 0 / 2 ^ 0))) none (first_in_byte bits later 0 within (omega arith) fits (omega (arith, all))) in
    subst (λ byte. IsFirstSet bits (later * 8) (later * 8 + trailing_zeros w8 byte)) all moved

-- the byte has none from there on
none_here : (bits : List ℕ) (next : ℕ) → next / 8 < length bits → get_or bits (next / 8) 0 / 2 ^ (next % 8) ≡ 0 → set_from bits next ≡ set_from bits ((next / 8 + 1) * 8)
none_here bits next within none =
    let whole : next ≡ next / 8 * 8 + next % 8 = omega arith in
    ap (set_from bits) whole ∙ none_in_byte bits (next / 8) (next % 8) within (omega arith) none

none_of_byte : (bits : List ℕ) (later : ℕ) → later < length bits → get_or bits later 0 ≡ 0 → set_from bits (later * 8) ≡ set_from bits ((later + 1) * 8)
none_of_byte bits later within none =
    let first : later * 8 ≡ later * 8 + 0 = omega arith in
    ap (set_from bits) first ∙ none_in_byte bits later 0 within (omega arith) (ap (λ byte. byte / 2 ^ 0) none)

pub returns-then-place-bits-clause-first : goal.returns-then-place-bits-clause-first
returns-then-place-bits-clause-first c = set_from-end c.args.bits.now c.args.next (omega arith)

pub overflow_add-result : goal.overflow_add-result
overflow_add-result c =
    let found = first_here c.args.bits.now c.args.next c.if-place-bits.false (omega (arith, c.type_inv.bits (c.args.next / 8))) (omega arith) in
    omega (arith, found.0)

pub returns-then-rest-ne0-clause-first : goal.returns-then-rest-ne0-clause-first
returns-then-rest-ne0-clause-first c = (first_here c.args.bits.now c.args.next c.if-place-bits.false (omega (arith, c.type_inv.bits (c.args.next / 8))) (omega arith)).1

pub returns-then-rest-ne0-clause-bound : goal.returns-then-rest-ne0-clause-bound
returns-then-rest-ne0-clause-bound c = (first_here c.args.bits.now c.args.next c.if-place-bits.false (omega (arith, c.type_inv.bits (c.args.next / 8))) (omega arith)).0

pub loop-later-init : goal.loop-later-init
loop-later-init c = none_here c.args.bits.now c.args.next c.if-place-bits.false (omega arith)

pub loop-later-preserved : goal.loop-later-preserved
loop-later-preserved c = c.loop-later.invariant ∙ none_of_byte c.args.bits.now c.loop-later.later c.loop-later-test.true (omega arith)

pub returns-then-bits-later-ne0-clause-first : goal.returns-then-bits-later-ne0-clause-first
returns-then-bits-later-ne0-clause-first c =
    c.loop-later.invariant ∙ (first_of_byte c.args.bits.now c.loop-later.later c.loop-later-test.true (omega (arith, c.type_inv.bits c.loop-later.later)) (omega arith)).1

pub returns-then-bits-later-ne0-clause-bound : goal.returns-then-bits-later-ne0-clause-bound
returns-then-bits-later-ne0-clause-bound c =
    (first_of_byte c.args.bits.now c.loop-later.later c.loop-later-test.true (omega (arith, c.type_inv.bits c.loop-later.later)) (omega arith)).0

pub returns-clause-first : goal.returns-clause-first
returns-clause-first c = c.loop-later.invariant ∙ set_from-end c.args.bits.now (c.loop-later.later * 8) (omega arith)
