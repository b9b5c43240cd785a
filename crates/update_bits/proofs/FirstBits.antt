-- The first bit that is set, within a word and from word to word.
use Rattle.std.proofs.Common.{◌≡◌, ℕ, ◌+◌, ◌-◌, ◌*◌, ◌/◌, ◌%◌, ◌^◌, ◌<◌, ◌≤◌, false, List, get_or, sym, ap, ◌∙◌, pow-add, subst, arith, inl, inr}
use Rattle.std.specs.Prelude.{nat_eq}
use Rattle.std.specs.Int.{bit_at, w64, trailing_zeros}
use Rattle.std.proofs.lemmas.Bool.{cases_lt, eq-eqb}
use Rattle.std.proofs.lemmas.Nat.Bits.{bit_at-zero, bit_at-trailing_zeros, bit_at_above}
use Rattle.std.proofs.Math.Nat.{div-div-eq-div-mul, div-le_self}
use Rattle.list_laws.specs.Bits.{bit_in}
use Rattle.update_bits.specs.Words.{IsFirstBit}

-- a bit of a word that was shifted down
pub bit_at-shifted : (word by i : ℕ) → bit_at (word / 2 ^ by) i ≡ bit_at word (by + i)
bit_at-shifted word by i = ap (λ n. n % 2) (div-div-eq-div-mul word (2 ^ by) (2 ^ i) ∙ ap (λ n. word / n) (sym (pow-add 2 by i)))

-- where a word that was shifted is 0, the bits from there on are not set
pub none_from : (words : List ℕ) (i k : ℕ) → get_or words (i / 64) 0 / 2 ^ (i % 64) ≡ 0 → i ≤ k → k / 64 ≡ i / 64 → bit_in words k ≡ false
none_from words i k none since same =
    let up : k % 64 ≡ i % 64 + (k - i) = omega arith in
    ap (λ p. nat_eq (bit_at (get_or words p 0) (k % 64)) 1) same
    ∙ ap (λ n. nat_eq (bit_at (get_or words (i / 64) 0) n) 1) up
    ∙ ap (λ b. nat_eq b 1) (sym (bit_at-shifted (get_or words (i / 64) 0) (i % 64) (k - i)) ∙ ap (λ w. bit_at w (k - i)) none ∙ bit_at-zero (k - i))

-- where it is not 0, its lowest bit that is set is the first from there on
pub first_from : (words : List ℕ) (i : ℕ) → get_or words (i / 64) 0 < 2 ^ 64 → 0 < get_or words (i / 64) 0 / 2 ^ (i % 64)
    → (i % 64 + trailing_zeros w64 (get_or words (i / 64) 0 / 2 ^ (i % 64)) < 64) × IsFirstBit words i (i + trailing_zeros w64 (get_or words (i / 64) 0 / 2 ^ (i % 64)))
first_from words i fits some =
    let word : ℕ = get_or words (i / 64) 0 in
    let rest : ℕ = word / 2 ^ (i % 64) in
    let zeros : ℕ = trailing_zeros w64 rest in
    let small : rest < 2 ^ 64 = omega (arith, div-le_self word (2 ^ (i % 64))) in
    let found : (zeros < 64) × (bit_at rest zeros ≡ 1) × ((j : ℕ) → j < zeros → bit_at rest j ≡ 0) = bit_at-trailing_zeros w64 rest some small in
    let one : bit_at word (i % 64 + zeros) ≡ 1 = sym (bit_at-shifted word (i % 64) zeros) ∙ found.1 in
    let inside : i % 64 + zeros < 64 = within word (i % 64 + zeros) fits one in
    let place : (i + zeros) / 64 ≡ i / 64 = omega arith in
    let bit : (i + zeros) % 64 ≡ i % 64 + zeros = omega arith in (
      inside,
      record {
        set = ap (λ p. nat_eq (bit_at (get_or words p 0) ((i + zeros) % 64)) 1) place ∙ ap (λ n. nat_eq (bit_at word n) 1) bit ∙ eq-eqb (bit_at word (i % 64 + zeros)) 1 one;
        since = omega arith;
        first = λ k since before.
            let same : k / 64 ≡ i / 64 = omega arith in
            let up : k % 64 ≡ i % 64 + (k - i) = omega arith in
            ap (λ p. nat_eq (bit_at (get_or words p 0) (k % 64)) 1) same
            ∙ ap (λ n. nat_eq (bit_at word n) 1) up
            ∙ ap (λ b. nat_eq b 1) (sym (bit_at-shifted word (i % 64) (k - i)) ∙ found.2 (k - i) (omega arith));
      },
    )
  where
    within : (word n : ℕ) → word < 2 ^ 64 → bit_at word n ≡ 1 → n < 64
    within word n fits one =
        elim (cases_lt n 64) [ inl low ↦ low | inr high ↦ absurd (omega (arith, bit_at_above word 64 n fits high)) ]

-- no bit of a word that is 0 is set
pub none_in_word : (words : List ℕ) (k : ℕ) → get_or words (k / 64) 0 ≡ 0 → bit_in words k ≡ false
none_in_word words k none = ap (λ w. nat_eq (bit_at w (k % 64)) 1) none ∙ ap (λ b. nat_eq b 1) (bit_at-zero (k % 64))

-- the first bit of a later word, where none before it is set
pub first_later : (words : List ℕ) (i later : ℕ) → get_or words later 0 < 2 ^ 64 → 0 < get_or words later 0 → i ≤ later * 64 → ((k : ℕ) → i ≤ k → k < later * 64 → bit_in words k ≡ false)
    → (trailing_zeros w64 (get_or words later 0) < 64) × IsFirstBit words i (later * 64 + trailing_zeros w64 (get_or words later 0))
first_later words i later fits some since none =
    let place : later * 64 / 64 ≡ later = omega arith in
    let bit : later * 64 % 64 ≡ 0 = omega arith in
    let whole : get_or words (later * 64 / 64) 0 / 2 ^ (later * 64 % 64) ≡ get_or words later 0 = ap (λ p. get_or words p 0 / 2 ^ (later * 64 % 64)) place ∙ ap (λ n. get_or words later 0 / 2 ^ n) bit ∙ omega arith in
    let zeros : ℕ = trailing_zeros w64 (get_or words later 0) in
    let same : trailing_zeros w64 (get_or words (later * 64 / 64) 0 / 2 ^ (later * 64 % 64)) ≡ zeros = ap (trailing_zeros w64) whole in
    let found = first_from words (later * 64) (subst (λ p. get_or words p 0 < 2 ^ 64) (sym place) fits) (omega (arith, whole)) in
    let at : IsFirstBit words (later * 64) (later * 64 + zeros) = subst (λ z. IsFirstBit words (later * 64) (later * 64 + z)) same found.1 in (
      omega (arith, found.0, same, bit),
      record {
        set = at.set;
        since = omega arith;
        first = λ k from before. elim (cases_lt k (later * 64)) [ inl low ↦ none k from low | inr high ↦ at.first k high before ];
      },
    )
