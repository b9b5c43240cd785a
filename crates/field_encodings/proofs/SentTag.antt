-- One tag alone is that of the shortest form.
use Rattle.std.proofs.Common.{◌≡◌, ℕ, zero, suc, ◌<◌, ◌≤◌, inl, inr, refl, true, false, arith, cond, sym, ap, subst, ◌∙◌}
use Rattle.std.specs.Prelude.{◌&&◌, nat_eq, nat_le}
use Rattle.std.proofs.lemmas.Bool.Decides.{nat_tests, eqb_tells}
use Rattle.std.proofs.lemmas.Bool.{cond_both}
use Rattle.field_encodings.specs.Lengths.{form_length, IsShortest, IsSentTag, shortest_tag, sent_tag}
use Rattle.field_encodings.specs.Laws.{OneTagIsSent}

-- four lengths, and the tag of the shortest, as numbers
of_four : (a b c d : ℕ) → (f : ℕ → ℕ) → f 0 ≡ a → f 1 ≡ b → f 2 ≡ c → f 3 ≡ d → (tag : ℕ) → IsShortest f tag → tag ≡ shortest_tag f
of_four a b c d f ha hb hc hd zero h =
    let x = h.least 1 (omega arith) in let y = h.least 2 (omega arith) in let z = h.least 3 (omega arith) in grind (arith, nat_tests)
of_four a b c d f ha hb hc hd (suc zero) h =
    let x = h.first 0 (omega arith) in let y = h.least 2 (omega arith) in let z = h.least 3 (omega arith) in grind (arith, nat_tests)
of_four a b c d f ha hb hc hd (suc (suc zero)) h =
    let w = h.first 0 (omega arith) in let x = h.first 1 (omega arith) in let z = h.least 3 (omega arith) in grind (arith, nat_tests)
of_four a b c d f ha hb hc hd (suc (suc (suc zero))) h =
    let w = h.first 0 (omega arith) in let x = h.first 1 (omega arith) in let y = h.first 2 (omega arith) in grind (arith, nat_tests)
of_four a b c d f ha hb hc hd (suc (suc (suc (suc tag)))) h = absurd (let t = h.is_tag in omega arith)

-- what holds of four numbers holds of each up to 3
each_of_four : (P : ℕ → Type 0) → P 0 → P 1 → P 2 → P 3 → (k : ℕ) → k ≤ 3 → P k
each_of_four P a b c d zero l = a
each_of_four P a b c d (suc zero) l = b
each_of_four P a b c d (suc (suc zero)) l = c
each_of_four P a b c d (suc (suc (suc zero))) l = d
each_of_four P a b c d (suc (suc (suc (suc k)))) l = absurd (omega arith)

le_three : (a b c d : ℕ) → (nat_le a b && (nat_le a c && nat_le a d)) ≡ true → (a ≤ b) × (a ≤ c) × (a ≤ d)
le_three a b c d e = (grind (arith, nat_tests), grind (arith, nat_tests), grind (arith, nat_tests))

le_two : (b c d : ℕ) → (nat_le b c && nat_le b d) ≡ true → (b ≤ c) × (b ≤ d)
le_two b c d e = (grind (arith, nat_tests), grind (arith, nat_tests))

not_three : (a b c d x : ℕ) → (nat_le a b && (nat_le a c && nat_le a d)) ≡ false → x ≤ b → x ≤ c → x ≤ d → x < a
not_three a b c d x e p q r = grind (arith, nat_tests)

not_two : (b c d x : ℕ) → (nat_le b c && nat_le b d) ≡ false → x ≤ c → x ≤ d → x < b
not_two b c d x e p q = grind (arith, nat_tests)

le_one : (c d : ℕ) → nat_le c d ≡ true → c ≤ d
le_one c d e = grind (arith, nat_tests)

not_one : (c d : ℕ) → nat_le c d ≡ false → d < c
not_one c d e = grind (arith, nat_tests)

-- the tag that is computed is that of the shortest form
shortest_is : (f : ℕ → ℕ) → IsShortest f (shortest_tag f)
shortest_is f =
    cond_both (nat_le (f 0) (f 1) && (nat_le (f 0) (f 2) && nat_le (f 0) (f 3))) 0 _ (IsShortest f)
    (λ yes.
    let h = le_three (f 0) (f 1) (f 2) (f 3) yes in
    record { is_tag = omega arith; least = each_of_four (λ k. f 0 ≤ f k) (omega arith) h.0 h.1 h.2; first = λ k l. absurd (omega arith) })
    (λ no. cond_both (nat_le (f 1) (f 2) && nat_le (f 1) (f 3)) 1 _ (IsShortest f)
    (λ yes.
    let h = le_two (f 1) (f 2) (f 3) yes in
    let low : f 1 < f 0 = not_three (f 0) (f 1) (f 2) (f 3) (f 1) no (omega arith) h.0 h.1 in
    record { is_tag = omega arith; least = each_of_four (λ k. f 1 ≤ f k) (omega arith) (omega arith) h.0 h.1; first = λ k l. below_one f 1 k l low })
    (λ no_one. cond_both (nat_le (f 2) (f 3)) 2 3 (IsShortest f)
    (λ yes.
    let h = le_one (f 2) (f 3) yes in
    let mid : f 2 < f 1 = not_two (f 1) (f 2) (f 3) (f 2) no_one (omega arith) h in
    let low : f 2 < f 0 = not_three (f 0) (f 1) (f 2) (f 3) (f 2) no (omega arith) (omega arith) h in
    record { is_tag = omega arith; least = each_of_four (λ k. f 2 ≤ f k) (omega arith) (omega arith) (omega arith) h; first = λ k l. below_two f 2 k l low mid })
    (λ no_two.
    let h = not_one (f 2) (f 3) no_two in
    let mid : f 3 < f 1 = not_two (f 1) (f 2) (f 3) (f 3) no_one (omega arith) (omega arith) in
    let low : f 3 < f 0 = not_three (f 0) (f 1) (f 2) (f 3) (f 3) no (omega arith) (omega arith) (omega arith) in
    record { is_tag = omega arith; least = each_of_four (λ k. f 3 ≤ f k) (omega arith) (omega arith) (omega arith) (omega arith); first = λ k l. below_three f 3 k l low mid h })))
  where
    below_one : (f : ℕ → ℕ) (t k : ℕ) → k < 1 → f t < f 0 → f t < f k
    below_one f t zero l a = a
    below_one f t (suc k) l a = absurd (omega arith)

    below_two : (f : ℕ → ℕ) (t k : ℕ) → k < 2 → f t < f 0 → f t < f 1 → f t < f k
    below_two f t zero l a b = a
    below_two f t (suc zero) l a b = b
    below_two f t (suc (suc k)) l a b = absurd (omega arith)

    below_three : (f : ℕ → ℕ) (t k : ℕ) → k < 3 → f t < f 0 → f t < f 1 → f t < f 2 → f t < f k
    below_three f t zero l a b c = a
    below_three f t (suc zero) l a b c = b
    below_three f t (suc (suc zero)) l a b c = c
    below_three f t (suc (suc (suc k))) l a b c = absurd (omega arith)

pub sent_tag_is_one : OneTagIsSent
unfolding sent_tag
sent_tag_is_one positions updated greatest size tag = (forth, back)
  where
    f : ℕ → ℕ
    f = form_length positions updated greatest size

    forth : IsSentTag positions updated greatest size tag → tag ≡ cond (nat_eq positions 0) 3 (shortest_tag f)
    forth h =
        elim (eqb_tells positions 0) [
          | inl none ↦ h.empty none.1 ∙ sym (ap (λ b. cond b 3 (shortest_tag f)) none.0)
          | inr some ↦ of_four _ _ _ _ f refl refl refl refl tag (h.shortest (let apart = some.1 in omega arith)) ∙ sym (ap (λ b. cond b 3 (shortest_tag f)) some.0)
        ]

    back : tag ≡ cond (nat_eq positions 0) 3 (shortest_tag f) → IsSentTag positions updated greatest size tag
    back e =
        elim (eqb_tells positions 0) [
          | inl none ↦ record { shortest = λ some. absurd (let is = none.1 in omega arith); empty = λ _. e ∙ ap (λ b. cond b 3 (shortest_tag f)) none.0 }
          | inr some ↦ record {
            shortest = λ _. subst (IsShortest f) (sym (e ∙ ap (λ b. cond b 3 (shortest_tag f)) some.0)) (shortest_is f);
            empty = λ is. absurd (some.1 is);
          }
        ]
