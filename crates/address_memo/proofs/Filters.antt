-- What tests pick from ranges and from lists that are made of other lists.
use Rattle.std.proofs.Common.{◌≡◌, ℕ, zero, suc, ◌+◌, ◌-◌, ◌<◌, ◌≤◌, Bool, true, false, cond, ◌&&◌, List, [], ◌∷◌, ◌++◌, length, map, refl, sym, ap, subst, ◌∙◌, arith}
use Rattle.std.specs.List.{All, filter, range_with_len}
use Rattle.std.proofs.lemmas.List.{append-nil, map-append}
use Rattle.std.proofs.lemmas.List.Elements.{filter-append, All-head, All-tail}
use Rattle.std.proofs.lemmas.List.FromFn.{length-range_with_len, get_or-range_with_len}

-- ---- ranges

-- a range in two parts
pub range-append : (a m n : ℕ) → range_with_len a (m + n) ≡ range_with_len a m ++ range_with_len (a + m) n
range-append a zero n =
    let count : 0 + n ≡ n = omega arith in
    let first : a ≡ a + 0 = omega arith in
    ap (range_with_len a) count ∙ ap (λ k. range_with_len k n) first
range-append a (suc m) n =
    let count : suc m + n ≡ suc (m + n) = omega arith in
    let first : a + 1 + m ≡ a + suc m = omega arith in
    ap (range_with_len a) count ∙ ap (λ l. a ∷ l) (range-append (a + 1) m n ∙ ap (λ k. range_with_len (a + 1) m ++ range_with_len k n) first)

-- what holds of the numbers of a range
pub All_range : (P : ℕ → Type 0) (a n : ℕ) → ((k : ℕ) → a ≤ k → k < a + n → P k) → All P (range_with_len a n)
All_range P a n each = λ k d within.
    let below : k < n = omega (arith, within, length-range_with_len a n) in
    subst P (sym (get_or-range_with_len a n k d below)) (each (a + k) (omega arith) (omega arith))

-- tests that agree on a range pick the same of it
pub filter_range_same : (p q : ℕ → Bool) (a n : ℕ) → ((k : ℕ) → a ≤ k → k < a + n → p k ≡ q k) → filter p (range_with_len a n) ≡ filter q (range_with_len a n)
filter_range_same p q a zero same = refl
filter_range_same p q a (suc n) same =
    let rest = filter_range_same p q (a + 1) n (λ k l h. same k (omega arith) (omega arith)) in
    ap (λ b. cond b (a ∷ filter p (range_with_len (a + 1) n)) (filter p (range_with_len (a + 1) n))) (same a (omega arith) (omega arith))
    ∙ ap (λ l. cond (q a) (a ∷ l) l) rest

-- nothing is picked where every number fails
pub filter_range_none : (p : ℕ → Bool) (a n : ℕ) → ((k : ℕ) → a ≤ k → k < a + n → p k ≡ false) → filter p (range_with_len a n) ≡ []
filter_range_none p a zero fails = refl
filter_range_none p a (suc n) fails =
    ap (λ b. cond b (a ∷ filter p (range_with_len (a + 1) n)) (filter p (range_with_len (a + 1) n))) (fails a (omega arith) (omega arith))
    ∙ filter_range_none p (a + 1) n (λ k l h. fails k (omega arith) (omega arith))

-- a test that fails before a part of a range and behind it picks from that part alone
pub filter_range_part : (p q : ℕ → Bool) (a f m z b c : ℕ) → a + f ≡ b → b + m ≡ c
    → ((k : ℕ) → a ≤ k → k < b → p k ≡ false) → ((k : ℕ) → b ≤ k → k < c → p k ≡ q k) → ((k : ℕ) → c ≤ k → k < c + z → p k ≡ false)
    → filter p (range_with_len a (f + (m + z))) ≡ filter q (range_with_len b m)
filter_range_part p q a f m z b c first last before within behind =
    ap (filter p) (range-append a f (m + z) ∙ ap (λ k. range_with_len a f ++ range_with_len k (m + z)) first)
    ∙ filter-append p (range_with_len a f) (range_with_len b (m + z))
    ∙ ap (λ l. l ++ filter p (range_with_len b (m + z))) (filter_range_none p a f (λ k l h. before k l (omega arith)))
    ∙ ap (filter p) (range-append b m z ∙ ap (λ k. range_with_len b m ++ range_with_len k z) last)
    ∙ filter-append p (range_with_len b m) (range_with_len c z)
    ∙ ap (λ l. filter p (range_with_len b m) ++ l) (filter_range_none p c z behind)
    ∙ append-nil (filter p (range_with_len b m))
    ∙ filter_range_same p q b m (λ k l h. within k l (omega arith))

-- one number more
pub filter_range_more : (p : ℕ → Bool) (a j : ℕ) → a ≤ j → filter p (range_with_len a (j + 1 - a)) ≡ filter p (range_with_len a (j - a)) ++ cond (p j) (j ∷ []) []
filter_range_more p a j l =
    let count : j + 1 - a ≡ (j - a) + 1 = omega arith in
    let last : a + (j - a) ≡ j = omega arith in
    ap (λ n. filter p (range_with_len a n)) count
    ∙ ap (filter p) (range-append a (j - a) 1 ∙ ap (λ k. range_with_len a (j - a) ++ k ∷ []) last)
    ∙ filter-append p (range_with_len a (j - a)) (j ∷ [])

-- ---- lists of lists

-- a test of images
pub filter-map : (p : ℕ → Bool) (f : ℕ → ℕ) (xs : List ℕ) → filter p (map f xs) ≡ map f (filter (λ x. p (f x)) xs)
filter-map p f [] = refl
filter-map p f (x ∷ xs) = step (p (f x)) (filter-map p f xs)
  where
    step : (b : Bool) → filter p (map f xs) ≡ map f (filter (λ y. p (f y)) xs) → cond b (f x ∷ filter p (map f xs)) (filter p (map f xs)) ≡ map f (cond b (x ∷ filter (λ y. p (f y)) xs) (filter (λ y. p (f y)) xs))
    step true rest = ap (λ l. f x ∷ l) rest
    step false rest = rest

-- a test of what another test picked
pub filter-filter : (p q : ℕ → Bool) (xs : List ℕ) → filter p (filter q xs) ≡ filter (λ x. q x && p x) xs
filter-filter p q [] = refl
filter-filter p q (x ∷ xs) = step (q x) (filter-filter p q xs)
  where
    step : (b : Bool) → filter p (filter q xs) ≡ filter (λ y. q y && p y) xs → filter p (cond b (x ∷ filter q xs) (filter q xs)) ≡ cond (b && p x) (x ∷ filter (λ y. q y && p y) xs) (filter (λ y. q y && p y) xs)
    step true rest = ap (λ l. cond (p x) (x ∷ l) l) rest
    step false rest = rest

-- a function that undoes another on a list
pub map_back : (f g : ℕ → ℕ) (xs : List ℕ) → All (λ x. g (f x) ≡ x) xs → map g (map f xs) ≡ xs
map_back f g [] back = refl
map_back f g (x ∷ xs) back =
    ap (λ y. y ∷ map g (map f xs)) (All-head (λ y. g (f y) ≡ y) x xs back) ∙ ap (λ l. x ∷ l) (map_back f g xs (All-tail (λ y. g (f y) ≡ y) x xs back))

-- no more is picked than there is
pub length_picked : (p : ℕ → Bool) (xs : List ℕ) → length (filter p xs) ≤ length xs
length_picked p [] = omega arith
length_picked p (x ∷ xs) = step (p x) (length_picked p xs)
  where
    step : (b : Bool) → length (filter p xs) ≤ length xs → length (cond b (x ∷ filter p xs) (filter p xs)) ≤ length (x ∷ xs)
    step true rest = omega arith
    step false rest = omega arith

-- ---- lists that grow

-- a number that passes is picked next
pub picked_more : (p : ℕ → Bool) (a j : ℕ) (xs : List ℕ) → a ≤ j → xs ≡ filter p (range_with_len a (j - a)) → p j ≡ true → xs ++ j ∷ [] ≡ filter p (range_with_len a (j + 1 - a))
picked_more p a j xs l is passes =
    ap (λ (ys : List ℕ). ys ++ j ∷ []) is
    ∙ ap (λ b. filter p (range_with_len a (j - a)) ++ cond b (j ∷ []) []) (sym passes)
    ∙ sym (filter_range_more p a j l)

-- one that fails is passed over
pub picked_same : (p : ℕ → Bool) (a j : ℕ) (xs : List ℕ) → a ≤ j → xs ≡ filter p (range_with_len a (j - a)) → p j ≡ false → xs ≡ filter p (range_with_len a (j + 1 - a))
picked_same p a j xs l is fails =
    is
    ∙ sym (append-nil (filter p (range_with_len a (j - a))))
    ∙ ap (λ b. filter p (range_with_len a (j - a)) ++ cond b (j ∷ []) []) (sym fails)
    ∙ sym (filter_range_more p a j l)

-- so is its image
pub mapped_more : (f : ℕ → ℕ) (xs ys : List ℕ) (j y : ℕ) → ys ≡ map f xs → y ≡ f j → ys ++ y ∷ [] ≡ map f (xs ++ j ∷ [])
mapped_more f xs ys j y is same =
    ap (λ (l : List ℕ). l ++ y ∷ []) is ∙ ap (λ v. map f xs ++ v ∷ []) same ∙ sym (map-append f xs (j ∷ []))
