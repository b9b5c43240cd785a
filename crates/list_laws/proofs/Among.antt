-- Which numbers are in a rising list, and where.
use Rattle.std.proofs.Common.{◌≡◌, ◌<◌, ◌≤◌, ℕ, zero, suc, ◌+◌, true, false, List, [], ◌∷◌, length, get_or, refl, sym, ◌∙◌, arith, inl, inr, Ok, Err, Result}
use Rattle.std.specs.Prelude.{nat_eq, MatchResult}
use Rattle.std.specs.Ordering.{nat_cmp}
use Rattle.std.specs.List.{AllByRecursion, range_with_len}
use Rattle.std.specs.List.Sorted.{IsStrictlyIncreasing, IsBinarySearchResult}
use Rattle.std.proofs.lemmas.Bool.{eq-eqb, ne_eqb, cases_eq, cases_lt, or_right}
use Rattle.std.proofs.lemmas.List.{get_or_default}
use Rattle.std.proofs.lemmas.List.Folds.{list_any_none, list_any_at}
use Rattle.std.proofs.lemmas.List.Sorted.{searched}
use Rattle.list_laws.specs.Rising.{Rises}
use Rattle.list_laws.specs.Among.{is_among, place_of, AllAmong}
use Rattle.list_laws.proofs.Rising.{Rises-lower, Rises-from_increasing, at_least, in_order}

-- what is among rising numbers is not below the first
pub among_rising : (low x : ℕ) (xs : List ℕ) → Rises low xs → is_among xs x ≡ true → low ≤ x
among_rising low x [] h e = cc
among_rising low x (y ∷ ys) h e =
    elim (cases_eq y x) [
      | inl same ↦ omega arith
      | inr other ↦
          let rest : is_among ys x ≡ true = rw (ne_eqb y x other) at e in
          let above : y + 1 ≤ x = among_rising (y + 1) x ys h.1 rest in
          omega arith
    ]

-- a number that is not the head has its place behind it
pub place_of-later : (y x : ℕ) (ys : List ℕ) → y < x → place_of (y ∷ ys) x ≡ 1 + place_of ys x
place_of-later y x ys l = rw (ne_eqb y x (λ e. omega arith)) refl

pub place_of-first : (x : ℕ) (ys : List ℕ) → place_of (x ∷ ys) x ≡ 0
place_of-first x ys = rw (eq-eqb x x refl) refl

pub is_among-later : (y x : ℕ) (ys : List ℕ) → y < x → is_among (y ∷ ys) x ≡ is_among ys x
is_among-later y x ys l = rw (ne_eqb y x (λ e. omega arith)) refl

pub is_among-first : (x : ℕ) (ys : List ℕ) → is_among (x ∷ ys) x ≡ true
is_among-first x ys = rw (eq-eqb x x refl) refl

-- ---- all of a list among another

more_among : (y : ℕ) (ys xs : List ℕ) → AllAmong ys xs → AllAmong (y ∷ ys) xs
more_among y ys [] h = tt
more_among y ys (x ∷ xs) h = (or_right (nat_eq y x) (is_among ys x) h.0, more_among y ys xs h.1)

-- the numbers of a list are among it
pub all_among_itself : (xs : List ℕ) → AllAmong xs xs
all_among_itself [] = tt
all_among_itself (x ∷ xs) = (is_among-first x xs, more_among x xs xs (all_among_itself xs))

-- numbers above the first are among the others
pub among_tail : (y : ℕ) (ys xs : List ℕ) → Rises (y + 1) xs → AllAmong (y ∷ ys) xs → AllAmong ys xs
among_tail y ys [] r h = tt
among_tail y ys (x ∷ xs) r h =
    let above : y < x = omega arith in
    (sym (is_among-later y x ys above) ∙ h.0, among_tail y ys xs (Rises-lower (y + 1) (x + 1) xs (omega arith) r.1) h.1)

-- ---- numbers in a row

pub among_range : (first count x : ℕ) → first ≤ x → x < first + count → is_among (range_with_len first count) x ≡ true
among_range first zero x l h = absurd (omega arith)
among_range first (suc count) x l h =
    elim (cases_eq first x) [
      | inl same ↦ rw (eq-eqb first x same) refl
      | inr other ↦ or_right (nat_eq first x) (is_among (range_with_len (first + 1) count) x) (among_range (first + 1) count x (omega arith) (omega arith))
    ]

pub all_among_range : (count low : ℕ) (xs : List ℕ) → AllByRecursion (λ x. x < count) xs → AllAmong (range_with_len 0 count) xs
all_among_range count low [] h = tt
all_among_range count low (x ∷ xs) h = (among_range 0 count x (omega arith) (omega arith), all_among_range count low xs h.1)

-- ---- where a number stands

-- the place of the number at a place
pub place_of-at : (low : ℕ) (xs : List ℕ) (i x : ℕ) → Rises low xs → i < length xs → get_or xs i 0 ≡ x → place_of xs x ≡ i
place_of-at low [] i x r l e = absurd (omega arith)
place_of-at low (y ∷ ys) zero x r l e = rw (eq-eqb y x e) refl
place_of-at low (y ∷ ys) (suc i) x r l e =
    let above : y + 1 ≤ get_or ys i 0 = at_least (y + 1) ys i r.1 (omega arith) in
    let rest : place_of ys x ≡ i = place_of-at (y + 1) ys i x r.1 (omega arith) e in
    let later : place_of (y ∷ ys) x ≡ 1 + place_of ys x = place_of-later y x ys (omega arith) in
    omega arith

module _ (ids : List ℕ) (x : ℕ) (rise : IsStrictlyIncreasing ids) (answer : Result ℕ ℕ) (search_answer : IsBinarySearchResult (λ y. nat_cmp y x) ids answer) where
  rises : Rises 0 ids
  rises = Rises-from_increasing 0 ids rise (λ some. omega arith)

  said : MatchResult answer (λ i. (i < length ids) × (get_or ids i 0 ≡ x)) (λ i. (i ≤ length ids) × ((k : ℕ) → k < i → get_or ids k 0 < x) × ((k : ℕ) → i ≤ k → k < length ids → x < get_or ids k 0))
  said = searched ids x answer search_answer (λ i j l h. in_order 0 ids i j rises l h)

-- what a search by halves says of a rising list
pub found_among : (ids : List ℕ) (x place : ℕ) → IsStrictlyIncreasing ids → IsBinarySearchResult (λ y. nat_cmp y x) ids (Ok place) → (is_among ids x ≡ true) × (place ≡ place_of ids x)
found_among ids x place rise search_answer =
    let h : (place < length ids) × (get_or ids place 0 ≡ x) = said ids x rise (Ok place) search_answer in
    (list_any_at (λ other. nat_eq other x) ids place 0 h.0 (eq-eqb (get_or ids place 0) x h.1), sym (place_of-at 0 ids place x (rises ids x rise (Ok place) search_answer) h.0 h.1))

pub not_among : (ids : List ℕ) (x place : ℕ) → IsStrictlyIncreasing ids → IsBinarySearchResult (λ y. nat_cmp y x) ids (Err place) → is_among ids x ≡ false
not_among ids x place rise search_answer =
    let h : (place ≤ length ids) × ((k : ℕ) → k < place → get_or ids k 0 < x) × ((k : ℕ) → place ≤ k → k < length ids → x < get_or ids k 0) = said ids x rise (Err place) search_answer in
    list_any_none (λ other. nat_eq other x) ids (λ k d l. ne_eqb (get_or ids k d) x (λ e. elsewhere h.1 h.2 k d l e))
  where
    elsewhere : ((k : ℕ) → k < place → get_or ids k 0 < x) → ((k : ℕ) → place ≤ k → k < length ids → x < get_or ids k 0) → (k d : ℕ) → k < length ids → get_or ids k d ≡ x → ⊥
    elsewhere before behind k d l e =
        let same : get_or ids k d ≡ get_or ids k 0 = get_or_default ids k d 0 l in
        elim (cases_lt k place) [ inl lower ↦ omega (arith, before k lower) | inr upper ↦ omega (arith, behind k upper l) ]
