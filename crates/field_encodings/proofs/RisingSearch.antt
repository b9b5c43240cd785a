-- What a search in steps and by halves says of a rising list.
use Rattle.std.proofs.Common.{◌≡◌, ◌<◌, ◌≤◌, ℕ, ◌+◌, ◌-◌, List, length, take, drop, get_or, sym, ap, ◌∙◌, arith, Ok, Err, Result}
use Rattle.std.specs.Prelude.{MatchResult}
use Rattle.std.specs.Ordering.{nat_cmp}
use Rattle.std.specs.List.Sorted.{IsStrictlyIncreasing, IsBinarySearchResult}
use Rattle.std.proofs.lemmas.List.{get_or-drop, get_or-take, length-take, length-drop}
use Rattle.std.proofs.lemmas.List.Sorted.{searched}
use Rattle.list_laws.proofs.Rising.{Rises-from_increasing, in_order}

-- rising numbers do not fall
pub not_lower : (xs : List ℕ) (i j : ℕ) → IsStrictlyIncreasing xs → i ≤ j → j < length xs → get_or xs i 0 ≤ get_or xs j 0
not_lower xs i j rise l h = in_order 0 xs i j (Rises-from_increasing 0 xs rise (λ some. omega arith)) l h

-- and those before a place are lower
pub lower_before : (xs : List ℕ) (i j : ℕ) → IsStrictlyIncreasing xs → i < j → j < length xs → get_or xs i 0 < get_or xs j 0
lower_before xs i j rise l h =
    let step : get_or xs i 0 < get_or xs (i + 1) 0 = rise i (omega arith) in
    omega (arith, not_lower xs (i + 1) j rise (omega arith) h)

module _ (xs : List ℕ) (start end x : ℕ) (rise : IsStrictlyIncreasing xs) (order : start ≤ end) (inside : end ≤ length xs) where
  -- the numbers between two places
  between : List ℕ
  between = take (end - start) (drop start xs)

  length-between : length (take (end - start) (drop start xs)) ≡ end - start
  length-between = omega (arith, length-take (end - start) (drop start xs), length-drop start xs)

  -- a number between them, by its place in the whole
  at_between : (k : ℕ) → k < end - start → get_or (take (end - start) (drop start xs)) k 0 ≡ get_or xs (start + k) 0
  at_between k h = get_or-take (end - start) (drop start xs) k 0 h ∙ get_or-drop start xs k 0

  said : (answer : Result ℕ ℕ) → IsBinarySearchResult (λ y. nat_cmp y x) (take (end - start) (drop start xs)) answer
      → MatchResult answer (λ i. (i < length (take (end - start) (drop start xs))) × (get_or (take (end - start) (drop start xs)) i 0 ≡ x))
      (λ i. (i ≤ length (take (end - start) (drop start xs)))
      × ((k : ℕ) → k < i → get_or (take (end - start) (drop start xs)) k 0 < x)
      × ((k : ℕ) → i ≤ k → k < length (take (end - start) (drop start xs)) → x < get_or (take (end - start) (drop start xs)) k 0))
  said answer found =
      searched (take (end - start) (drop start xs)) x answer found
      (λ i j l h. omega (
        arith,
        length-between,
        not_lower xs (start + i) (start + j) rise (omega arith) (omega (arith, length-between)),
        at_between i (omega (arith, length-between)),
        at_between j (omega (arith, length-between)),
      ))

  -- it stands there
  pub found_between : (i : ℕ) → IsBinarySearchResult (λ y. nat_cmp y x) (take (end - start) (drop start xs)) (Ok i)
      → (start + i < end) × (get_or xs (start + i) 0 ≡ x)
  found_between i found =
      let h : (i < length (take (end - start) (drop start xs))) × (get_or (take (end - start) (drop start xs)) i 0 ≡ x) = said (Ok i) found in
      let low : i < end - start = omega (arith, h.0, length-between) in
      (omega arith, sym (at_between i low) ∙ h.1)

  -- it would stand there
  pub missing_between : (i : ℕ) → IsBinarySearchResult (λ y. nat_cmp y x) (take (end - start) (drop start xs)) (Err i)
      → (start + i ≤ end) × ((k : ℕ) → start ≤ k → k < start + i → get_or xs k 0 < x) × ((k : ℕ) → start + i ≤ k → k < end → x < get_or xs k 0)
  missing_between i found =
      let h : (i ≤ length (take (end - start) (drop start xs)))
      × ((k : ℕ) → k < i → get_or (take (end - start) (drop start xs)) k 0 < x)
      × ((k : ℕ) → i ≤ k → k < length (take (end - start) (drop start xs)) → x < get_or (take (end - start) (drop start xs)) k 0)
      = said (Err i) found in (
        omega (arith, h.0, length-between),
        (λ k a b.
            let up : start + (k - start) ≡ k = omega arith in
            let low : k - start < end - start = omega (arith, h.0, length-between) in
            omega (arith, h.1 (k - start) (omega arith), at_between (k - start) low, ap (λ n. get_or xs n 0) up)),
        (λ k a b.
            let up : start + (k - start) ≡ k = omega arith in
            let low : k - start < end - start = omega arith in
            omega (arith, h.2 (k - start) (omega arith) (omega (arith, length-between)), at_between (k - start) low, ap (λ n. get_or xs n 0) up)),
      )
