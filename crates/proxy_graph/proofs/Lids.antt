-- The local numbers of vertices are their places among the proxies.
use Rattle.std.proofs.Common.{◌≡◌, ℕ, suc, ◌+◌, ◌-◌, ◌<◌, ◌≤◌, true, false, Bool, cond, not, ◌&&◌, ◌||◌, ◌==◌, nat_lt, List, [], ◌∷◌, ◌++◌, length, slice_index, refl, sym, ◌∙◌, ap, arith, inl, inr, subst, length-append}
use Rattle.std.specs.List.{All, range_with_len}
use Rattle.std.specs.List.Sorted.{IsStrictlyIncreasing}
use Rattle.std.proofs.lemmas.Bool.{cases_lt, cases_eq, eq-eqb, ne_eqb, le-leb, lt-leb, le-ltb, lt-ltb}
use Rattle.std.proofs.lemmas.List.{get_or_append_left, get_or-append_right}
use Rattle.std.proofs.lemmas.List.Folds.{list_any_at}
use Rattle.std.proofs.lemmas.List.FromFn.{length-range_with_len, get_or-range_with_len}
use Rattle.list_laws.specs.Among.{is_among, place_of}
use Rattle.list_laws.proofs.Among.{place_of-at, among_range}
use Rattle.list_laws.proofs.Rising.{Rises-range, Rises-from_increasing}
use Rattle.proxy_graph.specs.Numbering.{IsLidOf, is_hosted}
use Rattle.proxy_graph.proofs.Read.{outside_range}

-- the vertices that are hosted, those before and those behind
pub hosted_true : (first count v : ℕ) → first ≤ v → v < first + count → is_hosted first count v ≡ true
hosted_true first count v low high = ap (λ b. b && nat_lt (v - first) count) (le-leb first v low) ∙ lt-ltb (v - first) count (omega arith)

pub hosted_before : (first count v : ℕ) → v < first → is_hosted first count v ≡ false
hosted_before first count v low = ap (λ b. b && nat_lt (v - first) count) (lt-leb first v low)

pub hosted_behind : (first count v : ℕ) → first + count ≤ v → is_hosted first count v ≡ false
hosted_behind first count v high = ap (λ b. b && nat_lt (v - first) count) (le-leb first v (omega arith)) ∙ le-ltb (v - first) count (omega arith)

-- a number that is in the first of two lists has its place there
place_left : (xs ys : List ℕ) (x : ℕ) → is_among xs x ≡ true → place_of (xs ++ ys) x ≡ place_of xs x
place_left [] ys x among = absurd (cc)
place_left (y ∷ xs) ys x among = step (y == x) among (place_left xs ys x)
  where
    step : (b : Bool) → (b || is_among xs x) ≡ true → (is_among xs x ≡ true → place_of (xs ++ ys) x ≡ place_of xs x) → cond (not b) (1 + place_of (xs ++ ys) x) 0 ≡ cond (not b) (1 + place_of xs x) 0
    step true among rest = refl
    step false among rest = ap (λ n. 1 + n) (rest among)

-- and one that is not has it behind
place_right : (xs ys : List ℕ) (x : ℕ) → is_among xs x ≡ false → place_of (xs ++ ys) x ≡ length xs + place_of ys x
place_right [] ys x missing = omega arith
place_right (y ∷ xs) ys x missing = step (y == x) missing (place_right xs ys x)
  where
    step : (b : Bool) → (b || is_among xs x) ≡ false → (is_among xs x ≡ false → place_of (xs ++ ys) x ≡ length xs + place_of ys x) → cond (not b) (1 + place_of (xs ++ ys) x) 0 ≡ suc (length xs) + place_of ys x
    step true missing rest = absurd (cc)
    step false missing rest = omega (arith, rest missing)

-- the place of a number that is not in a list
pub place_none : (xs : List ℕ) (x : ℕ) → is_among xs x ≡ false → place_of xs x ≡ length xs
place_none [] x missing = refl
place_none (y ∷ xs) x missing = step (y == x) missing (place_none xs x)
  where
    step : (b : Bool) → (b || is_among xs x) ≡ false → (is_among xs x ≡ false → place_of xs x ≡ length xs) → cond (not b) (1 + place_of xs x) 0 ≡ suc (length xs)
    step true missing rest = absurd (cc)
    step false missing rest = omega (arith, rest missing)

-- a number that is in a list has a place in it, where it stands
pub place_is : (xs : List ℕ) (x : ℕ) → is_among xs x ≡ true → IsLidOf xs x (place_of xs x)
place_is [] x among = absurd (cc)
place_is (y ∷ xs) x among = elim (cases_eq y x) [
  | inl same ↦ (
      let first : place_of (y ∷ xs) x ≡ 0 = ap (λ b. cond (not b) (1 + place_of xs x) 0) (eq-eqb y x same) in
      let is : IsLidOf (y ∷ xs) x 0 = record { within = omega arith; here = same } in
      subst (λ k. IsLidOf (y ∷ xs) x k) (sym first) is)
  | inr other ↦ (
      let rest = place_is xs x (sym (ap (λ b. b || is_among xs x) (ne_eqb y x other)) ∙ among) in
      let one_more : 1 + place_of xs x ≡ suc (place_of xs x) = omega arith in
      let later : place_of (y ∷ xs) x ≡ suc (place_of xs x) = ap (λ b. cond (not b) (1 + place_of xs x) 0) (ne_eqb y x other) ∙ one_more in
      let is : IsLidOf (y ∷ xs) x (suc (place_of xs x)) = record { within = omega (arith, rest.within); here = rest.here } in
      subst (λ k. IsLidOf (y ∷ xs) x k) (sym later) is)
]

-- a local number's vertex is among the proxies
pub lid_among : (proxies : List ℕ) (v lid : ℕ) → IsLidOf proxies v lid → is_among proxies v ≡ true
lid_among proxies v lid is = list_any_at (λ other. other == v) proxies lid 0 is.within (eq-eqb (slice_index proxies lid) v is.here)

module _ (first count : ℕ) (mirrors : List ℕ) (rise : IsStrictlyIncreasing mirrors) (apart : All (λ v. is_hosted first count v ≡ false) mirrors) where
  abbrev masters : List ℕ
  masters = range_with_len first count

  -- a mirror is not among the masters
  not_here : (v : ℕ) → is_hosted first count v ≡ false → is_among masters v ≡ false
  not_here v elsewhere = outside_range first count v (λ low high. let is : is_hosted first count v ≡ true = hosted_true first count v low high in cc)

  -- the local number of a vertex is its place
  pub lid_is_place : (v lid : ℕ) → IsLidOf (masters ++ mirrors) v lid → place_of (masters ++ mirrors) v ≡ lid
  lid_is_place v lid is =
      let long = length-range_with_len first count in
      elim (cases_lt lid count) [
        | inl low ↦ (
            let here : v ≡ first + lid = sym is.here ∙ get_or_append_left masters mirrors 0 lid (omega (arith, long)) ∙ get_or-range_with_len first count lid 0 low in
            place_left masters mirrors v (among_range first count v (omega (arith, here)) (omega (arith, here)))
            ∙ place_of-at first masters lid v (Rises-range first count) (omega (arith, long)) (get_or-range_with_len first count lid 0 low ∙ sym here))
        | inr high ↦ (
            let within : lid - count < length mirrors = omega (arith, is.within, long, length-append masters mirrors) in
            let here : slice_index mirrors (lid - count) ≡ v = sym (get_or-append_right masters mirrors count lid 0 long high) ∙ is.here in
            let elsewhere : is_hosted first count v ≡ false = ap (is_hosted first count) (sym here) ∙ apart (lid - count) 0 within in
            place_right masters mirrors v (not_here v elsewhere)
            ∙ ap (λ n. length masters + n) (place_of-at 0 mirrors (lid - count) v (Rises-from_increasing 0 mirrors rise (λ some. omega arith)) within here)
            ∙ omega (arith, long))
      ]
