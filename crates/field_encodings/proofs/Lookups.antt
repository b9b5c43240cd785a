-- Where ids stand in a rising list, from a place on, and what a look-up says.
use Rattle.std.proofs.Common.{◌≡◌, ◌<◌, ◌≤◌, ℕ, zero, suc, ◌+◌, ◌-◌, Bool, true, false, List, [], ◌∷◌, length, get_or, drop, refl, sym, ap, subst, ◌∙◌, arith}
use Rattle.std.specs.Prelude.{nat_eq, Option, Some, None, MatchOption, IsSome}
use Rattle.std.specs.List.Sorted.{IsStrictlyIncreasing}
use Rattle.std.proofs.lemmas.Bool.{eq-eqb, ne_eqb}
use Rattle.std.proofs.lemmas.List.{get_or_default, get_or-drop, length-drop}
use Rattle.std.proofs.lemmas.List.Folds.{list_any_none, list_any_at}
use Rattle.list_laws.specs.Rising.{Rises}
use Rattle.list_laws.specs.Among.{is_among, place_of, AllAmong}
use Rattle.list_laws.proofs.Rising.{Rises-from_increasing, Rises-lower}
use Rattle.list_laws.proofs.Among.{is_among-later, place_of-at}
use Rattle.field_encodings.specs.Places.{StandFrom}
use Rattle.field_encodings.proofs.RisingSearch.{not_lower}

-- a number that stands at a place is one of those from an earlier one on
pub among_from : (ids : List ℕ) (from place x : ℕ) → from ≤ place → place < length ids → get_or ids place 0 ≡ x → is_among (drop from ids) x ≡ true
among_from ids from place x since inside here =
    let up : from + (place - from) ≡ place = omega arith in
    let there : get_or (drop from ids) (place - from) 0 ≡ x = get_or-drop from ids (place - from) 0 ∙ ap (λ n. get_or ids n 0) up ∙ here in
    list_any_at (λ other. nat_eq other x) (drop from ids) (place - from) 0 (omega (arith, length-drop from ids)) (eq-eqb (get_or (drop from ids) (place - from) 0) x there)

-- a number that stands nowhere from a place on is none of those
pub among_nowhere : (ids : List ℕ) (from x : ℕ) → ((k : ℕ) → from ≤ k → k < length ids → get_or ids k 0 ≡ x → ⊥) → is_among (drop from ids) x ≡ false
among_nowhere ids from x nowhere =
    list_any_none (λ other. nat_eq other x) (drop from ids)
    (λ k d l. ne_eqb (get_or (drop from ids) k d) x (λ e. nowhere (from + k) (omega arith) (omega (arith, length-drop from ids)) (sym (get_or-drop from ids k 0) ∙ sym (get_or_default (drop from ids) k d 0 l) ∙ e)))

-- where those before a place are lower, a number is one of the ids if it is from there on
pub among_behind : (ids : List ℕ) (from x : ℕ) → from ≤ length ids → ((k : ℕ) → k < from → get_or ids k 0 < x) → is_among ids x ≡ is_among (drop from ids) x
among_behind ids zero x inside lower = refl
among_behind [] (suc from) x inside lower = refl
among_behind (y ∷ ids) (suc from) x inside lower =
    is_among-later y x ids (lower 0 (omega arith)) ∙ among_behind ids from x (omega arith) (λ k l. lower (suc k) (omega arith))

-- up to the place of a number the ids are lower than one above it
lower_than : (ids : List ℕ) (place x y : ℕ) → IsStrictlyIncreasing ids → place < length ids → get_or ids place 0 ≡ x → x < y → (k : ℕ) → k < place + 1 → get_or ids k 0 < y
lower_than ids place x y rise inside here above k l = omega (arith, not_lower ids k place rise (omega arith) inside)

-- numbers above one that was found stand behind it
all_behind : (ids : List ℕ) (from place x : ℕ) (xs : List ℕ) → IsStrictlyIncreasing ids → from ≤ place → place < length ids → get_or ids place 0 ≡ x → Rises (x + 1) xs → AllAmong (drop from ids) xs → AllAmong (drop (place + 1) ids) xs
all_behind ids from place x [] rise since inside here r h = tt
all_behind ids from place x (y ∷ ys) rise since inside here r h =
    let lower : (k : ℕ) → k < place + 1 → get_or ids k 0 < y = lower_than ids place x y rise inside here (omega (arith, r.0)) in (
      sym (among_behind ids (place + 1) y (omega arith) lower) ∙ among_behind ids from y (omega arith) (λ k l. lower k (omega arith)) ∙ h.0,
      all_behind ids from place x ys rise since inside here (Rises-lower (x + 1) (y + 1) ys (omega (arith, r.0)) r.1) h.1,
    )

-- the first of the numbers was found: the others stand behind it
pub StandFrom-behind : (ids : List ℕ) (from place x : ℕ) (xs : List ℕ) → IsStrictlyIncreasing ids → from ≤ place → place < length ids → get_or ids place 0 ≡ x → StandFrom ids from (x ∷ xs) → StandFrom ids (place + 1) xs
StandFrom-behind ids from place x xs rise since inside here stand = record {
  within = omega arith;
  rise = Rises-lower 0 (x + 1) xs (omega arith) stand.rise.1;
  known = all_behind ids from place x xs rise since inside here stand.rise.1 stand.known.1;
}

-- what was found is the place of the number
pub place_found : (ids : List ℕ) (place x : ℕ) → IsStrictlyIncreasing ids → place < length ids → get_or ids place 0 ≡ x → place_of ids x ≡ place
place_found ids place x rise inside here = place_of-at 0 ids place x (Rises-from_increasing 0 ids rise (λ some. omega arith)) inside here

-- ---- what an answer says

-- a look-up that fails found nothing
pub is_found : (answer : Option ℕ) (known : Bool) (P : ℕ → Type 0) → known ≡ true → MatchOption answer (known ≡ false) P → IsSome answer
is_found None known P e h = cc
is_found (Some x) known P e h = refl

-- what an answer says of the number that it gives
pub at_some : (answer : Option ℕ) (x : ℕ) (P : Type 0) (Q : ℕ → Type 0) → answer ≡ Some x → MatchOption answer P Q → Q x
at_some answer x P Q e h = subst (λ a. MatchOption a P Q) e h
