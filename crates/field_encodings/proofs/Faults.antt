-- The checks of positions and ids, place by place and as a walk: numbers that pass rise and are known, and
-- such numbers pass.
use Rattle.std.proofs.Common.{◌≡◌, ◌<◌, ℕ, zero, suc, ◌+◌, Bool, true, false, cond, List, [], ◌∷◌, length, drop, get_or, refl, sym, ap, ◌∙◌, arith, inl, inr}
use Rattle.std.specs.List.{AllByRecursion, range_with_len}
use Rattle.std.specs.Prelude.{Option, Some, None, nat_lt, not}
use Rattle.std.proofs.lemmas.Bool.{lt-ltb, le-ltb, ltb-true, ltb-false, cases_lt}
use Rattle.std.proofs.lemmas.List.{drop-drop, get_or-drop}
use Rattle.field_encodings.specs.declared.decode_fault.DecodeFault.{DecodeFault}
use Rattle.field_encodings.specs.declared.decode_fault.DecodeFault.TheVariants.{NotRising, PastEnd, UnknownId}
use Rattle.list_laws.specs.Rising.{Rises}
use Rattle.list_laws.specs.Among.{is_among, AllAmong}
use Rattle.field_encodings.specs.Checks.{rises_at, position_fault_at, id_fault_at, or_fault, first_fault, position_fault, id_fault}

-- the first fault of positions, each of which has to be at least low
abbrev pub position_walk : (count low place : ℕ) → List ℕ → Option DecodeFault
position_walk count low place [] = None
position_walk count low place (x ∷ xs) =
    cond (nat_lt x count) (cond (nat_lt x low) (Some (NotRising place)) (position_walk count (x + 1) (place + 1) xs)) (Some (PastEnd x))

-- the same of ids
abbrev pub id_walk : (ids : List ℕ) (low place : ℕ) → List ℕ → Option DecodeFault
id_walk ids low place [] = None
id_walk ids low place (x ∷ xs) =
    cond (nat_lt x low) (Some (NotRising place)) (cond (is_among ids x) (id_walk ids (x + 1) (place + 1) xs) (Some (UnknownId x)))

-- what the number at a place has to be at least, to rise
abbrev next_low : List ℕ → (place : ℕ) → ℕ
next_low xs zero = 0
next_low xs (suc place) = get_or xs place 0 + 1

rises_from_low : (xs : List ℕ) (place low y : ℕ) → low ≡ next_low xs place → get_or xs place 0 ≡ y → rises_at xs place ≡ not (nat_lt y low)
rises_from_low xs zero low y l e = sym (ap not (le-ltb y low (omega arith)))
rises_from_low xs (suc place) low y l e =
    elim (cases_lt (get_or xs place 0) y) [
      | inl up ↦ lt-ltb (get_or xs place 0) (get_or xs (suc place) 0) (omega arith) ∙ sym (ap not (le-ltb y low (omega arith)))
      | inr down ↦ le-ltb (get_or xs place 0) (get_or xs (suc place) 0) (omega arith) ∙ sym (ap not (lt-ltb y low (omega arith)))
    ]

-- the first element behind a place, and what follows
first_behind : (xs ys : List ℕ) (place y : ℕ) → drop place xs ≡ y ∷ ys → get_or xs place 0 ≡ y
first_behind xs ys place y e =
    let there : place ≡ place + 0 = omega arith in
    ap (λ n. get_or xs n 0) there ∙ sym (get_or-drop place xs 0 0) ∙ ap (λ l. get_or l 0 0) e

others_behind : (xs ys : List ℕ) (place y : ℕ) → drop place xs ≡ y ∷ ys → drop (place + 1) xs ≡ ys
others_behind xs ys place y e =
    sym (drop-drop 1 place xs) ∙ ap (drop 1) e

low_behind : (xs : List ℕ) (place y : ℕ) → get_or xs place 0 ≡ y → y + 1 ≡ next_low xs (place + 1)
low_behind xs place y e = let there : suc place ≡ place + 1 = omega arith in ap (λ n. n + 1) (sym e) ∙ ap (next_low xs) there

position_step : (inside below : Bool) (place y : ℕ) (rest : Option DecodeFault)
    → or_fault (cond inside (cond (not below) None (Some (NotRising place))) (Some (PastEnd y))) rest ≡ cond inside (cond below (Some (NotRising place)) rest) (Some (PastEnd y))
position_step true true place y rest = refl
position_step true false place y rest = refl
position_step false below place y rest = refl

id_step : (below known : Bool) (place y : ℕ) (rest : Option DecodeFault)
    → or_fault (cond (not below) (cond known None (Some (UnknownId y))) (Some (NotRising place))) rest ≡ cond below (Some (NotRising place)) (cond known rest (Some (UnknownId y)))
id_step true known place y rest = refl
id_step false true place y rest = refl
id_step false false place y rest = refl

positions_from : (count : ℕ) (xs ys : List ℕ) (place low : ℕ) → drop place xs ≡ ys → low ≡ next_low xs place → first_fault (position_fault_at count xs) (range_with_len place (length ys)) ≡ position_walk count low place ys
positions_from count xs [] place low e l = refl
positions_from count xs (y ∷ ys) place low e l =
    let here : get_or xs place 0 ≡ y = first_behind xs ys place y e in
    ap (or_fault (position_fault_at count xs place)) (positions_from count xs ys (place + 1) (y + 1) (others_behind xs ys place y e) (low_behind xs place y here))
    ∙ ap (λ x. or_fault (cond (nat_lt x count) (cond (rises_at xs place) None (Some (NotRising place))) (Some (PastEnd x))) (position_walk count (y + 1) (place + 1) ys)) here
    ∙ ap (λ r. or_fault (cond (nat_lt y count) (cond r None (Some (NotRising place))) (Some (PastEnd y))) (position_walk count (y + 1) (place + 1) ys)) (rises_from_low xs place low y l here)
    ∙ position_step (nat_lt y count) (nat_lt y low) place y (position_walk count (y + 1) (place + 1) ys)

ids_from : (ids xs ys : List ℕ) (place low : ℕ) → drop place xs ≡ ys → low ≡ next_low xs place → first_fault (id_fault_at ids xs) (range_with_len place (length ys)) ≡ id_walk ids low place ys
ids_from ids xs [] place low e l = refl
ids_from ids xs (y ∷ ys) place low e l =
    let here : get_or xs place 0 ≡ y = first_behind xs ys place y e in
    ap (or_fault (id_fault_at ids xs place)) (ids_from ids xs ys (place + 1) (y + 1) (others_behind xs ys place y e) (low_behind xs place y here))
    ∙ ap (λ x. or_fault (cond (rises_at xs place) (cond (is_among ids x) None (Some (UnknownId x))) (Some (NotRising place))) (id_walk ids (y + 1) (place + 1) ys)) here
    ∙ ap (λ r. or_fault (cond r (cond (is_among ids y) None (Some (UnknownId y))) (Some (NotRising place))) (id_walk ids (y + 1) (place + 1) ys)) (rises_from_low xs place low y l here)
    ∙ id_step (nat_lt y low) (is_among ids y) place y (id_walk ids (y + 1) (place + 1) ys)

-- place by place or as a walk the first fault is the same
pub positions_walked : (count : ℕ) (xs : List ℕ) → position_fault count xs ≡ position_walk count 0 0 xs
unfolding position_fault
positions_walked count xs = positions_from count xs xs 0 0 refl refl

pub ids_walked : (ids xs : List ℕ) → id_fault ids xs ≡ id_walk ids 0 0 xs
unfolding id_fault
ids_walked ids xs = ids_from ids xs xs 0 0 refl refl

pub rising_from_position_walk : (count low place : ℕ) (xs : List ℕ) → position_walk count low place xs ≡ None → Rises low xs × AllByRecursion (λ x. x < count) xs
rising_from_position_walk count low place [] e = (tt, tt)
rising_from_position_walk count low place (x ∷ xs) e =
    by_tests (nat_lt x count) (nat_lt x low) refl refl (rising_from_position_walk count (x + 1) (place + 1) xs) e
  where
    by_tests : (inside below : Bool) → nat_lt x count ≡ inside → nat_lt x low ≡ below
        → (position_walk count (x + 1) (place + 1) xs ≡ None → Rises (x + 1) xs × AllByRecursion (λ x. x < count) xs)
        → cond inside (cond below (Some (NotRising place)) (position_walk count (x + 1) (place + 1) xs)) (Some (PastEnd x)) ≡ None
        → Rises low (x ∷ xs) × AllByRecursion (λ x. x < count) (x ∷ xs)
    by_tests true true a b next e = cc
    by_tests true false a b next e =
        let rest : Rises (x + 1) xs × AllByRecursion (λ x. x < count) xs = next e in
        ((ltb-false x low b, rest.0), (ltb-true x count a, rest.1))
    by_tests false below a b next e = cc

pub rising_from_id_walk : (ids : List ℕ) (low place : ℕ) (xs : List ℕ) → id_walk ids low place xs ≡ None → Rises low xs × AllAmong ids xs
rising_from_id_walk ids low place [] e = (tt, tt)
rising_from_id_walk ids low place (x ∷ xs) e =
    by_tests (nat_lt x low) (is_among ids x) refl refl (rising_from_id_walk ids (x + 1) (place + 1) xs) e
  where
    by_tests : (below known : Bool) → nat_lt x low ≡ below → is_among ids x ≡ known
        → (id_walk ids (x + 1) (place + 1) xs ≡ None → Rises (x + 1) xs × AllAmong ids xs)
        → cond below (Some (NotRising place)) (cond known (id_walk ids (x + 1) (place + 1) xs) (Some (UnknownId x))) ≡ None
        → Rises low (x ∷ xs) × AllAmong ids (x ∷ xs)
    by_tests true known a b next e = cc
    by_tests false true a b next e =
        let rest : Rises (x + 1) xs × AllAmong ids xs = next e in
        ((ltb-false x low a, rest.0), (b, rest.1))
    by_tests false false a b next e = cc

pub no_position_walk : (count low place : ℕ) (xs : List ℕ) → Rises low xs → AllByRecursion (λ x. x < count) xs → position_walk count low place xs ≡ None
no_position_walk count low place [] r h = refl
no_position_walk count low place (x ∷ xs) r h =
    rw (lt-ltb x count h.0, le-ltb x low r.0) (no_position_walk count (x + 1) (place + 1) xs r.1 h.1)

pub no_id_walk : (ids : List ℕ) (low place : ℕ) (xs : List ℕ) → Rises low xs → AllAmong ids xs → id_walk ids low place xs ≡ None
no_id_walk ids low place [] r h = refl
no_id_walk ids low place (x ∷ xs) r h =
    rw (le-ltb x low r.0, h.0) (no_id_walk ids (x + 1) (place + 1) xs r.1 h.1)

pub rising_from_position_fault : (count : ℕ) (xs : List ℕ) → position_fault count xs ≡ None → Rises 0 xs × AllByRecursion (λ x. x < count) xs
rising_from_position_fault count xs e = rising_from_position_walk count 0 0 xs (sym (positions_walked count xs) ∙ e)

pub rising_from_id_fault : (ids xs : List ℕ) → id_fault ids xs ≡ None → Rises 0 xs × AllAmong ids xs
rising_from_id_fault ids xs e = rising_from_id_walk ids 0 0 xs (sym (ids_walked ids xs) ∙ e)

pub no_position_fault : (count : ℕ) (xs : List ℕ) → Rises 0 xs → AllByRecursion (λ x. x < count) xs → position_fault count xs ≡ None
no_position_fault count xs r h = positions_walked count xs ∙ no_position_walk count 0 0 xs r h

pub no_id_fault : (ids xs : List ℕ) → Rises 0 xs → AllAmong ids xs → id_fault ids xs ≡ None
no_id_fault ids xs r h = ids_walked ids xs ∙ no_id_walk ids 0 0 xs r h
