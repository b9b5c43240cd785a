-- What the members of a set choose of a list, and the sets and lists that choose what is given.
use Rattle.std.proofs.Common.{◌≡◌, ◌<◌, ◌≤◌, ℕ, suc, ◌+◌, Bool, true, false, cond, List, [], ◌∷◌, length, map, refl, sym, ap, subst, ◌∙◌, arith, inl, inr, zero-add}
use Rattle.std.specs.Prelude.{nat_eq}
use Rattle.std.specs.List.{AllByRecursion, items_where_true, range_with_len}
use Rattle.std.proofs.lemmas.Bool.{eq-eqb, ne_eqb, cases_eq}
use Rattle.list_laws.specs.Rising.{Rises}
use Rattle.list_laws.specs.Among.{is_among, place_of, AllAmong}
use Rattle.list_laws.specs.Members.{members_from}
use Rattle.list_laws.proofs.Rising.{Rises-lower}
use Rattle.list_laws.proofs.Among.{among_tail, among_rising, place_of-later, place_of-first}

pub length-items : {A : Type 0} (marks : List Bool) (xs : List A) (first : ℕ) → length xs ≡ length marks → length (items_where_true marks xs) ≡ length (members_from first marks)
length-items [] xs first e = refl
length-items (mark ∷ marks) [] first e = absurd (omega arith)
length-items (true ∷ marks) (x ∷ xs) first e = ap suc (length-items marks xs (first + 1) (omega arith))
length-items (false ∷ marks) (x ∷ xs) first e = length-items marks xs (first + 1) (omega arith)

-- the marked positions are what the marks choose of all positions
pub members-items : (first : ℕ) (marks : List Bool) → members_from first marks ≡ items_where_true marks (range_with_len first (length marks))
members-items first [] = refl
members-items first (true ∷ marks) = ap (λ rest. first ∷ rest) (members-items (first + 1) marks)
members-items first (false ∷ marks) = members-items (first + 1) marks

pub All-items : {A : Type 0} (P : A → Type 0) (marks : List Bool) (xs : List A) → AllByRecursion P xs → AllByRecursion P (items_where_true marks xs)
All-items P [] xs h = tt
All-items P (mark ∷ marks) [] h = tt
All-items P (true ∷ marks) (x ∷ xs) h = (h.0, All-items P marks xs h.1)
All-items P (false ∷ marks) (x ∷ xs) h = All-items P marks xs h.1

pub Rises-items : (low : ℕ) (marks : List Bool) (xs : List ℕ) → Rises low xs → Rises low (items_where_true marks xs)
Rises-items low [] xs r = tt
Rises-items low (mark ∷ marks) [] r = tt
Rises-items low (true ∷ marks) (x ∷ xs) r = (r.0, Rises-items (x + 1) marks xs r.1)
Rises-items low (false ∷ marks) (x ∷ xs) r = Rises-items low marks xs (Rises-lower low (x + 1) xs (omega arith) r.1)

-- past the head of a list, places count one more
places_later : (first y : ℕ) (ys xs : List ℕ) → Rises (y + 1) xs → map (λ x. first + place_of (y ∷ ys) x) xs ≡ map (λ x. (first + 1) + place_of ys x) xs
places_later first y ys [] r = refl
places_later first y ys (x ∷ xs) r =
    let later : place_of (y ∷ ys) x ≡ 1 + place_of ys x = place_of-later y x ys (omega arith) in
    let head : first + place_of (y ∷ ys) x ≡ (first + 1) + place_of ys x = omega arith in
    let rest : map (λ x. first + place_of (y ∷ ys) x) xs ≡ map (λ x. (first + 1) + place_of ys x) xs = places_later first y ys xs (Rises-lower (y + 1) (x + 1) xs (omega arith) r.1) in
    ap (λ z. z ∷ map (λ x. first + place_of (y ∷ ys) x) xs) head ∙ ap (λ zs. ((first + 1) + place_of ys x) ∷ zs) rest

-- the places of the items_where_true ids are the marked positions
pub places-items : (first low : ℕ) (marks : List Bool) (ids : List ℕ) → Rises low ids → length marks ≡ length ids → map (λ x. first + place_of ids x) (items_where_true marks ids) ≡ members_from first marks
places-items first low [] ids r e = refl
places-items first low (mark ∷ marks) [] r e = absurd (omega arith)
places-items first low (true ∷ marks) (y ∷ ys) r e =
    let head : first + place_of (y ∷ ys) y ≡ first = omega (arith, place_of-first y ys) in
    let rest : map (λ x. first + place_of (y ∷ ys) x) (items_where_true marks ys) ≡ members_from (first + 1) marks
    = places_later first y ys (items_where_true marks ys) (Rises-items (y + 1) marks ys r.1) ∙ places-items (first + 1) (y + 1) marks ys r.1 (omega arith) in
    ap (λ z. z ∷ map (λ x. first + place_of (y ∷ ys) x) (items_where_true marks ys)) head ∙ ap (λ zs. first ∷ zs) rest
places-items first low (false ∷ marks) (y ∷ ys) r e =
    places_later first y ys (items_where_true marks ys) (Rises-items (y + 1) marks ys r.1) ∙ places-items (first + 1) (y + 1) marks ys r.1 (omega arith)

map_from_zero : (ids xs : List ℕ) → map (λ x. 0 + place_of ids x) xs ≡ map (place_of ids) xs
map_from_zero ids [] = refl
map_from_zero ids (x ∷ xs) = ap (λ z. z ∷ map (λ x. 0 + place_of ids x) xs) (zero-add (place_of ids x)) ∙ ap (λ zs. place_of ids x ∷ zs) (map_from_zero ids xs)

pub places_of_items : (low : ℕ) (marks : List Bool) (ids : List ℕ) → Rises low ids → length marks ≡ length ids → map (place_of ids) (items_where_true marks ids) ≡ members_from 0 marks
places_of_items low marks ids r e = sym (map_from_zero ids (items_where_true marks ids)) ∙ places-items 0 low marks ids r e

-- ---- marks for given ids

-- true at the ids that are listed, both lists rising
abbrev pub marks_naming : (ids xs : List ℕ) → List Bool
marks_naming [] xs = []
marks_naming (id ∷ ids) [] = false ∷ marks_naming ids []
marks_naming (id ∷ ids) (x ∷ xs) = cond (nat_eq id x) (true ∷ marks_naming ids xs) (false ∷ marks_naming ids (x ∷ xs))

pub length-marks_naming : (ids xs : List ℕ) → length (marks_naming ids xs) ≡ length ids
length-marks_naming [] xs = refl
length-marks_naming (id ∷ ids) [] = ap suc (length-marks_naming ids [])
length-marks_naming (id ∷ ids) (x ∷ xs) =
    elim (cases_eq id x) [
      | inl same ↦ rw (eq-eqb id x same) (ap suc (length-marks_naming ids xs))
      | inr other ↦ rw (ne_eqb id x other) (ap suc (length-marks_naming ids (x ∷ xs)))
    ]

-- they choose these ids
pub items-marks_naming : (low high : ℕ) (ids xs : List ℕ) → Rises low ids → Rises high xs → AllAmong ids xs → items_where_true (marks_naming ids xs) ids ≡ xs
items-marks_naming low high [] [] r s h = refl
items-marks_naming low high [] (x ∷ xs) r s h = let no : false ≡ true = h.0 in cc
items-marks_naming low high (id ∷ ids) [] r s h = items-marks_naming (id + 1) high ids [] r.1 tt tt
items-marks_naming low high (id ∷ ids) (x ∷ xs) r s h =
    elim (cases_eq id x) [
      | inl same ↦
          let next : Rises (id + 1) xs = Rises-lower (id + 1) (x + 1) xs (omega arith) s.1 in
          rw (eq-eqb id x same) (ap (λ y. y ∷ items_where_true (marks_naming ids xs) ids) same ∙ ap (λ ys. x ∷ ys) (items-marks_naming (id + 1) (x + 1) ids xs r.1 s.1 (among_tail id ids xs next h.1)))
      | inr other ↦
          let known : is_among ids x ≡ true = rw (ne_eqb id x other) at h.0 in
          let above : id + 1 ≤ x = among_rising (id + 1) x ids r.1 known in
          let next : Rises (id + 1) (x ∷ xs) = (above, s.1) in
          rw (ne_eqb id x other) (items-marks_naming (id + 1) high ids (x ∷ xs) r.1 s (among_tail id ids (x ∷ xs) next h))
    ]

-- ---- values at the marked positions

-- values in turn at the marked positions, and a filler at the others
abbrev pub spread : {X : Type 0} → X → List Bool → List X → List X
spread filler [] values = []
spread filler (true ∷ marks) [] = filler ∷ spread filler marks []
spread filler (true ∷ marks) (value ∷ values) = value ∷ spread filler marks values
spread filler (false ∷ marks) values = filler ∷ spread filler marks values

pub length-spread : {X : Type 0} (filler : X) (marks : List Bool) (values : List X) → length (spread filler marks values) ≡ length marks
length-spread filler [] values = refl
length-spread filler (true ∷ marks) [] = ap suc (length-spread filler marks [])
length-spread filler (true ∷ marks) (value ∷ values) = ap suc (length-spread filler marks values)
length-spread filler (false ∷ marks) values = ap suc (length-spread filler marks values)

pub items-spread : {X : Type 0} (filler : X) (first : ℕ) (marks : List Bool) (values : List X) → length values ≡ length (members_from first marks) → items_where_true marks (spread filler marks values) ≡ values
items-spread filler first [] [] e = refl
items-spread filler first [] (value ∷ values) e = absurd (omega arith)
items-spread filler first (true ∷ marks) [] e = absurd (omega arith)
items-spread filler first (true ∷ marks) (value ∷ values) e = ap (λ rest. value ∷ rest) (items-spread filler (first + 1) marks values (omega arith))
items-spread filler first (false ∷ marks) values e = items-spread filler (first + 1) marks values e

pub All-spread : {X : Type 0} (P : X → Type 0) (filler : X) (marks : List Bool) (values : List X) → P filler → AllByRecursion P values → AllByRecursion P (spread filler marks values)
All-spread P filler [] values f h = tt
All-spread P filler (true ∷ marks) [] f h = (f, All-spread P filler marks [] f tt)
All-spread P filler (true ∷ marks) (value ∷ values) f h = (h.0, All-spread P filler marks values f h.1)
All-spread P filler (false ∷ marks) values f h = (f, All-spread P filler marks values f h)

pub Rises-members : (first : ℕ) (marks : List Bool) → Rises first (members_from first marks)
Rises-members first [] = tt
Rises-members first (true ∷ marks) = (omega arith, Rises-members (first + 1) marks)
Rises-members first (false ∷ marks) = Rises-lower first (first + 1) (members_from (first + 1) marks) (omega arith) (Rises-members (first + 1) marks)

pub members_below : (first count : ℕ) (marks : List Bool) → first + length marks ≤ count → AllByRecursion (λ x. x < count) (members_from first marks)
members_below first count [] l = tt
members_below first count (true ∷ marks) l = (omega arith, members_below (first + 1) count marks (omega arith))
members_below first count (false ∷ marks) l = members_below (first + 1) count marks (omega arith)

first_is_later : (first : ℕ) (rest : List ℕ) (marks : List Bool) → first ∷ rest ≡ members_from (first + 1) marks → ⊥
first_is_later first rest marks same =
    let rises : Rises (first + 1) (first ∷ rest) = subst (λ xs. Rises (first + 1) xs) (sym same) (Rises-members (first + 1) marks) in
    let high : first + 1 ≤ first = rises.0 in
    omega arith

-- marks are known by their positions
pub same_marks : (first : ℕ) (marks others : List Bool) → length marks ≡ length others → members_from first marks ≡ members_from first others → marks ≡ others
same_marks first [] [] e same = refl
same_marks first [] (other ∷ others) e same = absurd (omega arith)
same_marks first (mark ∷ marks) [] e same = absurd (omega arith)
same_marks first (true ∷ marks) (true ∷ others) e same =
    let rest : members_from (first + 1) marks ≡ members_from (first + 1) others = cc in
    ap (λ more. true ∷ more) (same_marks (first + 1) marks others (omega arith) rest)
same_marks first (false ∷ marks) (false ∷ others) e same = ap (λ more. false ∷ more) (same_marks (first + 1) marks others (omega arith) same)
same_marks first (true ∷ marks) (false ∷ others) e same = absurd (first_is_later first (members_from (first + 1) marks) others same)
same_marks first (false ∷ marks) (true ∷ others) e same = absurd (first_is_later first (members_from (first + 1) others) marks (sym same))
