-- What the entries of a form have at a position.
use Rattle.std.proofs.Common.{◌≡◌, ◌<◌, ℕ, zero, suc, ◌+◌, Bool, true, false, cond, List, [], ◌∷◌, length, refl, sym, ap, ◌∙◌, arith}
use Rattle.std.specs.Prelude.{slice_get, None, ◌||◌}
use Rattle.std.specs.List.{zip, range_with_len, items_where_true}
use Rattle.std.proofs.lemmas.Bool.{eq-eqb, ne_eqb}
use Rattle.list_laws.specs.Members.{has_member, members_from}
use Rattle.field_encodings.specs.Packets.{value_at}
use Rattle.field_encodings.specs.Laws.{EntriesAreCarried}

-- with all positions
all_at : {X : Type 0} (first p : ℕ) (values : List X) → value_at (zip (range_with_len first (length values)) values) (first + p) ≡ slice_get values p
all_at first p [] = refl
all_at first zero (v ∷ values) = rw (eq-eqb first (first + 0) (omega arith)) refl
all_at first (suc p) (v ∷ values) =
    let next : first + suc p ≡ first + 1 + p = omega arith in
    rw (ne_eqb first (first + suc p) (λ e. omega arith)) (ap (value_at (zip (range_with_len (first + 1) (length values)) values)) next ∙ all_at (first + 1) p values)

-- no position before the first has one
none_before : {X : Type 0} (first x : ℕ) (marks : List Bool) (values : List X) → length values ≡ length marks → x < first → value_at (zip (members_from first marks) (items_where_true marks values)) x ≡ None
none_before first x [] values e l = refl
none_before first x (mark ∷ marks) [] e l = absurd (omega arith)
none_before first x (true ∷ marks) (v ∷ values) e l = rw (ne_eqb first x (λ same. omega arith)) (none_before (first + 1) x marks values (omega arith) (omega arith))
none_before first x (false ∷ marks) (v ∷ values) e l = none_before (first + 1) x marks values (omega arith) (omega arith)

-- with the marked positions
marked_at : {X : Type 0} (first p : ℕ) (marks : List Bool) (values : List X) → length values ≡ length marks
    → value_at (zip (members_from first marks) (items_where_true marks values)) (first + p) ≡ cond (has_member marks p) (slice_get values p) None
marked_at first p [] values e = refl
marked_at first p (mark ∷ marks) [] e = absurd (omega arith)
marked_at first zero (true ∷ marks) (v ∷ values) e = rw (eq-eqb first (first + 0) (omega arith)) refl
marked_at first zero (false ∷ marks) (v ∷ values) e = none_before (first + 1) (first + 0) marks values (omega arith) (omega arith)
marked_at first (suc p) (true ∷ marks) (v ∷ values) e =
    let next : first + suc p ≡ first + 1 + p = omega arith in
    rw (ne_eqb first (first + suc p) (λ same. omega arith)) (ap (value_at (zip (members_from (first + 1) marks) (items_where_true marks values))) next ∙ marked_at (first + 1) p marks values (omega arith))
marked_at first (suc p) (false ∷ marks) (v ∷ values) e =
    let next : first + suc p ≡ first + 1 + p = omega arith in
    ap (value_at (zip (members_from (first + 1) marks) (items_where_true marks values))) next ∙ marked_at (first + 1) p marks values (omega arith)

pub entries_are_carried : (X : Type 0) → EntriesAreCarried X
entries_are_carried X zero position marks values e =
    let place : position ≡ 0 + position = omega arith in
    ap (λ n. value_at (zip (range_with_len 0 n) values) position) (sym e)
    ∙ ap (value_at (zip (range_with_len 0 (length values)) values)) place ∙ all_at 0 position values
entries_are_carried X (suc more) position marks values e =
    let place : position ≡ 0 + position = omega arith in
    ap (value_at (zip (members_from 0 marks) (items_where_true marks values))) place ∙ marked_at 0 position marks values e
    ∙ sym (ap (λ b. cond (b || has_member marks position) (slice_get values position) None) (ne_eqb (suc more) 0 (λ same. omega arith)))
