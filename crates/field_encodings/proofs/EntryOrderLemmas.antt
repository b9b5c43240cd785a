-- The entries of a form rise, are the list's, and have values of words.
use Rattle.std.proofs.Common.{◌≡◌, ◌<◌, ◌≤◌, ℕ, zero, suc, ◌+◌, Bool, List, [], ◌∷◌, length, map, get_or, sym, ◌∙◌, arith, subst, add-one, Ok, Err, Result}
use Rattle.std.specs.Prelude.{IfOk}
use Rattle.std.specs.List.{AllByRecursion, zip, range_with_len}
use Rattle.std.specs.List.Sorted.{IsStrictlyIncreasing}
use Rattle.std.proofs.lemmas.List.Elements.{All-from_recursion, recursion_from_All}
use Rattle.std.proofs.lemmas.Slice.Zip.{firsts-zip}
use Rattle.field_encodings.specs.declared.decode_fault.DecodeFault.{DecodeFault}
use Rattle.field_encodings.specs.Forms.{carried, sent, entries, IsForm, IsWellFormed}
use Rattle.field_encodings.specs.EntryOrder.{AreEntries}
use Rattle.std.proofs.lemmas.List.FromFn.{length-range_with_len}
use Rattle.list_laws.specs.Rising.{Rises}
use Rattle.list_laws.proofs.Rising.{Rises-range, at_least}
use Rattle.list_laws.proofs.Chosen.{length-items, All-items, Rises-members, members_below}

-- rising lists as the standard library says it
pub increasing_from_rises : (low : ℕ) (xs : List ℕ) → Rises low xs → IsStrictlyIncreasing xs
increasing_from_rises low [] r k l = absurd (omega arith)
increasing_from_rises low (x ∷ xs) r zero l = let above : x + 1 ≤ get_or xs 0 0 = at_least (x + 1) xs 0 r.1 (omega arith) in omega arith
increasing_from_rises low (x ∷ xs) r (suc k) l =
    let later : get_or xs k 0 < get_or xs (k + 1) 0 = increasing_from_rises (x + 1) xs r.1 k (omega arith) in
    let moved : get_or xs k 0 < get_or xs (suc k) 0 = rw add-one at later in
    rw add-one moved

count_up_below : (first count limit : ℕ) → first + count ≤ limit → AllByRecursion (λ x. x < limit) (range_with_len first count)
count_up_below first zero limit l = tt
count_up_below first (suc count) limit l = (omega arith, count_up_below (first + 1) count limit (omega arith))

all_first : {X : Type 0} (P : ℕ → Type 0) (ks : List ℕ) (vs : List X) → AllByRecursion P ks → AllByRecursion (λ entry. P entry.0) (zip ks vs)
all_first P [] vs h = tt
all_first P (k ∷ ks) [] h = tt
all_first P (k ∷ ks) (v ∷ vs) h = (h.0, all_first P ks vs h.1)

all_second : {X : Type 0} (P : X → Type 0) (ks : List ℕ) (vs : List X) → AllByRecursion P vs → AllByRecursion (λ entry. P entry.1) (zip ks vs)
all_second P [] vs h = tt
all_second P (k ∷ ks) [] h = tt
all_second P (k ∷ ks) (v ∷ vs) h = (h.0, all_second P ks vs h.1)

carried_below : (tag : ℕ) (marks : List Bool) → AllByRecursion (λ x. x < length marks) (carried tag marks)
carried_below zero marks = count_up_below 0 (length marks) (length marks) (omega arith)
carried_below (suc more) marks = members_below 0 (length marks) marks (omega arith)

carried_rises : (tag : ℕ) (marks : List Bool) → Rises 0 (carried tag marks)
carried_rises zero marks = Rises-range 0 (length marks)
carried_rises (suc more) marks = Rises-members 0 marks

sent_values : {X : Type 0} (P : X → Type 0) (tag : ℕ) (marks : List Bool) (values : List X) → AllByRecursion P values → AllByRecursion P (sent tag marks values)
sent_values P zero marks values h = h
sent_values P (suc more) marks values h = All-items P marks values h

as_many : {X : Type 0} (tag : ℕ) (marks : List Bool) (values : List X) → length values ≡ length marks → length (sent tag marks values) ≡ length (carried tag marks)
as_many zero marks values e = e ∙ sym (length-range_with_len 0 (length marks))
as_many (suc more) marks values e = length-items marks values 0 e

module _ {X : Type 0} (IsValue : X → Type 0) (bytes_of : X → List ℕ) (ids bytes : List ℕ) where
  entries_are : (tag : ℕ) (marks : List Bool) (values : List X) → IsForm IsValue bytes_of ids bytes tag marks values → AreEntries IsValue (length ids) (entries tag marks values)
  entries_are tag marks values f =
      let below : AllByRecursion (λ (entry : ℕ × X). entry.0 < length ids) (entries tag marks values)
      = subst (λ n. AllByRecursion (λ (entry : ℕ × X). entry.0 < n) (entries tag marks values)) f.mark_for_each (all_first (λ x. x < length marks) (carried tag marks) (sent tag marks values) (carried_below tag marks)) in
      let firsts : map (λ (entry : ℕ × X). entry.0) (entries tag marks values) ≡ carried tag marks
      = firsts-zip (carried tag marks) (sent tag marks values) (as_many tag marks values (f.value_for_each ∙ sym f.mark_for_each)) in
      let rise : IsStrictlyIncreasing (map (λ (entry : ℕ × X). entry.0) (entries tag marks values))
      = subst IsStrictlyIncreasing (sym firsts) (increasing_from_rises 0 (carried tag marks) (carried_rises tag marks)) in
      let are : AllByRecursion (λ (entry : ℕ × X). IsValue entry.1) (entries tag marks values)
      = all_second IsValue (carried tag marks) (sent tag marks values) (sent_values IsValue tag marks values (recursion_from_All IsValue values f.are_values)) in
      record {
        below = All-from_recursion (λ (entry : ℕ × X). entry.0 < length ids) (entries tag marks values) below;
        rise = rise;
        values = All-from_recursion (λ (entry : ℕ × X). IsValue entry.1) (entries tag marks values) are;
      }

  found_are : (found : List (ℕ × X)) → IsWellFormed IsValue bytes_of ids bytes found → AreEntries IsValue (length ids) found
  found_are found w = subst (AreEntries IsValue (length ids)) (sym w.4) (entries_are w.0 w.1 w.2 w.3)

  pub found_if : (answer : Result (List (ℕ × X)) DecodeFault) → IfOk answer (IsWellFormed IsValue bytes_of ids bytes) → IfOk answer (AreEntries IsValue (length ids))
  found_if (Ok found) w = found_are found w
  found_if (Err fault) w = tt
