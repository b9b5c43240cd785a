-- One entry is taken: what is changed for it now, and for the others later, comes to what all entries
-- change. A number of a rising list has the entry for its place there, if there is one.
use Rattle.std.proofs.Common.{◌≡◌, ◌≢◌, ◌<◌, ◌+◌, ℕ, Option, Some, None, List, [], ◌∷◌, length, map, get_or, subst, refl, sym, ap, ◌∙◌, inl, inr, arith}
use Rattle.std.specs.Prelude.{nat_eq}
use Rattle.std.specs.List.Sorted.{IsStrictlyIncreasing}
use Rattle.std.proofs.lemmas.Bool.{eq-eqb, ne_eqb, eqb-true}
use Rattle.std.proofs.lemmas.Bool.Decides.{eqb_tells}
use Rattle.std.proofs.lemmas.List.Elements.{All-tail}
use Rattle.std.proofs.lemmas.List.Sums.{passes_at_first}
use Rattle.list_laws.specs.Among.{place_of}
use Rattle.list_laws.specs.Rising.{Rises}
use Rattle.list_laws.proofs.Among.{place_of-at}
use Rattle.list_laws.proofs.Rising.{Rises-from_increasing, Rises-lower}
use Rattle.field_encodings.specs.EntryOrder.{AreEntries}
use Rattle.field_encodings.specs.Packets.{value_at}
use Rattle.field_encodings.proofs.EntryOrderLemmas.{increasing_from_rises}

-- no entry is at a position below all of them
none_below : {X : Type 0} (p : ℕ) (found : List (ℕ × X)) → Rises (p + 1) (map (λ entry. entry.0) found) → value_at found p ≡ None
none_below p [] r = refl
none_below p (entry ∷ rest) r =
    rw (ne_eqb entry.0 p (λ same. omega arith)) (none_below p rest (Rises-lower (p + 1) (entry.0 + 1) (map (λ e. e.0) rest) (omega arith) r.1))

module _ {X : Type 0} {IsValue : X → Type 0} (locals : List ℕ) (rise : IsStrictlyIncreasing locals) (p : ℕ) (x : X) (rest : List (ℕ × X)) (order : AreEntries IsValue (length locals) ((p, x) ∷ rest)) where
  -- the entry is at a position of the list
  pub first_below : p < length locals
  first_below = order.below 0 (p, x) (omega arith)

  behind : Rises (p + 1) (map (λ (entry : ℕ × X). entry.0) rest)
  behind = (Rises-from_increasing 0 (map (λ (entry : ℕ × X). entry.0) ((p, x) ∷ rest)) order.rise (λ some. omega arith)).1

  -- the others are entries too
  pub rest_are_entries : AreEntries IsValue (length locals) rest
  rest_are_entries = record {
    below = All-tail (λ (e : ℕ × X). e.0 < length locals) (p, x) rest order.below;
    rise = increasing_from_rises (p + 1) (map (λ (entry : ℕ × X). entry.0) rest) behind;
    values = All-tail (λ (e : ℕ × X). IsValue e.1) (p, x) rest order.values;
  }

  place_here : place_of locals (get_or locals p 0) ≡ p
  place_here = place_of-at 0 locals p (get_or locals p 0) (Rises-from_increasing 0 locals rise (λ some. omega arith)) first_below refl

  -- the number at its position has its value, and no other entry
  value_here : value_at ((p, x) ∷ rest) (place_of locals (get_or locals p 0)) ≡ Some x
  value_here = rw place_here (rw (eq-eqb p p refl) refl)

  none_left : value_at rest (place_of locals (get_or locals p 0)) ≡ None
  none_left = rw place_here (none_below p rest behind)

  -- every other number has what it has in the others
  value_elsewhere : (l : ℕ) → get_or locals p 0 ≢ l → value_at ((p, x) ∷ rest) (place_of locals l) ≡ value_at rest (place_of locals l)
  value_elsewhere l apart = rw (ne_eqb p (place_of locals l) (λ same. apart (stands same))) refl
    where
      stands : p ≡ place_of locals l → get_or locals p 0 ≡ l
      stands same =
          let within : place_of locals l < length locals = omega (arith, first_below) in
          ap (λ n. get_or locals n 0) same ∙ eqb-true (get_or locals (place_of locals l) 0) l (passes_at_first (λ other. nat_eq other l) locals 0 within)

  -- a list is changed where the entry says so, and later by the others: that is a change by all
  pub one_entry_more : {Y : Type 0} (changed : ℕ → Y → Option X → Y) → ((l : ℕ) (y : Y) → changed l y None ≡ y)
      → (now new : List Y) (d : Y) → get_or new (get_or locals p 0) d ≡ changed (get_or locals p 0) (get_or now (get_or locals p 0) d) (Some x)
      → ((l : ℕ) → l ≢ get_or locals p 0 → get_or new l d ≡ get_or now l d)
      → (l : ℕ) → changed l (get_or new l d) (value_at rest (place_of locals l)) ≡ changed l (get_or now l d) (value_at ((p, x) ∷ rest) (place_of locals l))
  one_entry_more {Y} changed none_stays now new d here others l =
      elim (eqb_tells (get_or locals p 0) l) [
        | inl same ↦ subst at_l same.1 (
            ap (changed (get_or locals p 0) (get_or new (get_or locals p 0) d)) none_left
            ∙ none_stays (get_or locals p 0) (get_or new (get_or locals p 0) d)
            ∙ here ∙ ap (changed (get_or locals p 0) (get_or now (get_or locals p 0) d)) (sym value_here)
            )
        | inr other ↦ ap (λ y. changed l y (value_at rest (place_of locals l))) (others l (λ e. other.1 (sym e)))
            ∙ ap (changed l (get_or now l d)) (sym (value_elsewhere l other.1))
      ]
    where
      at_l : ℕ → Type 0
      at_l n = changed n (get_or new n d) (value_at rest (place_of locals n)) ≡ changed n (get_or now n d) (value_at ((p, x) ∷ rest) (place_of locals n))
