-- Combining over a range of numbers: each item is in the combination, and one item may stand at its turn.
use Rattle.std.proofs.Common.{◌≡◌, ℕ, zero, suc, ◌+◌, ◌<◌, ◌≤◌, Bool, true, false, cond, ◌==◌, refl, sym, ◌∙◌, ap, inl, inr, arith}
use Rattle.std.specs.List.{range_with_len}
use Rattle.std.proofs.lemmas.Bool.Decides.{eqb_tells}
use Rattle.reduce_laws.specs.ReductionLaws.{Reducer, ReductionLaws, combined}
use Rattle.reduce_laws.proofs.Combining.{each, combined_is_value}

module _ {Item : Type 0} {IsItem : Item → Type 0} {reducer : Reducer Item} (laws : ReductionLaws IsItem reducer) where
  module _ (f : ℕ → Item) (value : (k : ℕ) → IsItem (f k)) where
    pub range_is_value : (first count : ℕ) → IsItem (combined reducer f (range_with_len first count))
    range_is_value first count = combined_is_value laws f (range_with_len first count) (each (λ k. IsItem (f k)) value (range_with_len first count))

    -- where items are kept, each is in what they come to
    pub combined_has : reducer.keeps ≡ true → (first count k : ℕ) → first ≤ k → k < first + count → reducer.combine (combined reducer f (range_with_len first count)) (f k) ≡ combined reducer f (range_with_len first count)
    combined_has keeps first zero k low high = absurd (omega arith)
    combined_has keeps first (suc count) k low high =
        let rest = combined reducer f (range_with_len (first + 1) count) in
        let split = laws.combine_assoc (f first) rest (f k) (value first) (range_is_value (first + 1) count) (value k) in
        elim (eqb_tells k first) [
          | inl same ↦ split
              ∙ ap (reducer.combine (f first)) (laws.combine_comm rest (f k) (range_is_value (first + 1) count) (value k))
              ∙ sym (laws.combine_assoc (f first) (f k) rest (value first) (value k) (range_is_value (first + 1) count))
              ∙ ap (λ x. reducer.combine x rest) (ap (λ n. reducer.combine (f first) (f n)) same.1 ∙ laws.combine_itself keeps (f first) (value first))
          | inr other ↦ split ∙ ap (reducer.combine (f first)) (combined_has keeps (first + 1) count k (let apart = other.1 in omega arith) (omega arith))
        ]

    module _ (g : ℕ → Item) (others : (k : ℕ) → IsItem (g k)) (turn : ℕ) (free : g turn ≡ reducer.identity) where
      -- the second items, but at one turn the first
      unfoldable pub at_turn : ℕ → Item
      at_turn k = cond (k == turn) (f turn) (g k)

      pub at_turn_is_value : (k : ℕ) → IsItem (at_turn k)
      unfolding at_turn
      at_turn_is_value k = step (k == turn)
        where
          step : (b : Bool) → IsItem (cond b (f turn) (g k))
          step true = value turn
          step false = others k

      -- after the turn there are the second ones alone
      past_turn : (first count : ℕ) → turn < first → combined reducer at_turn (range_with_len first count) ≡ combined reducer g (range_with_len first count)
      unfolding at_turn
      past_turn first zero past = refl
      past_turn first (suc count) past =
          elim (eqb_tells first turn) [
            | inl same ↦ absurd (let is = same.1 in omega arith)
            | inr other ↦ ap (λ b. reducer.combine (cond b (f turn) (g first)) (combined reducer at_turn (range_with_len (first + 1) count))) other.0
                ∙ ap (reducer.combine (g first)) (past_turn (first + 1) count (omega arith))
          ]

      -- one first item beside the second ones may stand at its turn
      pub takes_turn : (first count : ℕ) → first ≤ turn → turn < first + count → reducer.combine (f turn) (combined reducer g (range_with_len first count)) ≡ combined reducer at_turn (range_with_len first count)
      unfolding at_turn
      takes_turn first zero low high = absurd (omega arith)
      takes_turn first (suc count) low high =
          let rest = combined reducer g (range_with_len (first + 1) count) in
          let rest_value = combined_is_value laws g (range_with_len (first + 1) count) (each (λ k. IsItem (g k)) others (range_with_len (first + 1) count)) in
          elim (eqb_tells first turn) [
            | inl same ↦ ap (λ x. reducer.combine (f turn) (reducer.combine x rest)) (ap g same.1 ∙ free)
                ∙ ap (reducer.combine (f turn)) (laws.combine-identity rest rest_value ∙ sym (past_turn (first + 1) count (let is = same.1 in omega arith)))
                ∙ ap (λ b. reducer.combine (cond b (f turn) (g first)) (combined reducer at_turn (range_with_len (first + 1) count))) (sym same.0)
            | inr other ↦ sym (laws.combine_assoc (f turn) (g first) rest (value turn) (others first) rest_value)
                ∙ ap (λ x. reducer.combine x rest) (laws.combine_comm (f turn) (g first) (value turn) (others first))
                ∙ laws.combine_assoc (g first) (f turn) rest (others first) (value turn) rest_value
                ∙ ap (reducer.combine (g first)) (takes_turn (first + 1) count (let apart = other.1 in omega arith) (omega arith))
                ∙ ap (λ b. reducer.combine (cond b (f turn) (g first)) (combined reducer at_turn (range_with_len (first + 1) count))) (sym other.0)
          ]
