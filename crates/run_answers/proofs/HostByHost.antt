-- Vertices by the host of their master, where hosts do not fall along the vertices: host by host they are
-- all vertices in order.
use Rattle.std.proofs.Common.{◌≡◌, ℕ, zero, suc, ◌+◌, ◌<◌, ◌≤◌, cond, not, ◌==◌, nat_lt, List, [], ◌∷◌, ◌++◌, length, map, get_or, slice_index_or, refl, sym, ap, ◌∙◌, arith, inl, inr}
use Rattle.std.specs.List.{All, filter, flat_map, range_with_len, zip}
use Rattle.std.specs.List.Sorted.{IsNonDecreasing}
use Rattle.std.proofs.lemmas.Bool.{cases_lt, cases_eq, eq-eqb, ne_eqb, lt-ltb, le-ltb}
use Rattle.std.proofs.lemmas.List.Concat.{flat_map-cons}
use Rattle.std.proofs.lemmas.List.Elements.{All-head, All-tail}
use Rattle.list_laws.specs.Rising.{NeverFalls}
use Rattle.list_laws.proofs.Rising.{NeverFalls-lower}

module _ (home : ℕ → ℕ) where
  -- the vertices whose home is below one, those of one home, and those of the others
  abbrev pub below : ℕ → List ℕ → List ℕ
  below h vs = filter (λ v. nat_lt (home v) h) vs

  abbrev pub of : ℕ → List ℕ → List ℕ
  of h vs = filter (λ v. home v == h) vs

  abbrev pub others : ℕ → List ℕ → List ℕ
  others h vs = filter (λ v. not (nat_lt (home v) h)) vs

  -- where homes do not fall from one on, none is below it
  none_below : (low h : ℕ) (vs : List ℕ) → h ≤ low → NeverFalls low (map home vs) → below h vs ≡ []
  none_below low h [] order rise = refl
  none_below low h (v ∷ vs) order rise =
      ap (λ b. cond b (v ∷ below h vs) (below h vs)) (le-ltb (home v) h (omega (arith, rise.0)))
      ∙ none_below (home v) h vs (omega (arith, rise.0)) rise.1

  -- those of one home more
  pub one_more : (low h : ℕ) (vs : List ℕ) → NeverFalls low (map home vs) → below (h + 1) vs ≡ below h vs ++ of h vs
  one_more low h [] rise = refl
  one_more low h (v ∷ vs) rise =
      let rest : below (h + 1) vs ≡ below h vs ++ of h vs = one_more (home v) h vs rise.1 in
      elim (cases_lt (home v) h) [
        | inl low ↦ rw (lt-ltb (home v) (h + 1) (omega arith), lt-ltb (home v) h low, ne_eqb (home v) h (λ same. omega arith)) (ap (λ ws. v ∷ ws) rest)
        | inr high ↦ elim (cases_eq (home v) h) [
          | inl same ↦
              let none = none_below (home v) h vs high rise.1 in
              rw (lt-ltb (home v) (h + 1) (omega arith), le-ltb (home v) h high, eq-eqb (home v) h same, none) (ap (λ ws. v ∷ ws) (rest ∙ ap (λ ws. ws ++ of h vs) none))
          | inr other ↦ rw (le-ltb (home v) (h + 1) (omega arith), le-ltb (home v) h high, ne_eqb (home v) h other) rest
        ]
      ]

  -- and then the others
  pub all_parted : (low h : ℕ) (vs : List ℕ) → NeverFalls low (map home vs) → vs ≡ below h vs ++ others h vs
  all_parted low h [] rise = refl
  all_parted low h (v ∷ vs) rise =
      let rest : vs ≡ below h vs ++ others h vs = all_parted (home v) h vs rise.1 in
      elim (cases_lt (home v) h) [
        | inl low ↦ rw (lt-ltb (home v) h low) (ap (λ ws. v ∷ ws) rest)
        | inr high ↦
            let none = none_below (home v) h vs high rise.1 in
            rw (le-ltb (home v) h high, none) (ap (λ ws. v ∷ ws) (rest ∙ ap (λ ws. ws ++ others h vs) none))
      ]

  -- at first there are none
  pub none_at_first : (vs : List ℕ) → below 0 vs ≡ []
  none_at_first [] = refl
  none_at_first (v ∷ vs) = ap (λ b. cond b (v ∷ below 0 vs) (below 0 vs)) (le-ltb (home v) 0 (omega arith)) ∙ none_at_first vs

  -- and at last all
  pub all_at_last : (h : ℕ) (vs : List ℕ) → All (λ v. home v < h) vs → below h vs ≡ vs
  all_at_last h [] all = refl
  all_at_last h (v ∷ vs) all =
      rw (lt-ltb (home v) h (All-head (λ u. home u < h) v vs all)) (ap (λ ws. v ∷ ws) (all_at_last h vs (All-tail (λ u. home u < h) v vs all)))

-- homes by number do not fall where a list does not
pub homes_rise : (homes : List ℕ) (first count : ℕ) → IsNonDecreasing homes → first + count ≤ length homes → NeverFalls (slice_index_or homes first 0) (map (λ v. slice_index_or homes v 0) (range_with_len first count))
homes_rise homes first zero rise fits = tt
homes_rise homes first (suc zero) rise fits = (omega arith, tt)
homes_rise homes first (suc (suc count)) rise fits = (
  omega arith,
  NeverFalls-lower (slice_index_or homes first 0) (slice_index_or homes (first + 1) 0) (map (λ v. slice_index_or homes v 0) (range_with_len (first + 1) (suc count)))
      (rise first (first + 1) 0 (omega arith) (omega arith)) (homes_rise homes (first + 1) (suc count) rise (omega arith)),
)

-- what is told of each vertex and its state, where the states are those of the vertices
pub told_of_states : {S : Type 0} (line : ℕ × S → List ℕ) (state : ℕ → S) (vs : List ℕ) (ss : List S) → length ss ≡ length vs
    → ((l : ℕ) (d : S) → l < length vs → get_or ss l d ≡ state (get_or vs l 0)) → flat_map line (zip vs ss) ≡ flat_map (λ v. line (v, state v)) vs
told_of_states line state [] ss long are = refl
told_of_states line state (v ∷ vs) [] long are = absurd (omega arith)
told_of_states line state (v ∷ vs) (s ∷ ss) long are =
    flat_map-cons line (v, s) (zip vs ss)
    ∙ ap (λ x. line (v, x) ++ flat_map line (zip vs ss)) (are 0 s (omega arith))
    ∙ ap (λ text. line (v, state v) ++ text) (told_of_states line state vs ss (omega arith) (λ l d within. are (suc l) d (omega arith)))
    ∙ sym (flat_map-cons (λ u. line (u, state u)) v vs)
