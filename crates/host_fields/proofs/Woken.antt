-- The members of a set below a bound are counted as they are found, each the next one from a place.
use Rattle.std.proofs.Common.{◌≡◌, ◌<◌, ◌≤◌, ◌+◌, ◌-◌, ◌⊎◌, ℕ, zero, suc, Bool, true, false, cond, List, length, take, refl, sym, ap, ◌∙◌, inl, inr, arith}
use Rattle.std.specs.Prelude.{nat_lt, ◌&&◌}
use Rattle.std.specs.List.{count_by}
use Rattle.std.proofs.Math.Bool.{and-true, and-false}
use Rattle.std.proofs.lemmas.Bool.{cases_lt, lt-ltb, le-ltb}
use Rattle.std.proofs.lemmas.List.{get_or-take, get_or_past, take_all, length-take}
use Rattle.std.proofs.lemmas.List.Sums.{count_by_more_no, count_by_more_yes}
use Rattle.list_laws.specs.Members.{has_member, IsLeastMemberSince, HasNoMemberSince}

-- how many members a set has below a place
abbrev pub members_below : List Bool → ℕ → ℕ
members_below bits i = count_by (λ b. b) (take i bits)

-- one place more
below_more : (bits : List Bool) (i : ℕ) → members_below bits (i + 1) ≡ members_below bits i + cond (has_member bits i) 1 0
below_more bits i = by_place (has_member bits i) refl (cases_lt i (length bits))
  where
    by_place : (b : Bool) → has_member bits i ≡ b → (i < length bits) ⊎ (length bits ≤ i) → members_below bits (i + 1) ≡ members_below bits i + cond (has_member bits i) 1 0
    by_place true is (inl within) = count_by_more_yes (λ b. b) bits i false within is ∙ ap (λ b. members_below bits i + cond b 1 0) (sym is)
    by_place false is (inl within) = count_by_more_no (λ b. b) bits i false within is ∙ (omega arith) ∙ ap (λ b. members_below bits i + cond b 1 0) (sym is)
    by_place b is (inr past) =
        ap (count_by (λ b. b)) (take_all (i + 1) bits (omega arith) ∙ sym (take_all i bits past))
        ∙ (omega arith) ∙ ap (λ b. members_below bits i + cond b 1 0) (sym (get_or_past bits i false past))

-- places that are no members change nothing
below_skip : (bits : List Bool) (i n : ℕ) → ((k : ℕ) → i ≤ k → k < i + n → has_member bits k ≡ false) → members_below bits (i + n) ≡ members_below bits i
below_skip bits i zero none = let same : i + 0 ≡ i = omega arith in ap (members_below bits) same
below_skip bits i (suc n) none =
    let next : i + suc n ≡ i + n + 1 = omega arith in
    ap (members_below bits) next ∙ below_more bits (i + n)
    ∙ ap (λ b. members_below bits (i + n) + cond b 1 0) (none (i + n) (omega arith) (omega arith)) ∙ (omega arith)
    ∙ below_skip bits i n (λ k a b. none k a (omega arith))

-- the members below a bound
front_member : (bits : List Bool) (bound k : ℕ) → has_member (take bound bits) k ≡ (nat_lt k bound && has_member bits k)
front_member bits bound k =
    elim (cases_lt k bound) [
      | inl h ↦ get_or-take bound bits k false h ∙ ap (λ b. b && has_member bits k) (sym (lt-ltb k bound h))
      | inr h ↦ get_or_past (take bound bits) k false (omega (arith, length-take bound bits)) ∙ ap (λ b. b && has_member bits k) (sym (le-ltb k bound h))
    ]

module _ (bits : List Bool) (bound i : ℕ) where
  -- the next member counts if it is below the bound
  pub counted_next : (m : ℕ) → IsLeastMemberSince bits i m → members_below (take bound bits) (m + 1) ≡ members_below (take bound bits) i + cond (nat_lt m bound) 1 0
  counted_next m next =
      let since : i ≤ m = next.since in
      let there : i + (m - i) ≡ m = omega arith in
      below_more (take bound bits) m
      ∙ ap (λ b. members_below (take bound bits) m + cond b 1 0) (front_member bits bound m ∙ ap (λ b. nat_lt m bound && b) next.member ∙ and-true (nat_lt m bound))
      ∙ ap (λ k. k + cond (nat_lt m bound) 1 0) (sym (ap (members_below (take bound bits)) there) ∙ below_skip (take bound bits) i (m - i) (λ k a b. none k (next.least k a (omega arith))))
    where
      none : (k : ℕ) → has_member bits k ≡ false → has_member (take bound bits) k ≡ false
      none k is = front_member bits bound k ∙ ap (λ b. nat_lt k bound && b) is ∙ and-false (nat_lt k bound)

  -- where no member is left all are counted
  pub counted_all : HasNoMemberSince bits i → members_below (take bound bits) i ≡ count_by (λ b. b) (take bound bits)
  counted_all left =
      sym (below_skip (take bound bits) i (length (take bound bits)) (λ k a b. front_member bits bound k ∙ ap (λ b. nat_lt k bound && b) (left k a) ∙ and-false (nat_lt k bound)))
      ∙ ap (count_by (λ b. b)) (take_all (i + length (take bound bits)) (take bound bits) (omega arith))
