-- How the next member of a set is the next updated position of a list.
use Rattle.std.specs.Prelude.{◌≡◌, ◌≤◌, ◌<◌, ◌-◌, ℕ, Bool, true, false, List, length}
use Rattle.std.specs.List.Sorted.{IsStrictlyIncreasing}
use Rattle.std.proofs.Common.{arith, get_or, ap, ◌∙◌, inl, inr}
use Rattle.std.proofs.lemmas.Bool.{cases_lt}
use Rattle.std.proofs.lemmas.List.{get_or_past, get_or-map, length-map}
use Rattle.list_laws.specs.Members.{has_member, IsLeastMemberSince, HasNoMemberSince}
use Rattle.field_encodings.specs.Lists.{marks_at}
use Rattle.field_encodings.proofs.RisingSearch.{not_lower, lower_before}

module _ (bits : List Bool) (locals : List ℕ) where
  -- the mark of a position
  pub mark_here : (k : ℕ) → k < length locals → has_member (marks_at bits locals) k ≡ has_member bits (get_or locals k 0)
  mark_here k l = get_or-map (has_member bits) locals k 0 false l

  -- past the list there is none
  pub mark_past : (k : ℕ) → length locals ≤ k → has_member (marks_at bits locals) k ≡ false
  mark_past k l = get_or_past (marks_at bits locals) k false (omega (arith, length-map locals (has_member bits)))

  -- an updated position is the next one
  pub next_here : (place : ℕ) → place < length locals → has_member bits (get_or locals place 0) ≡ true → IsLeastMemberSince (marks_at bits locals) place place
  next_here place inside updated = record {
    member = mark_here place inside ∙ updated;
    since = omega arith;
    least = λ k a b. absurd (omega arith);
  }

  module _ (rise : IsStrictlyIncreasing locals) where
    -- the set has no member from a local number of the list on
    pub jump_none : (from : ℕ) → HasNoMemberSince bits (get_or locals from 0) → HasNoMemberSince (marks_at bits locals) from
    jump_none from none k l =
        elim (cases_lt k (length locals)) [
          | inl inside ↦ mark_here k inside ∙ none (get_or locals k 0) (not_lower locals from k rise l inside)
          | inr past ↦ mark_past k past
        ]

    -- its next member is in the list
    pub jump_found : (from place m : ℕ) → from ≤ place → place < length locals → get_or locals place 0 ≡ m → IsLeastMemberSince bits (get_or locals from 0) m → IsLeastMemberSince (marks_at bits locals) from place
    jump_found from place m since within here next = record {
      member = mark_here place within ∙ ap (has_member bits) here ∙ next.member;
      since = since;
      least = λ k a b.
          let lower : get_or locals k 0 < m = omega (arith, lower_before locals k place rise b within) in
          mark_here k (omega arith) ∙ next.least (get_or locals k 0) (not_lower locals from k rise a (omega arith)) lower;
    }

    -- its next member would stand further on in the list, and no position before that is updated
    pub jump_none_before : (from place m : ℕ) → place ≤ length locals → ((k : ℕ) → from ≤ k → k < place → get_or locals k 0 < m) → IsLeastMemberSince bits (get_or locals from 0) m
        → (k : ℕ) → from ≤ k → k < place → has_member (marks_at bits locals) k ≡ false
    jump_none_before from place m within lower next k a b =
        mark_here k (omega arith) ∙ next.least (get_or locals k 0) (not_lower locals from k rise a (omega arith)) (lower k a b)

    -- its next member is above the last of the list, so no position from there on is updated
    pub jump_past : (from m : ℕ) → get_or locals (length locals - 1) 0 < m → IsLeastMemberSince bits (get_or locals from 0) m → HasNoMemberSince (marks_at bits locals) from
    jump_past from m past next k l =
        elim (cases_lt k (length locals)) [
          | inl inside ↦
              jump_none_before from (length locals) m (omega arith)
              (λ j a b. omega (arith, not_lower locals j (length locals - 1) rise (omega arith) (omega arith))) next k l inside
          | inr outside ↦ mark_past k outside
        ]
