-- What a pass over a list keeps that counts its updated positions.
use Rattle.std.specs.Prelude.{◌≡◌, ◌≤◌, ◌<◌, ◌+◌, ℕ, Bool, true, false, List, [], ◌∷◌, length, max}
use mir.Val.{bool_byte}
use Rattle.std.proofs.Common.{arith, get_or, sym, ap, subst, refl, ◌∙◌}
use Rattle.std.proofs.lemmas.List.{length-map}
use Rattle.list_laws.specs.Members.{has_member, members, IsLeastMemberSince}
use Rattle.list_laws.proofs.Members.{members_since, members_since-next, members_since-no, IsMember-lt-length}
use Rattle.field_encodings.specs.Lengths.{greatest_of}
use Rattle.field_encodings.specs.Lists.{marks_at}
use Rattle.field_encodings.proofs.NextUpdated.{mark_here, next_here}

-- what is counted before a place, with what the rest counts, is the whole
pub record IsCountedTo (bits : List Bool) (locals : List ℕ) (place count greatest : ℕ) : Type 0 where
  pub counted : count + length (members_since (marks_at bits locals) place) ≡ length (members (marks_at bits locals))
  pub last : max greatest (greatest_of (members_since (marks_at bits locals) place)) ≡ greatest_of (members (marks_at bits locals))
  pub within : place ≤ length locals
  pub before : greatest ≤ place
  pub few : count ≤ place
  pub some : 0 < count → greatest < place

-- at first nothing is counted
pub IsCountedTo-start : (bits : List Bool) (locals : List ℕ) → IsCountedTo bits locals 0 0 0
IsCountedTo-start bits locals = record {
  counted = omega arith;
  last = omega arith;
  within = omega arith;
  before = omega arith;
  few = omega arith;
  some = λ none. omega arith;
}

-- up to the next updated position
pub IsCountedTo-next : (bits : List Bool) (locals : List ℕ) (place count greatest m : ℕ) → IsLeastMemberSince (marks_at bits locals) place m → IsCountedTo bits locals place count greatest → IsCountedTo bits locals (m + 1) (count + 1) m
IsCountedTo-next bits locals place count greatest m next so_far =
    let marks : List Bool = marks_at bits locals in
    let step : members_since marks place ≡ m ∷ members_since marks (m + 1) = members_since-next marks place m next in
    let inside : m < length locals = omega (arith, IsMember-lt-length marks m next.member, length-map locals (has_member bits)) in
    let since : place ≤ m = next.since in
    record {
      counted = omega (arith, so_far.counted, ap length step);
      last = omega (arith, so_far.last, ap greatest_of step, so_far.before);
      within = omega arith;
      before = omega arith;
      few = omega (arith, so_far.few);
      some = λ _. omega arith;
    }

-- one position more, updated or not
pub IsCountedTo-step : (bits : List Bool) (locals : List ℕ) (place count greatest now : ℕ) (updated : Bool) → place < length locals → updated ≡ has_member bits (get_or locals place 0)
    → (updated ≡ true → now ≡ place) → (updated ≡ false → now ≡ greatest) → IsCountedTo bits locals place count greatest → IsCountedTo bits locals (place + 1) (count + bool_byte updated) now
IsCountedTo-step bits locals place count greatest now true inside here new old so_far =
    subst (λ n. IsCountedTo bits locals (place + 1) (count + 1) n) (sym (new refl))
    (IsCountedTo-next bits locals place count greatest place (next_here bits locals place inside (sym here)) so_far)
IsCountedTo-step bits locals place count greatest now false inside here new old so_far =
    let marks : List Bool = marks_at bits locals in
    let same : now ≡ greatest = old refl in
    let step : members_since marks place ≡ members_since marks (place + 1) = members_since-no marks place (mark_here bits locals place inside ∙ sym here) in
    record {
      counted = omega (arith, so_far.counted, ap length step);
      last = omega (arith, so_far.last, ap greatest_of step);
      within = omega arith;
      before = omega (arith, so_far.before);
      few = omega (arith, so_far.few);
      some = λ some. omega (arith, so_far.before);
    }

-- where no position is left all are counted
pub IsCountedTo-count : (bits : List Bool) (locals : List ℕ) (place count greatest : ℕ) → members_since (marks_at bits locals) place ≡ [] → IsCountedTo bits locals place count greatest → count ≡ length (members (marks_at bits locals))
IsCountedTo-count bits locals place count greatest none so_far = omega (arith, so_far.counted, ap length none)

pub IsCountedTo-greatest : (bits : List Bool) (locals : List ℕ) (place count greatest : ℕ) → members_since (marks_at bits locals) place ≡ [] → IsCountedTo bits locals place count greatest → greatest ≡ greatest_of (members (marks_at bits locals))
IsCountedTo-greatest bits locals place count greatest none so_far = omega (arith, so_far.last, ap greatest_of none)
