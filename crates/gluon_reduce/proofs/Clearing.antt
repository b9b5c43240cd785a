-- A packet of one byte carries nothing, and where nothing is updated there is nothing to clear.
use Rattle.std.proofs.Common.{◌≡◌, ◌<◌, ◌≤◌, ◌+◌, ℕ, zero, suc, Bool, true, false, cond, List, [], ◌∷◌, set, refl, sym, ap, ◌∙◌, arith}
use Rattle.std.specs.Prelude.{count_by}
use Rattle.std.proofs.Math.Nat.{mul-pos}
use Rattle.std.proofs.lemmas.List.{set-get_or}
use Rattle.std.proofs.lemmas.List.Sums.{sum_by-cons}
use Rattle.list_laws.specs.Members.{has_member, without_member, without_all}
use Rattle.field_encodings.specs.Lists.{marks_at}
use Rattle.field_encodings.specs.Lengths.{form_length}

-- what counts for nothing is no member
is_no : (b : Bool) → ◌≡◌ {A = ℕ} (cond b 1 0) 0 → b ≡ false
is_no true h = absurd (omega arith)
is_no false h = refl

-- where no number of a list is a member, to take them out changes nothing
pub without_none : (bits : List Bool) (locals : List ℕ) → count_by (λ b. b) (marks_at bits locals) ≡ 0 → without_all bits locals ≡ bits
without_none bits [] none = refl
without_none bits (local ∷ locals) none =
    let split = sum_by-cons (λ b. cond b 1 0) (has_member bits local) (marks_at bits locals) in
    let no : has_member bits local ≡ false = is_no (has_member bits local) (omega (arith, split)) in
    let same : without_member bits local ≡ bits = ap (set bits local) (sym no) ∙ set-get_or bits local false in
    ap (λ left. without_all left locals) same ∙ without_none bits locals (omega (arith, split))

-- a form of one byte has no updated position
pub one_byte_is_empty : (positions updated greatest size tag : ℕ) → 0 < size → updated ≤ positions → form_length positions updated greatest size tag ≤ 1 → updated ≡ 0
one_byte_is_empty positions zero greatest size tag some few short = refl
one_byte_is_empty positions (suc updated) greatest size zero some few short = absurd (omega (arith, mul-pos {m = positions} {n = size} (omega arith) some))
one_byte_is_empty positions (suc updated) greatest size (suc zero) some few short = absurd (omega arith)
one_byte_is_empty positions (suc updated) greatest size (suc (suc zero)) some few short = absurd (omega arith)
one_byte_is_empty positions (suc updated) greatest size (suc (suc (suc more))) some few short =
    absurd (omega (arith, mul-pos {m = suc updated} {n = 4 + size} (omega arith) (omega arith)))
