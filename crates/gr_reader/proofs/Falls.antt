-- Laws of entries that fall or do not.
use Rattle.std.proofs.Common.{◌≡◌, ℕ, suc, ◌+◌, ◌<◌, ◌≤◌, true, false, List, [], ◌∷◌, ◌++◌, length, None, Some, ltb, refl, sym, ap, ◌∙◌, arith, add-zero, ⊎_elim}
use Rattle.std.proofs.lemmas.Bool.{cases_lt}
use Rattle.std.proofs.lemmas.Bool.Decides.{nat_tests}
use Rattle.list_laws.specs.Rising.{NeverFalls}
use Rattle.gr_reader.specs.declared.fault.GrFault.{GrFault}
use Rattle.gr_reader.specs.declared.fault.GrFault.TheVariants.{IndexFalls}
use Rattle.edge_columns.specs.Columns.{last_entry}
use Rattle.gr_reader.specs.File.{entry_fault}

-- an entry that does not fall
pub entry_fault-step : (place before entry : ℕ) (entries : List ℕ) → before ≤ entry → entry_fault place before (entry ∷ entries) ≡ entry_fault (place + 1) entry entries
entry_fault-step place before entry entries rises = let test : ltb entry before ≡ false = grind (arith, nat_tests) in rw test refl

-- an entry that falls
pub entry_fault-here : (place before entry : ℕ) (entries : List ℕ) → entry < before → entry_fault place before (entry ∷ entries) ≡ Some (IndexFalls place)
entry_fault-here place before entry entries falls = let test : ltb entry before ≡ true = grind (arith, nat_tests) in rw test refl

-- none falls in the first part, so the first that falls is in the second
pub entry_fault-append : (place before : ℕ) (xs ys : List ℕ) → entry_fault place before xs ≡ None → entry_fault place before (xs ++ ys) ≡ entry_fault (place + length xs) (last_entry before xs) ys
entry_fault-append place before [] ys none = rw add-zero refl
entry_fault-append place before (x ∷ xs) ys none = ⊎_elim
    (λ (falls : x < before). cc (entry_fault-here place before x xs falls))
    (λ (rises : before ≤ x).
    let rest : entry_fault (place + 1) x xs ≡ None = sym (entry_fault-step place before x xs rises) ∙ none in
    let count : place + 1 + length xs ≡ place + suc (length xs) = omega arith in
    entry_fault-step place before x (xs ++ ys) rises ∙ entry_fault-append (place + 1) x xs ys rest ∙ ap (λ (n : ℕ). entry_fault n (last_entry x xs) ys) count)
    (cases_lt x before)

-- what falls in a front is the first of all
pub entry_fault-front : (place before : ℕ) (xs ys : List ℕ) (found : GrFault) → entry_fault place before xs ≡ Some found → entry_fault place before (xs ++ ys) ≡ Some found
entry_fault-front place before [] ys found some = cc
entry_fault-front place before (x ∷ xs) ys found some = ⊎_elim
    (λ (falls : x < before). entry_fault-here place before x (xs ++ ys) falls ∙ sym (entry_fault-here place before x xs falls) ∙ some)
    (λ (rises : before ≤ x).
    entry_fault-step place before x (xs ++ ys) rises ∙ entry_fault-front (place + 1) x xs ys found (sym (entry_fault-step place before x xs rises) ∙ some))
    (cases_lt x before)

-- the fact behind the test
pub NeverFalls-clear : (place before : ℕ) (xs : List ℕ) → entry_fault place before xs ≡ None → NeverFalls before xs
NeverFalls-clear place before [] none = tt
NeverFalls-clear place before (x ∷ xs) none = ⊎_elim
    (λ (falls : x < before). absurd (let e = entry_fault-here place before x xs falls in cc))
    (λ (rises : before ≤ x). (rises, NeverFalls-clear (place + 1) x xs (sym (entry_fault-step place before x xs rises) ∙ none)))
    (cases_lt x before)
