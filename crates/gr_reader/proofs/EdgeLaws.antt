-- Laws of destinations that are nodes or not.
use Rattle.std.proofs.Common.{◌≡◌, ℕ, suc, ◌+◌, ◌<◌, ◌≤◌, true, false, List, [], ◌∷◌, ◌++◌, length, All, None, Some, ltb, refl, sym, ap, ◌∙◌, ⊎_elim, arith, add-zero}
use Rattle.std.proofs.lemmas.Bool.{cases_lt}
use Rattle.std.proofs.lemmas.Bool.Decides.{nat_tests}
use Rattle.std.proofs.lemmas.List.Elements.{All-nil, All-cons}
use Rattle.gr_reader.specs.declared.fault.GrFault.{GrFault}
use Rattle.gr_reader.specs.declared.fault.GrFault.TheVariants.{Destination}
use Rattle.gr_reader.specs.File.{destination_fault}

-- a destination that is a node
pub destination_fault-step : (nodes place destination : ℕ) (destinations : List ℕ) → destination < nodes → destination_fault nodes place (destination ∷ destinations) ≡ destination_fault nodes (place + 1) destinations
destination_fault-step nodes place destination destinations inside = let test : ltb destination nodes ≡ true = grind (arith, nat_tests) in rw test refl

-- a destination that is no node
pub destination_fault-here : (nodes place destination : ℕ) (destinations : List ℕ) → nodes ≤ destination → destination_fault nodes place (destination ∷ destinations) ≡ Some (Destination place destination)
destination_fault-here nodes place destination destinations outside = let test : ltb destination nodes ≡ false = grind (arith, nat_tests) in rw test refl

-- the first part has none, so the first is that of the second
pub destination_fault-append : (nodes place : ℕ) (xs ys : List ℕ) → destination_fault nodes place xs ≡ None → destination_fault nodes place (xs ++ ys) ≡ destination_fault nodes (place + length xs) ys
destination_fault-append nodes place [] ys none = rw add-zero refl
destination_fault-append nodes place (x ∷ xs) ys none = ⊎_elim
    (λ (inside : x < nodes).
    let rest : destination_fault nodes (place + 1) xs ≡ None = sym (destination_fault-step nodes place x xs inside) ∙ none in
    let count : place + 1 + length xs ≡ place + suc (length xs) = omega arith in
    destination_fault-step nodes place x (xs ++ ys) inside ∙ destination_fault-append nodes (place + 1) xs ys rest ∙ ap (λ (n : ℕ). destination_fault nodes n ys) count)
    (λ (outside : nodes ≤ x). absurd (let e = destination_fault-here nodes place x xs outside in cc))
    (cases_lt x nodes)

-- the first of a front is the first of all
pub destination_fault-front : (nodes place : ℕ) (xs ys : List ℕ) (found : GrFault) → destination_fault nodes place xs ≡ Some found → destination_fault nodes place (xs ++ ys) ≡ Some found
destination_fault-front nodes place [] ys found some = absurd (cc)
destination_fault-front nodes place (x ∷ xs) ys found some = ⊎_elim
    (λ (inside : x < nodes).
    destination_fault-step nodes place x (xs ++ ys) inside ∙ destination_fault-front nodes (place + 1) xs ys found (sym (destination_fault-step nodes place x xs inside) ∙ some))
    (λ (outside : nodes ≤ x). destination_fault-here nodes place x (xs ++ ys) outside ∙ sym (destination_fault-here nodes place x xs outside) ∙ some)
    (cases_lt x nodes)

-- where none is found, each destination is a node
pub destination_fault-clear : (nodes place : ℕ) (destinations : List ℕ) → destination_fault nodes place destinations ≡ None → All (λ d. d < nodes) destinations
destination_fault-clear nodes place [] clear = All-nil (λ d. d < nodes)
destination_fault-clear nodes place (d ∷ ds) clear = ⊎_elim
    (λ (here : d < nodes). All-cons (λ n. n < nodes) d ds here (destination_fault-clear nodes (place + 1) ds (sym (destination_fault-step nodes place d ds here) ∙ clear)))
    (λ (outside : nodes ≤ d). absurd (let e = destination_fault-here nodes place d ds outside in cc))
    (cases_lt d nodes)
