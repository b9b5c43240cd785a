-- The summary of one value more.
use Rattle.std.proofs.Common.{◌≡◌, ℕ, ◌+◌, List, [], ◌∷◌, ◌++◌, max, length, Option, Some, None, ap, ◌∙◌, arith}
use Rattle.std.specs.Prelude.{sum}
use Rattle.std.proofs.lemmas.List.Elements.{filter_map-append}
use Rattle.std.proofs.lemmas.List.Sums.{sum_by-append}
use Rattle.std.proofs.lemmas.List.{append-nil, length-append}
use Rattle.graph_maker.specs.Summary.{present, greatest_of, summary_of}
use Rattle.graph_maker.specs.declared.summary.Summary.{Summary}

-- a value that is missing is left out
pub summary_of-None : (values : List (Option ℕ)) → summary_of (values ++ None ∷ []) ≡ summary_of values
summary_of-None values =
    ap (λ (l : List ℕ). let s : Summary = record { reached = length l; sum = sum l; greatest = greatest_of l } in s)
    (filter_map-append (λ (value : Option ℕ). value) values (None ∷ []) ∙ append-nil (present values))

-- the greatest of one number more
pub greatest_of-push : (xs : List ℕ) (x : ℕ) → greatest_of (xs ++ x ∷ []) ≡ max (greatest_of xs) x
greatest_of-push [] x = omega arith
greatest_of-push (y ∷ xs) x = omega (arith, greatest_of-push xs x)

-- the sum with one number more
sum_push : (xs : List ℕ) (x : ℕ) → sum (xs ++ x ∷ []) ≡ sum xs + x
sum_push xs x =
    let last : sum (x ∷ []) ≡ x = omega arith in
    sum_by-append (λ (n : ℕ). n) xs (x ∷ []) ∙ ap (λ k. sum xs + k) last

-- summaries with the same parts
same_parts : {a b c i j k : ℕ} → a ≡ i → b ≡ j → c ≡ k → ◌≡◌ {A = Summary} (record { reached = a; sum = b; greatest = c }) (record { reached = i; sum = j; greatest = k })
same_parts reached total greatest = cc

-- one value more
pub summary_of-Some : (values : List (Option ℕ)) (x : ℕ)
    → summary_of (values ++ Some x ∷ []) ≡ record { reached = (summary_of values).reached + 1; sum = (summary_of values).sum + x; greatest = max (summary_of values).greatest x }
summary_of-Some values x =
    let more : present (values ++ Some x ∷ []) ≡ present values ++ x ∷ [] = filter_map-append (λ (value : Option ℕ). value) values (Some x ∷ []) in
    same_parts
    (ap (λ (l : List ℕ). length l) more ∙ length-append (present values) (x ∷ []))
    (ap sum more ∙ sum_push (present values) x)
    (ap greatest_of more ∙ greatest_of-push (present values) x)
