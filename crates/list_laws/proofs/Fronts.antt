-- Fronts of lists, and a list whose rest is filled from its front.
use Rattle.std.proofs.Common.{◌≡◌, ℕ, ◌+◌, ◌-◌, ◌≤◌, List, [], ◌++◌, length, take, drop, sym, ap, subst, ◌∙◌, arith, length-append, length-drop}
use Rattle.std.proofs.lemmas.List.{append-nil, length-take-le, drop_all}
use Rattle.std.proofs.Math.Seq.{take-append-add}
use borrow.Rule.Slice.PartMut.{put_mid}

-- a front that is longer than a part
pub take_within : (n : ℕ) (xs ys : List ℕ) → length xs ≤ n → take n (xs ++ ys) ≡ xs ++ take (n - length xs) ys
take_within n xs ys within =
    let count : n ≡ length xs + (n - length xs) = omega arith in
    subst (λ (k : ℕ). take k (xs ++ ys) ≡ xs ++ take (n - length xs) ys) (sym count) (take-append-add xs ys (n - length xs))

-- the length of a list whose rest is filled stays
pub length_filled : (n : ℕ) (xs ys : List ℕ) → n ≤ length xs → length ys ≡ length xs - n → length (put_mid n (length xs - n) xs ys) ≡ length xs
length_filled n xs ys within long =
    let first : length (take n xs) ≡ n = length-take-le n xs within in
    let last : length (drop (length xs - n) (drop n xs)) ≡ 0 = omega (arith, length-drop (length xs - n) (drop n xs), length-drop n xs) in
    omega (arith, length-append (take n xs) (ys ++ drop (length xs - n) (drop n xs)), length-append ys (drop (length xs - n) (drop n xs)))

-- its front is the one before, and what came
pub take_filled : (n m : ℕ) (xs ys : List ℕ) → n ≤ length xs → length ys ≡ length xs - n → take (n + m) (put_mid n (length xs - n) xs ys) ≡ take n xs ++ take m ys
take_filled n m xs ys within long =
    let first : length (take n xs) ≡ n = length-take-le n xs within in
    let none : drop (length xs - n) (drop n xs) ≡ [] = drop_all (length xs - n) (drop n xs) (omega (arith, length-drop n xs)) in
    let one : take (n + m) (take n xs ++ (ys ++ [])) ≡ take n xs ++ take m (ys ++ []) = subst (λ (k : ℕ). take (k + m) (take n xs ++ (ys ++ [])) ≡ take n xs ++ take m (ys ++ [])) first (take-append-add (take n xs) (ys ++ []) m) in
    rw none (one ∙ ap (λ (l : List ℕ). take n xs ++ take m l) (append-nil ys))
