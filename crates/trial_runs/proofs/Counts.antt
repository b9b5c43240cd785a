-- How many of the numbers of a range pass a test.
use Rattle.std.proofs.Common.{◌≡◌, ℕ, zero, suc, ◌+◌, ◌<◌, ◌≤◌, Bool, true, false, cond, List, [], ◌∷◌, ◌++◌, length, map, get_or, Option, Some, None, refl, sym, ap, ◌∙◌, length-append, arith}
use Rattle.std.specs.Prelude.{sum, nat_eq}
use Rattle.std.specs.List.{filter, range_with_len}
use Rattle.std.specs.Option.{option_eq}
use Rattle.std.proofs.lemmas.List.Elements.{filter-append}
use Rattle.std.proofs.lemmas.List.Sums.{sum_by-cons}
use Rattle.std.proofs.lemmas.List.FromFn.{get_or-map-range_with_len, length-map-range_with_len, map-range_with_len_more}
use Rattle.graph_maker.specs.Summary.{present}
use Rattle.run_engine.proofs.Going.{range-more}
use Rattle.trial_runs.specs.Trials.{own_labels}

-- one number more
pub filter_one_more : (test : ℕ → Bool) (n : ℕ) → length (filter test (range_with_len 0 (n + 1))) ≡ length (filter test (range_with_len 0 n)) + cond (test n) 1 0
filter_one_more test n =
    ap (λ xs. length (filter test xs)) (range-more n) ∙ ap (λ xs. length xs) (filter-append test (range_with_len 0 n) (n ∷ []))
    ∙ length-append (filter test (range_with_len 0 n)) (filter test (n ∷ [])) ∙ ap (λ k. length (filter test (range_with_len 0 n)) + k) (one (test n))
  where
    one : (b : Bool) → length (cond b (n ∷ []) []) ≡ cond b 1 0
    one true = refl
    one false = refl

-- tests that agree on a range pass as many
same_count : (test other : ℕ → Bool) (n a : ℕ) → ((v : ℕ) → a ≤ v → v < a + n → test v ≡ other v) → length (filter test (range_with_len a n)) ≡ length (filter other (range_with_len a n))
same_count test other zero a agree = refl
same_count test other (suc n) a agree =
    let rest = same_count test other n (a + 1) (λ v from below. agree v (omega arith) (omega arith)) in
    let here = agree a (omega arith) (omega arith) in
    grind arith

-- one vertex more
pub own_one_more : (label : ℕ → Option ℕ) (v count next : ℕ) (own : Bool) → count ≡ own_labels v label → own ≡ option_eq nat_eq (label v) (Some v) → next ≡ count + cond own 1 0 → next ≡ own_labels (v + 1) label
own_one_more label v count next own so_far here more =
    more ∙ ap (λ n. n + cond own 1 0) so_far ∙ ap (λ b. own_labels v label + cond b 1 0) here ∙ sym (filter_one_more (λ u. option_eq nat_eq (label u) (Some u)) v)

-- labels that are told in a list
pub own_labels_told : (list answers : List (Option ℕ)) (label : ℕ → Option ℕ) (nodes : ℕ) → list ≡ answers → answers ≡ map label (range_with_len 0 nodes) → own_labels (length list) (λ v. get_or list v None) ≡ own_labels nodes label
own_labels_told list answers label nodes same told =
    let is : list ≡ map label (range_with_len 0 nodes) = same ∙ told in
    ap (λ (xs : List (Option ℕ)). own_labels (length xs) (λ v. get_or xs v None)) is
    ∙ ap (λ n. own_labels n (λ v. get_or (map label (range_with_len 0 nodes)) v None)) (length-map-range_with_len label 0 nodes)
    ∙ same_count (λ v. option_eq nat_eq (get_or (map label (range_with_len 0 nodes)) v None) (Some v)) (λ v. option_eq nat_eq (label v) (Some v)) nodes 0
    (λ v from below. ap (λ told. option_eq nat_eq told (Some v)) (get_or-map-range_with_len label 0 nodes v v None (omega arith) (omega arith)))

-- one member more, or another vertex
member_more : (b : Bool) (v : ℕ) (xs ys : List ℕ) → sum xs ≡ length ys → sum (cond b 1 0 ∷ xs) ≡ length (cond b (v ∷ ys) ys)
member_more true v xs ys same = omega (arith, sum_by-cons (λ (x : ℕ). x) 1 xs)
member_more false v xs ys same = omega (arith, sum_by-cons (λ (x : ℕ). x) 0 xs)

-- the sum of the answers of a core is the number of its members
pub sum_of_members : (core : ℕ → Bool) (n a : ℕ) → sum (present (map (λ v. Some (cond (core v) 1 0)) (range_with_len a n))) ≡ length (filter core (range_with_len a n))
sum_of_members core zero a = refl
sum_of_members core (suc n) a =
    member_more (core a) a (present (map (λ v. Some (cond (core v) 1 0)) (range_with_len (a + 1) n))) (filter core (range_with_len (a + 1) n)) (sum_of_members core n (a + 1))

-- one answer more
pub told_one_more : {X : Type 0} (f : ℕ → X) (v : ℕ) (old new : List X) (x : X) → old ≡ map f (range_with_len 0 v) → x ≡ f v → new ≡ old ++ x ∷ [] → new ≡ map f (range_with_len 0 (v + 1))
told_one_more f v old new x so_far here pushed =
    let more = map-range_with_len_more f 0 v v (omega arith) in
    cc
