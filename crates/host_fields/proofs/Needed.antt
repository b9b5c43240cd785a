-- Numbers of a range are counted one after another, and lists that have an id in them.
use Rattle.std.proofs.Common.{◌≡◌, ◌+◌, ℕ, Bool, cond, not, List, [], ◌∷◌, length, refl, sym, ap, ◌∙◌, arith}
use Rattle.std.specs.Prelude.{nat_eq}
use Rattle.std.specs.List.{count_by, range_with_len}
use Rattle.std.proofs.lemmas.Bool.{ne_eqb}
use Rattle.std.proofs.lemmas.List.{map-id}
use Rattle.std.proofs.lemmas.List.FromFn.{sum_by-map-range_with_len_more}
use Rattle.cluster_laws.specs.Channels.{is_needed}

-- a list is needed exactly where it is not empty
pub is_needed_is : (ids : List ℕ) → is_needed ids ≡ not (nat_eq (length ids) 0)
is_needed_is [] = refl
is_needed_is (id ∷ ids) = ap not (sym (ne_eqb (length (id ∷ ids)) 0 (λ same. omega arith)))

-- one number more is counted
pub count_range_more : (p : ℕ → Bool) (n count next : ℕ) → count ≡ count_by p (range_with_len 0 n) → next ≡ count + cond (p n) 1 0 → next ≡ count_by p (range_with_len 0 (n + 1))
count_range_more p n count next so_far step =
    step ∙ ap (λ k. k + cond (p n) 1 0) so_far
    ∙ sym (simp map-id at (sum_by-map-range_with_len_more (λ k. cond (p k) 1 0) (λ k. k) 0 n n (omega arith)))
