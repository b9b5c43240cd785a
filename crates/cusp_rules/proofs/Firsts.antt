-- The first vertex of a block, found among where out-edges start.
use Rattle.std.proofs.Common.{◌≡◌, ℕ, ◌/◌, ◌<◌, ◌≤◌, ◌↔◌, ltb, true, false, inl, inr, List, length, take, slice_index, slice_index_or, arith}
use Rattle.std.specs.List.Sorted.{IsNonDecreasing, IsPartitionPoint, IsPartitionedBy}
use Rattle.std.proofs.Math.Nat.{div-mul-le_self, le-div_iff_mul-le}
use Rattle.std.proofs.lemmas.Bool.{cases_lt, ltb-true, lt-ltb, ltb-false}
use Rattle.std.proofs.lemmas.List.{get_or-take, length-take}

-- a larger number has no smaller quotient
pub div-le-div : (a b block : ℕ) → 0 < block → a ≤ b → a / block ≤ b / block
div-le-div a b block positive order = (le-div_iff_mul-le positive).1 (omega (arith, div-mul-le_self a block))

module _ (starts : List ℕ) (nodes block host : ℕ) (within : nodes ≤ length starts) where
  -- vertices below the block come first
  pub IsPartitionedBy-block : 0 < block → IsNonDecreasing starts → IsPartitionedBy (λ first. ltb (first / block) host) (take nodes starts)
  IsPartitionedBy-block positive rises i j d order here below =
      let low_j : j < nodes = omega (arith, length-take nodes starts, here) in
      let low_i : i < nodes = omega arith in
      let at_i = get_or-take nodes starts i d low_i in
      let at_j = get_or-take nodes starts j d low_j in
      let quotients = div-le-div (slice_index_or (take nodes starts) i d) (slice_index_or (take nodes starts) j d) block positive (omega (arith, at_i, at_j, rises i j d order (omega arith))) in
      lt-ltb (slice_index_or (take nodes starts) i d / block) host (omega (arith, quotients, ltb-true (slice_index_or (take nodes starts) j d / block) host below))

  -- so the first of the others is the first that is in the block or a later one
  pub first_in_block : (place : ℕ) → IsPartitionPoint (λ first. ltb (first / block) host ≡ true) (λ first. ltb (first / block) host ≡ false) (take nodes starts) place → (v : ℕ) → v < nodes → (place ≤ v) ↔ (host ≤ slice_index starts v / block)
  first_in_block place point v vertex =
      let at : slice_index (take nodes starts) v ≡ slice_index starts v = get_or-take nodes starts v 0 vertex in
      let long : length (take nodes starts) ≡ nodes = omega (arith, length-take nodes starts) in (
        λ after. rw at at (ltb-false (slice_index (take nodes starts) v / block) host (point.1 v 0 after (omega arith))),
        λ high. elim (cases_lt v place) [
          | inl before ↦ absurd (omega (arith, rw at at (ltb-true (slice_index (take nodes starts) v / block) host (point.0 v 0 (omega arith) before))))
          | inr after ↦ after
        ],
      )
