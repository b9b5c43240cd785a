-- The pruned lists of two hosts rise, and who is listed in which.
use Rattle.std.proofs.Common.{◌≡◌, ℕ, zero, suc, ◌+◌, ◌<◌, ◌≤◌, Bool, ◌&&◌, ◌==◌, slice_index, ◌∙◌, sym, ap, arith}
use Rattle.std.specs.List.{All, filter, range_with_len}
use Rattle.std.specs.List.Sorted.{IsStrictlyIncreasing}
use Rattle.std.proofs.lemmas.Bool.{and_parts}
use Rattle.std.proofs.lemmas.List.FromFn.{length-range_with_len}
use Rattle.std.proofs.lemmas.List.Elements.{All-filter, All-nil, All-cons}
use Rattle.std.proofs.lemmas.List.Kept.{IsStrictlyIncreasing-filter}
use Rattle.graph_division.specs.Lists.{is_readable, is_writable, is_mirror}
use Rattle.graph_division.specs.Laws.{ListsRise, WrittenIsReduced}
use Rattle.graph_division.proofs.Listed.{picked}

-- what stands at a place of a range
pub at_place : (first count k : ℕ) → k < count → slice_index (range_with_len first count) k ≡ first + k
at_place first zero k within = absurd (omega arith)
at_place first (suc count) zero within = omega arith
at_place first (suc count) (suc k) within = at_place (first + 1) count k (omega arith) ∙ omega arith

-- a range rises
pub range_rises : (first count : ℕ) → IsStrictlyIncreasing (range_with_len first count)
range_rises first count k within =
    let long = length-range_with_len first count in
    let here = at_place first count k (omega (arith, within, long)) in
    let next = at_place first count (k + 1) (omega (arith, within, long)) in
    omega (arith, here, next)

-- the numbers of a range are below its end
pub range_below : (first count bound : ℕ) → first + count ≤ bound → All (λ v. v < bound) (range_with_len first count)
range_below first zero bound fits = All-nil (λ v. v < bound)
range_below first (suc count) bound fits =
    All-cons (λ v. v < bound) first (range_with_len (first + 1) count) (omega arith) (range_below (first + 1) count bound (omega arith))

-- so are those that a test picks
pub picked_below : (nodes : ℕ) (p : ℕ → Bool) → All (λ v. v < nodes) (filter p (range_with_len 0 nodes))
picked_below nodes p = All-filter p (λ v. v < nodes) (range_with_len 0 nodes) (range_below 0 nodes nodes (omega arith))

pub lists_rise : ListsRise
lists_rise division from to = (
  (IsStrictlyIncreasing-filter (λ v. division.master v == to && (is_mirror division from v && is_writable division from v)) (range_with_len 0 division.nodes) (range_rises 0 division.nodes), picked_below division.nodes _),
  (IsStrictlyIncreasing-filter (λ v. division.master v == from && (is_mirror division to v && is_readable division to v)) (range_with_len 0 division.nodes) (range_rises 0 division.nodes), picked_below division.nodes _),
)

pub written_is_reduced : WrittenIsReduced
written_is_reduced division host other v below told written =
    let in_broadcast = sym (picked (λ u. division.master u == other && (is_mirror division host u && is_readable division host u)) 0 division.nodes v (omega arith) (omega arith)) ∙ told in
    let parts = and_parts (division.master v == other) (is_mirror division host v && is_readable division host v) in_broadcast in
    let mirrors = (and_parts (is_mirror division host v) (is_readable division host v) parts.1).0 in
    picked (λ u. division.master u == other && (is_mirror division host u && is_writable division host u)) 0 division.nodes v (omega arith) (omega arith)
    ∙ ap (λ b. b && (is_mirror division host v && is_writable division host v)) parts.0
    ∙ ap (λ b. b && is_writable division host v) mirrors
    ∙ written
