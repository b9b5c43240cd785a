use Rattle.std.proofs.Common.{◌≡◌, ℕ, ◌+◌, ◌<◌, Some, length, slice_index, slice_index_or, sym, ap, ◌∙◌, arith}
use Rattle.std.specs.List.Sorted.{IsNonDecreasing}
use Rattle.std.proofs.lemmas.Bool.{MatchBool-at_true, eqb-false}
use Rattle.std.proofs.lemmas.List.Sorted.{non_decreasing_from_is_sorted}
use Rattle.std.proofs.lemmas.Option.{slice_get-get_or}
use Rattle.host_core.proofs.tests.are_starts.Goals as goal

pub returns-then-starts-le100 : goal.returns-then-starts-le100
returns-then-starts-le100 c sorted =
    let starts = c.args.starts.now in
    let some = eqb-false (length starts) 0 (sym c.if-is_empty.ensures) in
    let first : slice_index starts 0 ≡ 0 = omega arith in
    record {
      begins = slice_get-get_or starts 0 0 (omega (arith, some)) ∙ ap (λ n. Some n) first;
      rises = MatchBool-at_true (IsNonDecreasing starts) ((k : ℕ) × (k + 1 < length starts) × ((d : ℕ) → slice_index_or starts (k + 1) d < slice_index_or starts k d)) sorted (non_decreasing_from_is_sorted starts c.is_sorted.result c.is_sorted.ensures.cases);
      vertices_fit = omega arith;
      edges_fit = omega arith;
    }
