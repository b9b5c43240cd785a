-- Local graphs and memos that are taken in pairs.
use Rattle.std.proofs.Common.{◌≡◌, ℕ, ◌<◌, List, length, map, get_or, slice_get, Some, sym, ap, ◌∙◌, arith}
use Rattle.std.specs.List.{zip}
use Rattle.std.proofs.lemmas.Simd.{map-map}
use Rattle.std.proofs.lemmas.Option.{slice_get-get_or}
use Rattle.std.proofs.lemmas.Slice.Zip.{length-zip, get_or-zip, firsts-zip, seconds-zip}
use Rattle.graph_division.specs.Shares.{Share}
use Rattle.address_memo.specs.Memos.{Memos}

module _ (shares : List Share) (memos : List Memos) (long : length memos ≡ length shares) where
  -- what a pair has stands at its place in both lists
  pub pair_at : (n : ℕ) (share : Share) (memo : Memos) → n < length (zip shares memos) → (share, memo) ≡ get_or (zip shares memos) n (share, memo)
      → (slice_get shares n ≡ Some share) × (slice_get memos n ≡ Some memo)
  pair_at n share memo within at =
      let count = length-zip shares memos in
      let pair = at ∙ get_or-zip shares memos n (share, memo) (omega arith) (omega arith) in (
        slice_get-get_or shares n share (omega arith) ∙ ap (λ (x : Share). Some x) (sym (ap (λ (p : Share × Memos). p.0) pair)),
        slice_get-get_or memos n memo (omega arith) ∙ ap (λ (x : Memos). Some x) (sym (ap (λ (p : Share × Memos). p.1) pair)),
      )

  -- the first and the second of all pairs are the two lists
  pub firsts_are : (pairs : List (Share × Memos)) → map (λ (p : Share × Memos). (p.0, p.1)) pairs ≡ zip shares memos → map (λ (p : Share × Memos). p.0) pairs ≡ shares
  firsts_are pairs are = sym (map-map (λ (p : Share × Memos). p.0) (λ (p : Share × Memos). (p.0, p.1)) pairs) ∙ ap (map (λ (p : Share × Memos). p.0)) are ∙ firsts-zip shares memos long

  pub seconds_are : (pairs : List (Share × Memos)) → map (λ (p : Share × Memos). (p.0, p.1)) pairs ≡ zip shares memos → map (λ (p : Share × Memos). p.1) pairs ≡ memos
  seconds_are pairs are = sym (map-map (λ (p : Share × Memos). p.1) (λ (p : Share × Memos). (p.0, p.1)) pairs) ∙ ap (map (λ (p : Share × Memos). p.1)) are ∙ seconds-zip shares memos long
