-- Two lists of one length, gone over side by side.
use Rattle.std.proofs.Common.{◌≡◌, ℕ, zero, suc, ◌+◌, ◌<◌, List, [], ◌∷◌, length, take, drop, slice_index_or, refl, ap, sym, ◌∙◌, arith}
use Rattle.std.specs.List.{zip}
use Rattle.std.proofs.Math.Numerals.{add-one}
use Rattle.std.proofs.Math.Seq.{drop-cons}
use Rattle.std.proofs.lemmas.List.{drop_all}
use Rattle.std.proofs.lemmas.Slice.Zip.{length-zip, get_or-zip}
use Rattle.proxy_graph.specs.Runs.{part_of}

zip_nil : {A B : Type 0} (ks : List A) → zip {K = A} {X = B} ks [] ≡ []
zip_nil [] = refl
zip_nil (k ∷ ks) = refl

drop-zip : {A B : Type 0} (n : ℕ) (ks : List A) (vs : List B) → drop n (zip ks vs) ≡ zip (drop n ks) (drop n vs)
drop-zip zero ks vs = refl
drop-zip (suc n) [] vs = refl
drop-zip (suc n) (k ∷ ks) [] = sym (zip_nil (drop n ks))
drop-zip (suc n) (k ∷ ks) (v ∷ vs) = drop-zip n ks vs

take-zip : {A B : Type 0} (n : ℕ) (ks : List A) (vs : List B) → take n (zip ks vs) ≡ zip (take n ks) (take n vs)
take-zip zero ks vs = refl
take-zip (suc n) [] vs = refl
take-zip (suc n) (k ∷ ks) [] = refl
take-zip (suc n) (k ∷ ks) (v ∷ vs) = ap (λ rest. (k, v) ∷ rest) (take-zip n ks vs)

-- a part of the pairs is made of the same parts of both lists
pub part_of-zip : {A B : Type 0} (from count : ℕ) (ks : List A) (vs : List B) → part_of from count (zip ks vs) ≡ zip (part_of from count ks) (part_of from count vs)
part_of-zip from count ks vs =
    ap (take count) (drop-zip from ks vs) ∙ take-zip count (drop from ks) (drop from vs)

module _ (ks vs : List ℕ) (same : length vs ≡ length ks) where
  pub length-pairs : length (zip ks vs) ≡ length ks
  length-pairs = omega (arith, length-zip ks vs)

  -- nothing is behind the last pair
  pub pairs_end : (at : ℕ) → at ≡ length ks → drop at (zip ks vs) ≡ []
  pairs_end at end = drop_all at (zip ks vs) (omega (arith, length-pairs))

  -- the pair at a place comes first of what is left there
  pub pairs_next : (at : ℕ) → at < length ks → drop at (zip ks vs) ≡ (slice_index_or ks at 0, slice_index_or vs at 0) ∷ drop (at + 1) (zip ks vs)
  pairs_next at within =
      let inside : at < length (zip ks vs) = omega (arith, length-pairs) in
      rw (add-one, ← get_or-zip ks vs at (0, 0) within (omega arith)) (drop-cons (zip ks vs) at (0, 0) inside)
