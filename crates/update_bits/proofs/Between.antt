-- What is counted between two places of a list.
use Rattle.std.proofs.Common.{◌≡◌, ℕ, ◌+◌, ◌-◌, ◌≤◌, Bool, List, take, drop, cond, sym, ap, ◌∙◌, arith}
use Rattle.std.specs.Prelude.{sum_by, count_by}
use Rattle.std.proofs.Math.Seq.{take-add}
use Rattle.std.proofs.lemmas.List.Sums.{sum_by-append}
use Rattle.list_laws.specs.Bits.{unpacked}
use Rattle.list_laws.specs.Members.{count_of}
use Rattle.list_laws.proofs.Members.{count_of-count_by}
use Rattle.update_bits.specs.Words.{set_in}
use Rattle.update_bits.proofs.Ranked.{take-set_in}

-- what stands before the first place and what stands between
pub sum_by-between : {X : Type 0} (f : X → ℕ) (xs : List X) (start end : ℕ) → start ≤ end → sum_by f (take start xs) + sum_by f (take (end - start) (drop start xs)) ≡ sum_by f (take end xs)
sum_by-between f xs start end order =
    let place : start + (end - start) ≡ end = omega arith in
    sym (sum_by-append f (take start xs) (take (end - start) (drop start xs)))
    ∙ ap (sum_by f) (sym (take-add start (end - start) xs) ∙ ap (λ n. take n xs) place)

-- members before the first place and members between
pub count_of-between : (bits : List Bool) (start end : ℕ) → start ≤ end → count_of (take start bits) + count_of (take (end - start) (drop start bits)) ≡ count_of (take end bits)
count_of-between bits start end order =
    let sum : count_by (λ b. b) (take start bits) + count_by (λ b. b) (take (end - start) (drop start bits)) ≡ count_by (λ b. b) (take end bits)
    = sum_by-between (λ b. cond b 1 0) bits start end order in
    omega (arith, sum, count_of-count_by (take start bits), count_of-count_by (take (end - start) (drop start bits)), count_of-count_by (take end bits))

-- bits that are set between two places are the members between
pub counted_between : (count start end ones : ℕ) (words seen : List ℕ) (bits : List Bool) → set_in count words ≡ bits → seen ≡ words → start ≤ end → end ≤ count
    → count_of (take start (unpacked 64 seen)) + ones ≡ count_of (take end (unpacked 64 seen)) → ones ≡ count_of (take (end - start) (drop start bits))
counted_between count start end ones words seen bits view same order within counted =
    let first : count_of (take start (unpacked 64 seen)) ≡ count_of (take start bits)
    = ap (λ own. count_of (take start (unpacked 64 own))) same ∙ ap count_of (take-set_in count start words bits view (omega arith)) in
    let last : count_of (take end (unpacked 64 seen)) ≡ count_of (take end bits)
    = ap (λ own. count_of (take end (unpacked 64 own))) same ∙ ap count_of (take-set_in count end words bits view within) in
    omega (arith, first, last, counted, count_of-between bits start end order)
