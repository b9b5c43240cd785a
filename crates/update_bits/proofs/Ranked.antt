-- How many bits are set below a place: those of the words before, and those of its own word.
use Rattle.std.proofs.Common.{◌≡◌, ℕ, zero, suc, ◌+◌, ◌-◌, ◌*◌, ◌/◌, ◌%◌, ◌^◌, ◌<◌, ◌≤◌, Bool, false, List, [], ◌∷◌, ◌++◌, length, take, get_or, refl, sym, ap, ◌∙◌, cond, arith, append-nil}
use Rattle.std.specs.Prelude.{nat_eq, bit_and, count_by, sum_by, count_ones, All}
use Rattle.std.proofs.Math.Seq.{take-append-add}
use Rattle.std.proofs.Math.Nat.{mod-le}
use Rattle.std.proofs.lemmas.List.{take-take, take-append-le, append_assoc}
use Rattle.std.proofs.lemmas.List.Elements.{All-cons, All-nil, All-take}
use Rattle.std.proofs.lemmas.List.Sums.{sum_by-append, sum_by-cons}
use Rattle.std.proofs.lemmas.Nat.{and_mask, mod-pow-add}
use Rattle.list_laws.specs.Bits.{bits_of, unpacked}
use Rattle.list_laws.specs.Members.{count_of}
use Rattle.list_laws.proofs.Bits.{length-bits_of, length-unpacked}
use Rattle.list_laws.proofs.Words.{ones-unpacked}
use Rattle.list_laws.proofs.Members.{count_of-count_by}
use Rattle.update_bits.specs.Words.{set_in, AreWords, AreCountsBefore}
use Rattle.update_bits.proofs.Held.{length-set_in, front_unpacked}

-- no bit of 0 is set
none_of_zero : (count : ℕ) → count_by (λ b. b) (bits_of count 0) ≡ 0
unfolding bits_of
none_of_zero zero = refl
none_of_zero (suc count) = omega (arith, sum_by-cons (λ b. cond b 1 0) false (bits_of count 0), none_of_zero count)

-- the low bits of a number are those of what is left of it by a power of 2
count-low_bits : (count k x : ℕ) → k ≤ count → count_by (λ b. b) (bits_of count (x % 2 ^ k)) ≡ count_by (λ b. b) (take k (bits_of count x))
unfolding bits_of
count-low_bits count zero x h =
    let none : x % 1 ≡ 0 = omega arith in
    ap (λ n. count_by (λ b. b) (bits_of count n)) none ∙ none_of_zero count
count-low_bits zero (suc k) x h = absurd (omega arith)
count-low_bits (suc count) (suc k) x h =
    let sum : suc k ≡ k + 1 = omega arith in
    let split : x % 2 ^ suc k ≡ x / 2 % 2 ^ k * 2 + x % 2 = ap (λ n. x % 2 ^ n) sum ∙ mod-pow-add x k 1 in
    let first : x % 2 ^ suc k % 2 ≡ x % 2 = omega (arith, split) in
    let rest : x % 2 ^ suc k / 2 ≡ x / 2 % 2 ^ k = omega (arith, split) in
    sum_by-cons (λ b. cond b 1 0) (nat_eq (x % 2 ^ suc k % 2) 1) (bits_of count (x % 2 ^ suc k / 2))
    ∙ ap (λ n. cond (nat_eq n 1) 1 0 + count_by (λ b. b) (bits_of count (x % 2 ^ suc k / 2))) first
    ∙ ap (λ n. cond (nat_eq (x % 2) 1) 1 0 + n) (ap (λ n. count_by (λ b. b) (bits_of count n)) rest ∙ count-low_bits count k (x / 2) (omega arith))
    ∙ sym (sum_by-cons (λ b. cond b 1 0) (nat_eq (x % 2) 1) (take k (bits_of count (x / 2))))

-- how many low bits of a word are set
ones-low_bits : (k x : ℕ) → k ≤ 64 → x < 2 ^ 64 → count_ones (x % 2 ^ k) ≡ count_by (λ b. b) (take k (bits_of 64 x))
ones-low_bits k x h fits =
    let low : x % 2 ^ k < 2 ^ 64 = omega (arith, mod-le x (2 ^ k)) in
    let one : sum_by count_ones (x % 2 ^ k ∷ []) ≡ count_ones (x % 2 ^ k) = omega (arith, sum_by-cons count_ones (x % 2 ^ k) []) in
    sym one
    ∙ ones-unpacked (x % 2 ^ k ∷ []) (All-cons (λ w. w < 2 ^ 64) (x % 2 ^ k) [] low (All-nil (λ w. w < 2 ^ 64)))
    ∙ ap (count_by (λ b. b)) (append-nil (bits_of 64 (x % 2 ^ k)))
    ∙ count-low_bits 64 k x h

-- the bits up to a place in a word
take-unpacked : (words : List ℕ) (w k : ℕ) → w < length words → k ≤ 64 → take (w * 64 + k) (unpacked 64 words) ≡ unpacked 64 (take w words) ++ take k (bits_of 64 (get_or words w 0))
take-unpacked [] w k inside h = absurd (omega arith)
take-unpacked (x ∷ words) zero k inside h =
    let start : 0 * 64 + k ≡ k = omega arith in
    ap (λ n. take n (bits_of 64 x ++ unpacked 64 words)) start ∙ take-append-le k (bits_of 64 x) (unpacked 64 words) (omega (arith, length-bits_of 64 x))
take-unpacked (x ∷ words) (suc w) k inside h =
    let sum : suc w * 64 + k ≡ length (bits_of 64 x) + (w * 64 + k) = omega (arith, length-bits_of 64 x) in
    ap (λ n. take n (bits_of 64 x ++ unpacked 64 words)) sum
    ∙ take-append-add (bits_of 64 x) (unpacked 64 words) (w * 64 + k)
    ∙ ap (λ bits. bits_of 64 x ++ bits) (take-unpacked words w k (omega arith) h)
    ∙ sym (append_assoc (bits_of 64 x) (unpacked 64 (take w words)) (take k (bits_of 64 (get_or words w 0))))

-- the bits below a place are those of the words before and those below it in its word
pub count_of-below : (words : List ℕ) (i mask : ℕ) → i / 64 < length words → get_or words (i / 64) 0 < 2 ^ 64 → mask ≡ 2 ^ (i % 64) - 1
    → count_of (take (i / 64 * 64) (unpacked 64 words)) + count_ones (bit_and (get_or words (i / 64) 0) mask) ≡ count_of (take i (unpacked 64 words))
count_of-below words i mask inside fits low =
    let word : ℕ = get_or words (i / 64) 0 in
    let front : List Bool = unpacked 64 (take (i / 64) words) in
    let part : List Bool = take (i % 64) (bits_of 64 word) in
    let before : count_of (take (i / 64 * 64) (unpacked 64 words)) ≡ count_by (λ b. b) front = ap count_of (front_unpacked (i / 64) words (omega arith)) ∙ count_of-count_by front in
    let here : count_ones (bit_and word mask) ≡ count_by (λ b. b) part
    = ap (λ m. count_ones (bit_and word m)) low ∙ ap count_ones (and_mask word (i % 64)) ∙ ones-low_bits (i % 64) word (omega arith) fits in
    let place : i ≡ i / 64 * 64 + i % 64 = omega arith in
    let both : take i (unpacked 64 words) ≡ front ++ part = ap (λ n. take n (unpacked 64 words)) place ∙ take-unpacked words (i / 64) (i % 64) inside (omega arith) in
    let all : count_of (take i (unpacked 64 words)) ≡ count_by (λ b. b) front + count_by (λ b. b) part
    = ap count_of both ∙ count_of-count_by (front ++ part) ∙ sum_by-append (λ b. cond b 1 0) front part in
    omega (arith, before, here, all)

-- the bits that are set in the first words
pub count_of-front : (words : List ℕ) (w : ℕ) → All (λ w. w < 2 ^ 64) words → w ≤ length words → sum_by count_ones (take w words) ≡ count_of (take (w * 64) (unpacked 64 words))
count_of-front words w fit within =
    ones-unpacked (take w words) (All-take (λ w. w < 2 ^ 64) w words fit)
    ∙ sym (count_of-count_by (unpacked 64 (take w words)))
    ∙ ap count_of (sym (front_unpacked w words within))

-- sums over the words before are what the words before hold
pub AreCountsBefore-sums : (words before : List ℕ) → All (λ w. w < 2 ^ 64) words → length before ≡ length words
    → ((w : ℕ) → w < length words → get_or before w 0 ≡ sum_by count_ones (take w words)) → AreCountsBefore (unpacked 64 words) before
AreCountsBefore-sums words before fit each sums = record {
  each = omega (arith, each, length-unpacked 64 words);
  counts = λ w inside. sums w (omega arith) ∙ count_of-front words w fit (omega arith);
}

-- the set has the bits of its words up to each place
pub take-set_in : (count i : ℕ) (words : List ℕ) (bits : List Bool) → set_in count words ≡ bits → i ≤ count → take i (unpacked 64 words) ≡ take i bits
take-set_in count i words bits view within = sym (take-take i count (unpacked 64 words) within) ∙ ap (take i) view

-- what the words before hold are members of the set
pub AreCountsBefore-set : (count : ℕ) (words before : List ℕ) (bits : List Bool) → AreWords count words → set_in count words ≡ bits → AreCountsBefore (unpacked 64 words) before → AreCountsBefore bits before
AreCountsBefore-set count words before bits h view counted =
    let len : length bits ≡ count = ap length (sym view) ∙ length-set_in count words h.enough in
    let each : length before ≡ length words = omega (arith, counted.each, length-unpacked 64 words) in
    record {
      each = omega (arith, each, h.enough, len);
      counts = λ w inside. counted.counts w inside ∙ ap count_of (take-set_in count (w * 64) words bits view (omega (arith, each, h.enough)));
    }

-- the members before the word and those below in the word are the members below
pub count_of-rank : (count i ones : ℕ) (words before : List ℕ) (bits : List Bool) → AreWords count words → set_in count words ≡ bits → AreCountsBefore bits before → i < count
    → count_of (take (i / 64 * 64) (unpacked 64 words)) + ones ≡ count_of (take i (unpacked 64 words)) → get_or before (i / 64) 0 + ones ≡ count_of (take i bits)
count_of-rank count i ones words before bits h view counted inside below =
    let len : length bits ≡ count = ap length (sym view) ∙ length-set_in count words h.enough in
    let front : get_or before (i / 64) 0 ≡ count_of (take (i / 64 * 64) bits) = counted.counts (i / 64) (omega (arith, counted.each, len)) in
    let same : count_of (take (i / 64 * 64) (unpacked 64 words)) ≡ count_of (take (i / 64 * 64) bits) = ap count_of (take-set_in count (i / 64 * 64) words bits view (omega arith)) in
    let all : count_of (take i (unpacked 64 words)) ≡ count_of (take i bits) = ap count_of (take-set_in count i words bits view (omega arith)) in
    omega (arith, front, same, all, below)
