-- The set that words hold: which numbers are in it, and how many.
use Rattle.std.proofs.Common.{◌≡◌, ◌≢◌, ℕ, zero, suc, ◌+◌, ◌*◌, ◌/◌, ◌%◌, ◌^◌, ◌<◌, ◌≤◌, Bool, true, false, List, [], ◌∷◌, ◌++◌, length, take, drop, get_or, refl, sym, ap, subst, ◌∙◌, cond, arith, inl, inr}
use Rattle.std.specs.Prelude.{nat_eq, slice_set, replicate, count_by, nat_lt, Option, Some, None, IfSome}
use Rattle.std.specs.Int.{bit_at}
use Rattle.std.proofs.lemmas.Bool.{cases_eq, cases_lt, lt-ltb, le-ltb, true≢false}
use Rattle.std.proofs.lemmas.List.{ext_get_or, length-take-le, get_or-take, get_or-set_same, get_or-set_other, get_or-replicate, get_or_past, get_or-drop, take-append-drop, take-take, length-replicate, length-set}
use Rattle.std.proofs.lemmas.List.Sums.{sum_by-append, sum_by-cons}
use Rattle.std.proofs.lemmas.Nat.Bits.{bit_at-zero}
use Rattle.list_laws.specs.Bits.{bits_of, unpacked, bit_in}
use Rattle.list_laws.specs.Members.{has_member, no_members, all_members, members, count_of, IsNextMember}
use Rattle.list_laws.proofs.Bits.{length-bits_of, length-unpacked}
use Rattle.list_laws.proofs.Words.{get_or-unpacked}
use Rattle.list_laws.proofs.Members.{count_of-count_by, has_member-no_members, has_member-all_members}
use Rattle.update_bits.specs.Words.{set_in, AreWords, IsNextBit}

-- words that are enough
pub enough_bits : (count : ℕ) (words : List ℕ) → AreWords count words → count ≤ length (unpacked 64 words)
enough_bits count words h = omega (arith, h.enough, length-unpacked 64 words)

-- the length of the set
pub length-set_in : (count : ℕ) (words : List ℕ) → length words ≡ (count + 63) / 64 → length (set_in count words) ≡ count
length-set_in count words h = length-take-le count (unpacked 64 words) (omega (arith, length-unpacked 64 words))

-- a number below the length is in the set where its bit is set
pub has_member-set_in : (count : ℕ) (words : List ℕ) (i : ℕ) → i < count → has_member (set_in count words) i ≡ bit_in words i
has_member-set_in count words i h = get_or-take count (unpacked 64 words) i false h ∙ get_or-unpacked words i

-- the set is known by its bits
pub same_set_in : (count : ℕ) (words : List ℕ) (bits : List Bool) → length words ≡ (count + 63) / 64 → length bits ≡ count
    → ((k : ℕ) → k < count → bit_in words k ≡ has_member bits k) → set_in count words ≡ bits
same_set_in count words bits enough same each =
    ext_get_or false (set_in count words) bits (length-set_in count words enough ∙ sym same)
    (λ k h. let below : k < count = omega (arith, length-set_in count words enough) in has_member-set_in count words k below ∙ each k below)

-- a bit of a word that was written
pub bit_in-set : (words : List ℕ) (place word k : ℕ) → place < length words → k / 64 ≡ place → bit_in (slice_set words place word) k ≡ nat_eq (bit_at word (k % 64)) 1
bit_in-set words place word k within here =
    ap (λ p. nat_eq (bit_at (get_or (slice_set words place word) p 0) (k % 64)) 1) here
    ∙ ap (λ w. nat_eq (bit_at w (k % 64)) 1) (get_or-set_same words place word 0 within)

-- a bit of another word
pub bit_in-set_other : (words : List ℕ) (place word k : ℕ) → k / 64 ≢ place → bit_in (slice_set words place word) k ≡ bit_in words k
bit_in-set_other words place word k apart = ap (λ w. nat_eq (bit_at w (k % 64)) 1) (get_or-set_other words place (k / 64) word 0 apart)

-- a bit of words that are all the same
pub bit_in-replicate : (count word k : ℕ) → k / 64 < count → bit_in (replicate count word) k ≡ nat_eq (bit_at word (k % 64)) 1
bit_in-replicate count word k within = ap (λ w. nat_eq (bit_at w (k % 64)) 1) (get_or-replicate count (k / 64) word 0 within)

-- no bit is set past the last word
pub bit_in-past : (words : List ℕ) (k : ℕ) → length words ≤ k / 64 → bit_in words k ≡ false
bit_in-past words k past = ap (λ w. nat_eq (bit_at w (k % 64)) 1) (get_or_past words (k / 64) 0 past) ∙ ap (λ b. nat_eq b 1) (bit_at-zero (k % 64))

-- no bit of words that are 0 is set
pub bit_in-zeros : (count k : ℕ) → bit_in (replicate count 0) k ≡ false
bit_in-zeros count k = ap (λ w. nat_eq (bit_at w (k % 64)) 1) (zeros count (k / 64)) ∙ ap (λ b. nat_eq b 1) (bit_at-zero (k % 64))
  where
    zeros : (count i : ℕ) → get_or {A = ℕ} (replicate count 0) i 0 ≡ 0
    zeros zero i = refl
    zeros (suc count) zero = refl
    zeros (suc count) (suc i) = zeros count i

-- places that are all false count nothing
none_counts : (bits : List Bool) → ((k : ℕ) → get_or bits k false ≡ false) → count_by (λ b. b) bits ≡ 0
none_counts bits none = ap (count_by (λ b. b)) (ext_get_or false bits (replicate (length bits) false) (sym (length-replicate (length bits) false)) (λ k h. none k ∙ sym (has_member-no_members (length bits) k)))
    ∙ nothing (length bits)
  where
    nothing : (n : ℕ) → count_by (λ b. b) (replicate n false) ≡ 0
    nothing zero = refl
    nothing (suc n) = omega (arith, sum_by-cons (λ b. cond b 1 0) false (replicate n false), nothing n)

-- the bits that are set are as many as the members
pub count-unpacked : (count : ℕ) (words : List ℕ) → AreWords count words → count_by (λ b. b) (unpacked 64 words) ≡ count_of (set_in count words)
count-unpacked count words h =
    ap (count_by (λ b. b)) (sym (take-append-drop count (unpacked 64 words)))
    ∙ sum_by-append (λ b. cond b 1 0) (set_in count words) (drop count (unpacked 64 words))
    ∙ ap (λ n. count_by (λ b. b) (set_in count words) + n) (none_counts (drop count (unpacked 64 words)) spare)
    ∙ omega (arith, count_of-count_by (set_in count words))
  where
    spare : (k : ℕ) → get_or (drop count (unpacked 64 words)) k false ≡ false
    spare k = get_or-drop count (unpacked 64 words) k false ∙ get_or-unpacked words (count + k) ∙ h.spare (count + k) (omega arith)

-- ---- what a call makes of the words

-- words of which one bit was set
pub record OneBit (words new : List ℕ) (i : ℕ) (bit : Bool) : Type 0 where
  pub len : length new ≡ length words
  pub at : bit_in new i ≡ bit
  pub others : (k : ℕ) → k ≢ i → bit_in new k ≡ bit_in words k

-- words that were lent for the write
pub OneBit-lent : (words lent new : List ℕ) (i : ℕ) (bit : Bool) → lent ≡ words → length new ≡ length lent → bit_in new i ≡ bit → ((k : ℕ) → k ≢ i → bit_in new k ≡ bit_in lent k) → OneBit words new i bit
OneBit-lent words lent new i bit value len at others = subst (λ own. OneBit own new i bit) value (record { len = len; at = at; others = others })

-- are enough, and hold no spare bit
pub AreWords-one : (count : ℕ) (words new : List ℕ) (i : ℕ) (bit : Bool) → AreWords count words → i < count → OneBit words new i bit → AreWords count new
AreWords-one count words new i bit h below one = record {
  short = h.short;
  enough = one.len ∙ h.enough;
  spare = λ k past. one.others k (λ e. omega arith) ∙ h.spare k past;
}

-- and the set is the same with that number in it, or out of it
pub set_in-one : (count : ℕ) (words new : List ℕ) (i : ℕ) (bit : Bool) → AreWords count words → i < count → OneBit words new i bit → set_in count new ≡ slice_set (set_in count words) i bit
set_in-one count words new i bit h below one =
    same_set_in count new (slice_set (set_in count words) i bit) (one.len ∙ h.enough)
    (length-set (set_in count words) i bit ∙ length-set_in count words h.enough)
    (λ k inside. elim (cases_eq k i) [
      | inl same ↦
          ap (bit_in new) same ∙ one.at
          ∙ sym (ap (λ n. has_member (slice_set (set_in count words) i bit) n) same ∙ get_or-set_same (set_in count words) i bit false (omega (arith, length-set_in count words h.enough)))
      | inr other ↦ one.others k other ∙ sym (get_or-set_other (set_in count words) i k bit false other ∙ has_member-set_in count words k inside)
    ])

-- words of which just the first bits are set hold each number
pub set_in-all : (count : ℕ) (words new : List ℕ) → AreWords count words → length new ≡ length words → ((k : ℕ) → bit_in new k ≡ nat_lt k count) → set_in count new ≡ all_members count
set_in-all count words new h len each =
    same_set_in count new (all_members count) (len ∙ h.enough) (length-replicate count true)
    (λ k inside. each k ∙ lt-ltb k count inside ∙ sym (has_member-all_members count k inside))

pub AreWords-all : (count : ℕ) (words new : List ℕ) → AreWords count words → length new ≡ length words → ((k : ℕ) → bit_in new k ≡ nat_lt k count) → AreWords count new
AreWords-all count words new h len each = record { short = h.short; enough = len ∙ h.enough; spare = λ k past. each k ∙ le-ltb k count past }

-- words of which no bit is set hold no number
pub set_in-none : (count : ℕ) (words : List ℕ) → length words ≡ (count + 63) / 64 → ((k : ℕ) → bit_in words k ≡ false) → set_in count words ≡ no_members count
set_in-none count words enough none =
    same_set_in count words (no_members count) enough (length-replicate count false) (λ k inside. none k ∙ sym (has_member-no_members count k))

pub AreWords-none : (count : ℕ) (words : List ℕ) → count < 2 ^ 32 → length words ≡ (count + 63) / 64 → ((k : ℕ) → bit_in words k ≡ false) → AreWords count words
AreWords-none count words short enough none = record { short = short; enough = enough; spare = λ k past. none k }

-- the next bit is the next member
pub next_member : (count : ℕ) (words : List ℕ) (i : ℕ) (next : Option ℕ) → AreWords count words → IsNextBit words i next → IsNextMember (set_in count words) i next × IfSome next (λ m. m < count)
next_member count words i None h none = (
  (λ k since. elim (cases_lt k count) [
    | inl inside ↦ has_member-set_in count words k inside ∙ none k since
    | inr past ↦ past_end k past
  ]),
  tt,
)
  where
    past_end : (k : ℕ) → count ≤ k → has_member (set_in count words) k ≡ false
    past_end k past = get_or_past (set_in count words) k false (omega (arith, length-set_in count words h.enough))
next_member count words i (Some m) h first =
    let inside : m < count = elim (cases_lt m count) [ inl inside ↦ inside | inr past ↦ absurd (true≢false (sym first.set ∙ h.spare m past)) ] in (
      record {
        member = has_member-set_in count words m inside ∙ first.set;
        since = first.since;
        least = λ k since before. has_member-set_in count words k (omega arith) ∙ first.first k since before;
      },
      inside,
    )

-- ---- members word by word

-- the bits of the first words
pub front_unpacked : (n : ℕ) (words : List ℕ) → n ≤ length words → take (n * 64) (unpacked 64 words) ≡ unpacked 64 (take n words)
front_unpacked zero words h = refl
front_unpacked (suc n) [] h = absurd (omega arith)
front_unpacked (suc n) (w ∷ words) h =
    let sum : suc n * 64 ≡ length (bits_of 64 w) + n * 64 = omega (arith, length-bits_of 64 w) in
    ap (λ m. take m (bits_of 64 w ++ unpacked 64 words)) sum
    ∙ take_more_than (bits_of 64 w) (unpacked 64 words) (n * 64)
    ∙ ap (λ bits. bits_of 64 w ++ bits) (front_unpacked n words (omega arith))
  where
    take_more_than : (xs ys : List Bool) (m : ℕ) → take (length xs + m) (xs ++ ys) ≡ xs ++ take m ys
    take_more_than [] ys m = let e : 0 + m ≡ m = omega arith in ap (λ n. take n ys) e
    take_more_than (x ∷ xs) ys m =
        let e : suc (length xs) + m ≡ suc (length xs + m) = omega arith in
        ap (λ n. take n (x ∷ (xs ++ ys))) e ∙ ap (λ zs. x ∷ zs) (take_more_than xs ys m)

-- how many members the first words hold
pub members_before : (count n : ℕ) (words : List ℕ) → AreWords count words → n < length words
    → (n * 64 ≤ count) × (length (members (take (n * 64) (set_in count words))) ≡ count_by (λ b. b) (unpacked 64 (take n words)))
members_before count n words h inside =
    let below : n * 64 ≤ count = omega (arith, h.enough) in (
      below,
      ap (λ bits. length (members bits)) (take-take (n * 64) count (unpacked 64 words) below ∙ front_unpacked n words (omega arith))
          ∙ count_of-count_by (unpacked 64 (take n words)),
    )
