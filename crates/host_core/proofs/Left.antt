-- How many packets are still to come.
use Rattle.std.proofs.Common.{◌≡◌, ◌≢◌, ℕ, zero, suc, ◌+◌, ◌<◌, ◌≤◌, Bool, true, false, not, ◌&&◌, ◌||◌, ◌==◌, cond, List, [], ◌∷◌, length, set, replicate, refl, sym, ap, ◌∙◌, arith, inl, inr}
use Rattle.std.specs.List.{count_by, list_any, range_with_len, slice_index_or}
use Rattle.std.proofs.lemmas.Bool.{cases_eq, ne_eqb}
use Rattle.std.proofs.lemmas.List.{get_or-set_same, get_or-set_other}
use Rattle.std.proofs.Math.Bool.{and-true}
use Rattle.list_laws.proofs.Members.{has_member-no_members}
use Rattle.address_memo.specs.Memos.{Proxies, list_at}
use Rattle.cluster_laws.specs.Channels.{is_needed}
use Rattle.cluster_laws.proofs.Counting.{count-cons}
use Rattle.host_core.specs.Kept.{left_of}

-- nothing is left exactly where none passes
pub nothing_left : {X : Type 0} (p : X → Bool) (xs : List X) → (count_by p xs == 0) ≡ not (list_any p xs)
nothing_left p [] = refl
nothing_left p (x ∷ xs) = ap (λ n. n == 0) (count-cons p x xs) ∙ split (p x) (nothing_left p xs)
  where
    split : (b : Bool) → (count_by p xs == 0) ≡ not (list_any p xs) → (cond b 1 0 + count_by p xs == 0) ≡ not (b || list_any p xs)
    split true rest = ne_eqb (1 + count_by p xs) 0 (λ same. omega arith)
    split false rest = ap (λ n. n == 0) (let e : 0 + count_by p xs ≡ count_by p xs = omega arith in e) ∙ rest

count_same : (p q : ℕ → Bool) (first count : ℕ) → ((k : ℕ) → first ≤ k → k < first + count → p k ≡ q k) → count_by p (range_with_len first count) ≡ count_by q (range_with_len first count)
count_same p q first zero same = refl
count_same p q first (suc count) same =
    count-cons p first (range_with_len (first + 1) count)
    ∙ ap (λ b. cond b 1 0 + count_by p (range_with_len (first + 1) count)) (same first (omega arith) (omega arith))
    ∙ ap (λ n. cond (q first) 1 0 + n) (count_same p q (first + 1) count (λ k low high. same k (omega arith) (omega arith)))
    ∙ sym (count-cons q first (range_with_len (first + 1) count))

-- a test that fails at one place more counts one less
count_less : (p q : ℕ → Bool) (at first count : ℕ) → p at ≡ true → q at ≡ false → ((k : ℕ) → k ≢ at → p k ≡ q k) → first ≤ at → at < first + count → count_by p (range_with_len first count) ≡ count_by q (range_with_len first count) + 1
count_less p q at first zero passes fails same low high = absurd (omega arith)
count_less p q at first (suc count) passes fails same low high =
    let more = range_with_len (first + 1) count in
    let one : count_by p (range_with_len first (suc count)) ≡ cond (p first) 1 0 + count_by p more = count-cons p first more in
    let other : count_by q (range_with_len first (suc count)) ≡ cond (q first) 1 0 + count_by q more = count-cons q first more in
    elim (cases_eq first at) [
      | inl here ↦
          let rest : count_by p more ≡ count_by q more = count_same p q (first + 1) count (λ k l h. same k (λ e. omega arith)) in
          let counts : cond {A = ℕ} (p first) 1 0 ≡ suc zero = ap (λ b. cond {A = ℕ} b 1 0) (ap p here ∙ passes) in
          let none : cond {A = ℕ} (q first) 1 0 ≡ zero = ap (λ b. cond {A = ℕ} b 1 0) (ap q here ∙ fails) in
          omega (arith, rest, one, other, counts, none)
      | inr later ↦
          let rest : count_by p more ≡ count_by q more + 1 = count_less p q at (first + 1) count passes fails same (omega arith) (omega arith) in
          let alike : cond {A = ℕ} (p first) 1 0 ≡ cond {A = ℕ} (q first) 1 0 = ap (λ b. cond {A = ℕ} b 1 0) (same first later) in
          omega (arith, rest, one, other, alike)
    ]

-- one fewer is left once a packet that was expected is taken
pub one_taken : (hosts from : ℕ) (lists : List Proxies) (took : List Bool) → from < hosts → length took ≡ hosts → is_needed (list_at lists from).globals ≡ true → slice_index_or took from false ≡ false
    → left_of hosts lists took ≡ left_of hosts lists (set took from true) + 1
one_taken hosts from lists took inside long needed first =
    count_less (λ k. is_needed (list_at lists k).globals && not (slice_index_or took k false)) (λ k. is_needed (list_at lists k).globals && not (slice_index_or (set took from true) k false))
    from 0 hosts
    (ap (λ b. b && not (slice_index_or took from false)) needed ∙ ap not first)
    (ap (λ b. b && not (slice_index_or (set took from true) from false)) needed ∙ ap not (get_or-set_same took from true false (omega arith)))
    (λ k apart. ap (λ b. is_needed (list_at lists k).globals && not b) (sym (get_or-set_other took from k true false apart)))
    (omega arith) (omega arith)

-- nothing is taken yet of as many as are needed
pub all_left : (hosts n : ℕ) (lists : List Proxies) → left_of hosts lists (replicate n false) ≡ count_by (λ from. is_needed (list_at lists from).globals) (range_with_len 0 hosts)
all_left hosts n lists = count_same (λ k. is_needed (list_at lists k).globals && not (slice_index_or (replicate n false) k false)) (λ k. is_needed (list_at lists k).globals) 0 hosts
    (λ k low high. ap (λ b. is_needed (list_at lists k).globals && not b) (has_member-no_members n k) ∙ and-true (is_needed (list_at lists k).globals))
