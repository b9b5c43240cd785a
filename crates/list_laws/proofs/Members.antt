-- What is known of the members of a set, of their list and of their count.
use Rattle.std.specs.Prelude.{◌≡◌, ◌≢◌, ◌≤◌, ◌<◌, ◌+◌, ◌-◌, ℕ, Bool, true, false, cond, List, [], ◌∷◌, ◌++◌, length, take, drop, count_by, slice_get, Some, All, Contains, refl}
use Rattle.std.specs.List.Sorted.{IsStrictlyIncreasing}
use Rattle.std.proofs.Common.{arith, get_or, suc, zero, sym, ap, subst, ◌∙◌, inl, inr, length-append}
use Rattle.std.proofs.lemmas.Bool.{true≢false, cases_lt}
use Rattle.std.proofs.lemmas.List.{ext_get_or, get_or-set_same, get_or-set_other, get_or-replicate, drop_more, drop_all, take_more, take-append-drop, length-take-le, append-nil}
use Rattle.std.proofs.lemmas.List.Elements.{All-nil, All-cons, All-weaker, Contains-append_right}
use Rattle.std.proofs.lemmas.List.Sums.{sum_by-cons, sum_by-set, count_by-le-length}
use Rattle.list_laws.specs.Members.{has_member, IsMember, no_members, all_members, with_member, without_member, members_from, members, count_of, IsLeastMemberSince, HasNoMemberSince}

-- the members that are at least i, rising
abbrev pub members_since : List Bool → ℕ → List ℕ
members_since bits i = members_from i (drop i bits)

-- ---- membership

-- a member is below the length
pub IsMember-lt-length : (bits : List Bool) (i : ℕ) → IsMember bits i → i < length bits
IsMember-lt-length [] i m = absurd (true≢false (sym m))
IsMember-lt-length (x ∷ bits) zero m = omega arith
IsMember-lt-length (x ∷ bits) (suc i) m = omega (arith, IsMember-lt-length bits i m)

-- two sets of one length with the same members are the same
pub same_set : (a b : List Bool) → length a ≡ length b → ((k : ℕ) → k < length a → has_member a k ≡ has_member b k) → a ≡ b
same_set a b n h = ext_get_or false a b n h

-- what was set is a member
pub has_member-with_same : (bits : List Bool) (i : ℕ) → i < length bits → has_member (with_member bits i) i ≡ true
has_member-with_same bits i h = get_or-set_same bits i true false h

-- and the other numbers are as they were
pub has_member-with_other : (bits : List Bool) (i k : ℕ) → k ≢ i → has_member (with_member bits i) k ≡ has_member bits k
has_member-with_other bits i k h = get_or-set_other bits i k true false h

-- what was cleared is no member
pub has_member-without_same : (bits : List Bool) (i : ℕ) → i < length bits → has_member (without_member bits i) i ≡ false
has_member-without_same bits i h = get_or-set_same bits i false false h

-- and the other numbers are as they were
pub has_member-without_other : (bits : List Bool) (i k : ℕ) → k ≢ i → has_member (without_member bits i) k ≡ has_member bits k
has_member-without_other bits i k h = get_or-set_other bits i k false false h

-- the empty set has no member
pub has_member-no_members : (n k : ℕ) → has_member (no_members n) k ≡ false
has_member-no_members zero k = refl
has_member-no_members (suc n) zero = refl
has_member-no_members (suc n) (suc k) = has_member-no_members n k

-- the full set has each number below its length
pub has_member-all_members : (n k : ℕ) → k < n → has_member (all_members n) k ≡ true
has_member-all_members n k h = get_or-replicate n k true false h

-- ---- the list of members

-- the step at a place that is true
pub members_since-yes : (bits : List Bool) (i : ℕ) → IsMember bits i → members_since bits i ≡ i ∷ members_since bits (i + 1)
members_since-yes bits i m =
    ap (λ l. members_from i l) (drop_more bits i false (IsMember-lt-length bits i m))
    ∙ ap (λ b. members_from i (b ∷ drop (i + 1) bits)) m

-- from the length on there is no member
pub members_since-end : (bits : List Bool) (i : ℕ) → length bits ≤ i → members_since bits i ≡ []
members_since-end bits i h = ap (λ l. members_from i l) (drop_all i bits h)

-- the step at a place that is false
pub members_since-no : (bits : List Bool) (i : ℕ) → has_member bits i ≡ false → members_since bits i ≡ members_since bits (i + 1)
members_since-no bits i m =
    elim (cases_lt i (length bits)) [
      | inl h ↦ ap (λ l. members_from i l) (drop_more bits i false h) ∙ ap (λ b. members_from i (b ∷ drop (i + 1) bits)) m
      | inr h ↦ members_since-end bits i h ∙ sym (members_since-end bits (i + 1) (omega arith))
    ]

-- n places that are false change nothing
pub members_since-skip : (bits : List Bool) (i n : ℕ) → ((k : ℕ) → i ≤ k → k < i + n → has_member bits k ≡ false) → members_since bits i ≡ members_since bits (i + n)
members_since-skip bits i zero h = let e : i ≡ i + 0 = omega arith in ap (λ k. members_since bits k) e
members_since-skip bits i (suc n) h =
    let e : i + n + 1 ≡ i + suc n = omega arith in
    members_since-skip bits i n (λ k a b. h k a (omega arith))
    ∙ members_since-no bits (i + n) (h (i + n) (omega arith) (omega arith))
    ∙ ap (λ k. members_since bits k) e

-- what `next_from` gives is the first of the members from there on
pub members_since-next : (bits : List Bool) (i m : ℕ) → IsLeastMemberSince bits i m → members_since bits i ≡ m ∷ members_since bits (m + 1)
members_since-next bits i m next =
    let since : i ≤ m = next.since in
    let e : i + (m - i) ≡ m = omega arith in
    members_since-skip bits i (m - i) (λ k a b. next.least k a (omega arith))
    ∙ ap (λ k. members_since bits k) e
    ∙ members_since-yes bits m next.member

-- and where it gives none there are none
pub members_since-none : (bits : List Bool) (i : ℕ) → HasNoMemberSince bits i → members_since bits i ≡ []
members_since-none bits i none =
    members_since-skip bits i (length bits) (λ k a _. none k a)
    ∙ members_since-end bits (i + length bits) (omega arith)

-- the members of a list of places, and then those of the places that follow
pub members_from-append : (i : ℕ) (a b : List Bool) → members_from i (a ++ b) ≡ members_from i a ++ members_from (i + length a) b
members_from-append i [] b = let e : i ≡ i + 0 = omega arith in ap (λ k. members_from k b) e
members_from-append i (true ∷ a) b =
    let e : i + 1 + length a ≡ i + suc (length a) = omega arith in
    ap (λ l. i ∷ l) (members_from-append (i + 1) a b ∙ ap (λ k. members_from (i + 1) a ++ members_from k b) e)
members_from-append i (false ∷ a) b =
    let e : i + 1 + length a ≡ i + suc (length a) = omega arith in
    members_from-append (i + 1) a b ∙ ap (λ k. members_from (i + 1) a ++ members_from k b) e

-- the members below i and those from i on are all of them
pub members-take-since : (bits : List Bool) (i : ℕ) → i ≤ length bits → members (take i bits) ++ members_since bits i ≡ members bits
members-take-since bits i h =
    let e : i ≡ 0 + length (take i bits) = omega (arith, length-take-le i bits h) in
    ap (λ k. members (take i bits) ++ members_from k (drop i bits)) e
    ∙ sym (members_from-append 0 (take i bits) (drop i bits))
    ∙ ap (λ l. members l) (take-append-drop i bits)

-- one place more, which is true
pub members-take-yes : (bits : List Bool) (i : ℕ) → IsMember bits i → members (take (i + 1) bits) ≡ members (take i bits) ++ i ∷ []
members-take-yes bits i m =
    let h = IsMember-lt-length bits i m in
    let e : 0 + length (take i bits) ≡ i = omega (arith, length-take-le i bits (omega arith)) in
    ap (λ l. members l) (take_more bits i false h)
    ∙ members_from-append 0 (take i bits) (get_or bits i false ∷ [])
    ∙ ap (λ b. members (take i bits) ++ members_from (0 + length (take i bits)) (b ∷ [])) m
    ∙ ap (λ k. members (take i bits) ++ k ∷ []) e

-- one place more, which is false
pub members-take-no : (bits : List Bool) (i : ℕ) → i < length bits → has_member bits i ≡ false → members (take (i + 1) bits) ≡ members (take i bits)
members-take-no bits i h m =
    ap (λ l. members l) (take_more bits i false h)
    ∙ members_from-append 0 (take i bits) (get_or bits i false ∷ [])
    ∙ ap (λ b. members (take i bits) ++ members_from (0 + length (take i bits)) (b ∷ [])) m
    ∙ append-nil (members (take i bits))

-- a place further on, behind one more place
one_further : (x : Bool) (bits : List Bool) (i m : ℕ) → (i + 1 ≤ m) × (has_member bits (m - (i + 1)) ≡ true) → (i ≤ m) × (has_member (x ∷ bits) (m - i) ≡ true)
one_further x bits i m (a, b) =
    let e : suc (m - (i + 1)) ≡ m - i = omega arith in
    (omega arith, ap (λ k. has_member (x ∷ bits) k) (sym e) ∙ b)

-- the numbers that are listed from i on belong to places that are true
members_from_are : (i : ℕ) (bits : List Bool) → All (λ m. (i ≤ m) × (has_member bits (m - i) ≡ true)) (members_from i bits)
members_from_are i [] = All-nil (λ m. (i ≤ m) × (has_member [] (m - i) ≡ true))
members_from_are i (true ∷ bits) =
    let P : ℕ → Type 0 = λ m. (i ≤ m) × (has_member (true ∷ bits) (m - i) ≡ true) in
    let e : 0 ≡ i - i = omega arith in
    let first : has_member (true ∷ bits) (i - i) ≡ true = ap (λ k. has_member (true ∷ bits) k) (sym e) in
    All-cons P i (members_from (i + 1) bits)
    (omega arith, first)
    (All-weaker _ P (one_further true bits i) (members_from (i + 1) bits) (members_from_are (i + 1) bits))
members_from_are i (false ∷ bits) =
    All-weaker _ _ (one_further false bits i) (members_from (i + 1) bits) (members_from_are (i + 1) bits)

-- each member that is listed is one
pub All-members : (bits : List Bool) → All (λ m. IsMember bits m) (members bits)
All-members bits =
    All-weaker (λ m. (0 ≤ m) × (has_member bits (m - 0) ≡ true)) (λ m. IsMember bits m)
    (λ m h. let e : m - 0 ≡ m = omega arith in ap (λ k. has_member bits k) (sym e) ∙ h.1)
    (members bits) (members_from_are 0 bits)

-- so each is below the length
pub All-members_below : (bits : List Bool) → All (λ m. m < length bits) (members bits)
All-members_below bits =
    All-weaker _ (λ m. m < length bits) (λ m h. IsMember-lt-length bits m h) (members bits) (All-members bits)

-- place k of places that are numbered from i is listed as i + k
Contains-members_from : (i : ℕ) (bits : List Bool) (k : ℕ) → IsMember bits k → Contains (members_from i bits) (i + k)
Contains-members_from i [] k m = absurd (true≢false (sym m))
Contains-members_from i (true ∷ bits) zero m = (0, omega arith, omega arith)
Contains-members_from i (false ∷ bits) zero m = absurd (true≢false (sym m))
Contains-members_from i (true ∷ bits) (suc k) m =
    let e : i + 1 + k ≡ i + suc k = omega arith in
    Contains-append_right (i ∷ []) (members_from (i + 1) bits) (i + suc k)
    (subst (λ n. Contains (members_from (i + 1) bits) n) e (Contains-members_from (i + 1) bits k m))
Contains-members_from i (false ∷ bits) (suc k) m =
    let e : i + 1 + k ≡ i + suc k = omega arith in
    subst (λ n. Contains (members_from (i + 1) bits) n) e (Contains-members_from (i + 1) bits k m)

-- and each member is listed
pub Contains-members : (bits : List Bool) (k : ℕ) → IsMember bits k → Contains (members bits) k
Contains-members bits k m =
    let e : 0 + k ≡ k = omega arith in subst (λ n. Contains (members bits) n) e (Contains-members_from 0 bits k m)

-- the members rise
pub IsStrictlyIncreasing-members_from : (i : ℕ) (bits : List Bool) → IsStrictlyIncreasing (members_from i bits)
IsStrictlyIncreasing-members_from i [] k h = absurd (omega arith)
IsStrictlyIncreasing-members_from i (false ∷ bits) k h = IsStrictlyIncreasing-members_from (i + 1) bits k h
IsStrictlyIncreasing-members_from i (true ∷ bits) zero h =
    omega (arith, (members_from_are (i + 1) bits 0 0 (omega arith)).0)
IsStrictlyIncreasing-members_from i (true ∷ bits) (suc k) h =
    let e : suc k + 1 ≡ suc (k + 1) = omega arith in
    subst (λ n. get_or (members_from (i + 1) bits) k 0 < get_or (i ∷ members_from (i + 1) bits) n 0) (sym e)
    (IsStrictlyIncreasing-members_from (i + 1) bits k (omega arith))

-- ---- the count

-- the members are as many as the places that are true
pub length-members_from : (i : ℕ) (bits : List Bool) → length (members_from i bits) ≡ count_by (λ b. b) bits
length-members_from i [] = refl
length-members_from i (true ∷ bits) = omega (arith, length-members_from (i + 1) bits, sum_by-cons (λ b. cond b 1 0) true bits)
length-members_from i (false ∷ bits) = omega (arith, length-members_from (i + 1) bits, sum_by-cons (λ b. cond b 1 0) false bits)

-- so is the count
pub count_of-count_by : (bits : List Bool) → count_of bits ≡ count_by (λ b. b) bits
count_of-count_by bits = length-members_from 0 bits

-- a count is at most the length
pub count_of-le-length : (bits : List Bool) → count_of bits ≤ length bits
count_of-le-length bits = omega (arith, count_of-count_by bits, count_by-le-length (λ b. b) bits)

-- setting adds one to the count, where the number was no member
pub count_of-with : (bits : List Bool) (i : ℕ) → i < length bits → count_of (with_member bits i) + cond (has_member bits i) 1 0 ≡ count_of bits + 1
count_of-with bits i h =
    omega (arith, count_of-count_by bits, count_of-count_by (with_member bits i), sum_by-set (λ b. cond b 1 0) bits i true false h)

-- clearing takes one from the count, where the number was a member
pub count_of-without : (bits : List Bool) (i : ℕ) → i < length bits → count_of (without_member bits i) + cond (has_member bits i) 1 0 ≡ count_of bits
count_of-without bits i h =
    omega (arith, count_of-count_by bits, count_of-count_by (without_member bits i), sum_by-set (λ b. cond b 1 0) bits i false false h)

-- the empty set counts none
pub members_from-no_members : (i n : ℕ) → members_from i (no_members n) ≡ []
members_from-no_members i zero = refl
members_from-no_members i (suc n) = members_from-no_members (i + 1) n

-- the full set counts its length
pub length-members_from-all : (i n : ℕ) → length (members_from i (all_members n)) ≡ n
length-members_from-all i zero = refl
length-members_from-all i (suc n) = ap suc (length-members_from-all (i + 1) n)

-- one place more, which is true, counts one more
pub count_of-take-yes : (bits : List Bool) (i : ℕ) → IsMember bits i → count_of (take (i + 1) bits) ≡ count_of (take i bits) + 1
count_of-take-yes bits i m = ap length (members-take-yes bits i m) ∙ length-append (members (take i bits)) (i ∷ [])

-- one place more, which is false, counts no more
pub count_of-take-no : (bits : List Bool) (i : ℕ) → i < length bits → has_member bits i ≡ false → count_of (take (i + 1) bits) ≡ count_of (take i bits)
count_of-take-no bits i h m = ap length (members-take-no bits i h m)

-- ---- the member at a place

-- what stands behind a list is at the place of its length
slice_get-append_seam : {A : Type 0} (a : List A) (x : A) (b : List A) → slice_get (a ++ x ∷ b) (length a) ≡ Some x
slice_get-append_seam [] x b = refl
slice_get-append_seam (y ∷ a) x b = slice_get-append_seam a x b

-- a member stands at the place of the count of those before it
pub slice_get-members : (bits : List Bool) (i : ℕ) → IsMember bits i → slice_get (members bits) (count_of (take i bits)) ≡ Some i
slice_get-members bits i m =
    let h = IsMember-lt-length bits i m in
    let split = ap (λ l. members (take i bits) ++ l) (members_since-yes bits i m) in
    ap (λ l. slice_get l (count_of (take i bits))) (sym (members-take-since bits i (omega arith)) ∙ split)
    ∙ slice_get-append_seam (members (take i bits)) i (members_since bits (i + 1))
