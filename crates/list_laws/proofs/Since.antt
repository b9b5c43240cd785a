-- What the members from a place on choose of a list, and the packed bits of the places before one.
use Rattle.std.specs.Prelude.{◌≡◌, ◌≤◌, ◌<◌, ◌+◌, ◌-◌, ◌*◌, ◌/◌, ◌%◌, ◌^◌, ℕ, zero, suc, Bool, true, false, List, [], ◌∷◌, ◌++◌, length, take, drop, bit_or, Option, Some, None, replicate, refl}
use Rattle.std.specs.List.{items_where_true}
use Rattle.std.proofs.Common.{arith, get_or, set, sym, ap, ◌∙◌, inl, inr}
use Rattle.std.proofs.lemmas.Bool.{cases_lt}
use Rattle.std.proofs.lemmas.List.{drop_more, drop_all, take_more, take-append-drop, length-take-le, length-drop, nil_from_length}
use Rattle.list_laws.specs.Bits.{packed}
use Rattle.list_laws.specs.Members.{has_member, IsMember, IsLeastMemberSince, IsNextMember, members_from}
use Rattle.list_laws.proofs.Members.{IsMember-lt-length, members_since}
use Rattle.list_laws.proofs.Chosen.{length-items}
use Rattle.list_laws.proofs.Places.{element_at}
use Rattle.list_laws.proofs.Bits.{packed-padded}
use Rattle.list_laws.proofs.PackedBits.{packed-push, packed-lt, or_bit}

-- what the members that are at least i choose of a list
abbrev pub items_since : {X : Type 0} → List Bool → List X → ℕ → List X
items_since bits xs i = items_where_true (drop i bits) (drop i xs)

items_since-yes : {X : Type 0} (d : X) (bits : List Bool) (xs : List X) (i : ℕ) → IsMember bits i → i < length xs → items_since bits xs i ≡ get_or xs i d ∷ items_since bits xs (i + 1)
items_since-yes d bits xs i m l =
    ap (λ b. items_where_true b (drop i xs)) (drop_more bits i false (IsMember-lt-length bits i m))
    ∙ ap (λ b. items_where_true (b ∷ drop (i + 1) bits) (drop i xs)) m
    ∙ ap (λ ys. items_where_true (true ∷ drop (i + 1) bits) ys) (drop_more xs i d l)

pub items_since-end : {X : Type 0} (bits : List Bool) (xs : List X) (i : ℕ) → length bits ≤ i → items_since bits xs i ≡ []
items_since-end bits xs i h = ap (λ b. items_where_true b (drop i xs)) (drop_all i bits h)

items_since-no : {X : Type 0} (bits : List Bool) (xs : List X) (i : ℕ) → length xs ≡ length bits → has_member bits i ≡ false → items_since bits xs i ≡ items_since bits xs (i + 1)
items_since-no {X} bits xs i e m =
    elim (cases_lt i (length bits)) [
      | inl h ↦
          let here : i < length xs = omega arith in
          let d : X = (element_at xs i here).0 in
          ap (λ b. items_where_true b (drop i xs)) (drop_more bits i false h)
          ∙ ap (λ b. items_where_true (b ∷ drop (i + 1) bits) (drop i xs)) m
          ∙ ap (λ ys. items_where_true (false ∷ drop (i + 1) bits) ys) (drop_more xs i d here)
      | inr h ↦ items_since-end bits xs i h ∙ sym (items_since-end bits xs (i + 1) (omega arith))
    ]

items_since-skip : {X : Type 0} (bits : List Bool) (xs : List X) (i n : ℕ) → length xs ≡ length bits → ((k : ℕ) → i ≤ k → k < i + n → has_member bits k ≡ false) → items_since bits xs i ≡ items_since bits xs (i + n)
items_since-skip bits xs i zero e h = let same : i ≡ i + 0 = omega arith in ap (λ k. items_since bits xs k) same
items_since-skip bits xs i (suc n) e h =
    let next : i + n + 1 ≡ i + suc n = omega arith in
    items_since-skip bits xs i n e (λ k a b. h k a (omega arith))
    ∙ items_since-no bits xs (i + n) e (h (i + n) (omega arith) (omega arith))
    ∙ ap (λ k. items_since bits xs k) next

-- the first that is chosen stands at the next member
pub items_since-next : {X : Type 0} (d : X) (bits : List Bool) (xs : List X) (i m : ℕ) → length xs ≡ length bits → IsLeastMemberSince bits i m → items_since bits xs i ≡ get_or xs m d ∷ items_since bits xs (m + 1)
items_since-next d bits xs i m e next =
    let since : i ≤ m = next.since in
    let there : i + (m - i) ≡ m = omega arith in
    let here : m < length xs = omega (arith, IsMember-lt-length bits m next.member) in
    items_since-skip bits xs i (m - i) e (λ k a b. next.least k a (omega arith))
    ∙ ap (λ k. items_since bits xs k) there
    ∙ items_since-yes d bits xs m next.member here

-- as many are chosen as there are members
length-items_since : {X : Type 0} (bits : List Bool) (xs : List X) (i : ℕ) → length xs ≡ length bits → length (items_since bits xs i) ≡ length (members_since bits i)
length-items_since bits xs i e = length-items (drop i bits) (drop i xs) i (omega (arith, length-drop i xs, length-drop i bits))

-- where no member is left nothing is chosen
pub items_since-none : {X : Type 0} (bits : List Bool) (xs : List X) (i : ℕ) → length xs ≡ length bits → members_since bits i ≡ [] → items_since bits xs i ≡ []
items_since-none bits xs i e none = nil_from_length (items_since bits xs i) (length-items_since bits xs i e ∙ ap length none)

-- ---- next members

-- a next member of a later place, where there is none before it
pub next_member-later : (bits : List Bool) (i j : ℕ) (next : Option ℕ) → i ≤ j → ((k : ℕ) → i ≤ k → k < j → has_member bits k ≡ false) → IsNextMember bits j next → IsNextMember bits i next
next_member-later bits i j None l none h = λ k a. elim (cases_lt k j) [ inl low ↦ none k a low | inr high ↦ h k high ]
next_member-later bits i j (Some m) l none h = record {
  member = h.member;
  since = let since : j ≤ m = h.since in omega arith;
  least = λ k a b. elim (cases_lt k j) [ inl low ↦ none k a low | inr high ↦ h.least k high b ];
}

-- ---- packed bits

-- a place that is false adds nothing
front-no : (size count : ℕ) (bits : List Bool) (i : ℕ) → i < length bits → has_member bits i ≡ false → packed size count (take (i + 1) bits) ≡ packed size count (take i bits)
front-no size count bits i h m =
    ap (packed size count) (take_more bits i false h ∙ ap (λ b. take i bits ++ b ∷ []) m) ∙ packed-padded size count (take i bits) (suc zero)

-- nor do n of them
front-skip : (size count : ℕ) (bits : List Bool) (i n : ℕ) → i + n ≤ length bits → ((k : ℕ) → i ≤ k → k < i + n → has_member bits k ≡ false) → packed size count (take (i + n) bits) ≡ packed size count (take i bits)
front-skip size count bits i zero l h = let same : i + 0 ≡ i = omega arith in ap (λ k. packed size count (take k bits)) same
front-skip size count bits i (suc n) l h =
    let next : i + suc n ≡ i + n + 1 = omega arith in
    ap (λ k. packed size count (take k bits)) next
    ∙ front-no size count bits (i + n) (omega arith) (h (i + n) (omega arith) (omega arith))
    ∙ front-skip size count bits i n (omega arith) (λ k a b. h k a (omega arith))

-- where no member is listed all are false
none_listed : (first : ℕ) (bits : List Bool) → members_from first bits ≡ [] → bits ≡ replicate (length bits) false
none_listed first [] e = refl
none_listed first (true ∷ bits) e = cc
none_listed first (false ∷ bits) e = ap (λ rest. false ∷ rest) (none_listed (first + 1) bits e)

-- where no member is left the bits before the place are all
pub packed_front-end : (size count : ℕ) (bits : List Bool) (i : ℕ) → members_since bits i ≡ [] → packed size count (take i bits) ≡ packed size count bits
packed_front-end size count bits i none =
    sym (packed-padded size count (take i bits) (length (drop i bits)))
    ∙ ap (λ rest. packed size count (take i bits ++ rest)) (sym (none_listed i (drop i bits) none))
    ∙ ap (packed size count) (take-append-drop i bits)

-- the bit of the next member is set in its byte
pub packed_front-next : (count : ℕ) (bits : List Bool) (i m : ℕ) (bytes : List ℕ) → m / 8 < count → IsLeastMemberSince bits i m → bytes ≡ packed 8 count (take i bits)
    → set bytes (m / 8) (bit_or (get_or bytes (m / 8) 0) ((1 * 2 ^ (m % 8)) % 2 ^ 8)) ≡ packed 8 count (take (m + 1) bits)
packed_front-next count bits i m bytes within next e =
    let h : m < length bits = IsMember-lt-length bits m next.member in
    let since : i ≤ m = next.since in
    let there : i + (m - i) ≡ m = omega arith in
    let before : bytes ≡ packed 8 count (take m bits)
    = e ∙ sym (front-skip 8 count bits i (m - i) (omega arith) (λ k a b. next.least k a (omega arith))) ∙ ap (λ k. packed 8 count (take k bits)) there in
    let place : length (take m bits) ≡ m / 8 * 8 + m % 8 = omega (arith, length-take-le m bits (omega arith)) in
    let low : m % 8 < 8 = omega arith in
    let below : get_or (packed 8 count (take m bits)) (m / 8) 0 < 2 ^ (m % 8) = packed-lt count (take m bits) (m / 8) (m % 8) place low within in
    ap (λ old. set old (m / 8) (bit_or (get_or old (m / 8) 0) ((1 * 2 ^ (m % 8)) % 2 ^ 8))) before
    ∙ ap (λ byte. set (packed 8 count (take m bits)) (m / 8) byte) (or_bit _ (m % 8) below low)
    ∙ sym (packed-push count (take m bits) true (m / 8) (m % 8) place low within)
    ∙ sym (ap (packed 8 count) (take_more bits m false h ∙ ap (λ b. take m bits ++ b ∷ []) next.member))
