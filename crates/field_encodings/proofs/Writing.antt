-- What a pass over the updated positions of a list keeps: what is written so far, followed by what the
-- rest asks for, is the whole.
use Rattle.std.specs.Prelude.{◌≡◌, ◌≤◌, ◌<◌, ◌+◌, ◌*◌, ◌/◌, ◌%◌, ◌^◌, ℕ, zero, suc, Bool, true, false, cond, List, [], ◌∷◌, ◌++◌, length, take, drop, slice_get, bit_or, Option, Some, None, IsSome, refl}
use mir.Val.{bool_byte}
use Rattle.std.specs.Int.Bits.{or_zero_r}
use Rattle.std.specs.List.{flat_map, items_where_true, All}
use Rattle.std.proofs.Common.{arith, get_or, set, sym, ap, subst, ◌∙◌, append_assoc, inl, inr}
use Rattle.std.proofs.Math.Nat.{mul-le-mul_right}
use Rattle.std.proofs.lemmas.Bool.{cases_lt}
use Rattle.std.proofs.lemmas.List.{drop_more, drop_all, take_more, take_all, take-take, take-append-le, append-nil, length-map, length-take-le, nil_from_length}
use Rattle.std.proofs.lemmas.List.Elements.{All-head, All-tail}
use Rattle.list_laws.specs.Members.{has_member, members, IsLeastMemberSince, IsNextMember}
use Rattle.list_laws.proofs.Members.{members_since, members_since-next, members_since-no, members_since-none, members_since-end, IsMember-lt-length}
use Rattle.list_laws.specs.Bits.{packed}
use Rattle.list_laws.proofs.PackedBits.{packed-push, packed-lt, or_bit}
use Rattle.list_laws.proofs.Places.{element_at}
use Rattle.list_laws.proofs.Since.{items_since, items_since-next, items_since-none}
use Rattle.field_encodings.specs.Lists.{marks_at, values_at}
use Rattle.field_encodings.proofs.NextUpdated.{mark_here, next_here}

-- ---- values of a list

-- an element that is read is there
slice_get-read : {X : Type 0} (xs : List X) (i : ℕ) (x : X) → i < length xs → x ≡ get_or xs i x → slice_get xs i ≡ Some x
slice_get-read [] i x h e = absurd (omega arith)
slice_get-read (y ∷ xs) zero x h e = ap (λ z. Some z) (sym e)
slice_get-read (y ∷ xs) (suc i) x h e = slice_get-read xs i x (omega arith) e

-- there is a value for each position
pub length-values_at : {X : Type 0} (values : List X) (locals : List ℕ) → All (λ local. local < length values) locals → length (values_at values locals) ≡ length locals
length-values_at values [] h = refl
length-values_at values (local ∷ locals) h =
    let here = element_at values local (All-head (λ local. local < length values) local locals h) in
    rw here.1 (ap suc (length-values_at values locals (All-tail (λ local. local < length values) local locals h)))

-- the value at a position, which was read
pub value_here : {X : Type 0} (values : List X) (locals : List ℕ) (m : ℕ) (x : X) → All (λ local. local < length values) locals → m < length locals → x ≡ get_or values (get_or locals m 0) x
    → get_or (values_at values locals) m x ≡ x
value_here values [] m x h l e = absurd (omega arith)
value_here values (local ∷ locals) zero x h l e =
    let here : slice_get values local ≡ Some x = slice_get-read values local x (All-head (λ local. local < length values) local locals h) e in
    rw here refl
value_here values (local ∷ locals) (suc m) x h l e =
    let here = element_at values local (All-head (λ local. local < length values) local locals h) in
    rw here.1 (value_here values locals m x (All-tail (λ local. local < length values) local locals h) (omega arith) e)

-- the values from a position on, whose value was read
pub values_at-drop : {X : Type 0} (values : List X) (locals : List ℕ) (i : ℕ) (x : X) → i < length locals → get_or locals i 0 < length values → x ≡ get_or values (get_or locals i 0) x → values_at values (drop i locals) ≡ x ∷ values_at values (drop (i + 1) locals)
values_at-drop values locals i x h l e =
    let here : slice_get values (get_or locals i 0) ≡ Some x = slice_get-read values (get_or locals i 0) x l e in
    ap (λ l. values_at values l) (drop_more locals i 0 h) ∙ (rw here refl)

-- past the last position there is none
pub values_at-end : {X : Type 0} (values : List X) (locals : List ℕ) (i : ℕ) → length locals ≤ i → values_at values (drop i locals) ≡ []
values_at-end values locals i h = ap (λ l. values_at values l) (drop_all i locals h)

-- ---- one piece more

-- what is written so far and the pieces to come are the whole
abbrev pub IsWrittenTo : {X : Type 0} → (X → List ℕ) → (at : ℕ) → (text : List ℕ) → (rest : List X) → (whole : List ℕ) → Type 0
IsWrittenTo write at text rest whole = take at text ++ flat_map write rest ≡ whole

-- the next piece is written
pub IsWrittenTo-next : {X : Type 0} (write : X → List ℕ) (at next : ℕ) (text new whole : List ℕ) (x : X) (rest xs : List X) → rest ≡ x ∷ xs → take next new ≡ take at text ++ write x → IsWrittenTo write at text rest whole → IsWrittenTo write next new xs whole
IsWrittenTo-next write at next text new whole x rest xs e n w =
    ap (λ t. t ++ flat_map write xs) n
    ∙ append_assoc (take at text) (write x) (flat_map write xs)
    ∙ ap (λ l. take at text ++ flat_map write l) (sym e)
    ∙ w

-- no piece is left
pub IsWrittenTo-end : {X : Type 0} (write : X → List ℕ) (at : ℕ) (text whole : List ℕ) (rest : List X) → rest ≡ [] → length text ≤ at → IsWrittenTo write at text rest whole → text ≡ whole
IsWrittenTo-end write at text whole rest e h w =
    sym (take_all at text h)
    ∙ sym (append-nil (take at text))
    ∙ ap (λ l. take at text ++ flat_map write l) (sym e)
    ∙ w

-- the next piece, where all have one size: k are written
pub IsWrittenTo-piece : {X : Type 0} (write : X → List ℕ) (size s k : ℕ) (text new whole : List ℕ) (x : X) (rest xs : List X) → s ≡ size → rest ≡ x ∷ xs → take (k * s + size) new ≡ take (k * s) text ++ write x → IsWrittenTo write (k * size) text rest whole → IsWrittenTo write ((k + 1) * size) new xs whole
IsWrittenTo-piece write size s k text new whole x rest xs same e n w =
    let there : take (k * size + size) new ≡ take (k * size) text ++ write x =
    subst (λ z. take (k * z + size) new ≡ take (k * z) text ++ write x) same n in
    let sum : k * size + size ≡ (k + 1) * size = omega arith in
    IsWrittenTo-next write (k * size) ((k + 1) * size) text new whole x rest xs e
    (subst (λ z. take z new ≡ take (k * size) text ++ write x) sum there) w

-- ---- from one updated position to the next

-- while fewer are written than there are, there is a next one
pub is_left : (marks : List Bool) (place written count : ℕ) (answer : Option ℕ) → written + length (members_since marks place) ≡ count → written < count → IsNextMember marks place answer → IsSome answer
is_left marks place written count None left more none = absurd (omega (arith, ap length (members_since-none marks place none)))
is_left marks place written count (Some m) left more next = refl

-- the one that is found
pub is_next : (marks : List Bool) (place m : ℕ) (answer : Option ℕ) → answer ≡ Some m → IsNextMember marks place answer → IsLeastMemberSince marks place m
is_next marks place m answer e next = subst (IsNextMember marks place) e next

-- when all are written none is left
pub none_left : (marks : List Bool) (place written count : ℕ) → written + length (members_since marks place) ≡ count → count ≤ written → members_since marks place ≡ []
none_left marks place written count left all = nil_from_length (members_since marks place) (omega arith)

-- what every pass keeps: how many are left, and that their values are to be written behind
pub record AreSentTo {X : Type 0} (write : X → List ℕ) (size : ℕ) (bits : List Bool) (values : List X) (locals : List ℕ) (count place written : ℕ) (text : List ℕ) : Type 0 where
  pub left : written + length (members_since (marks_at bits locals) place) ≡ count
  pub within : place ≤ length locals
  pub sent : IsWrittenTo write (written * size) text (items_since (marks_at bits locals) (values_at values locals) place) (flat_map write (items_since (marks_at bits locals) (values_at values locals) 0))

-- at first nothing is written
pub AreSentTo-start : {X : Type 0} (write : X → List ℕ) (size : ℕ) (bits : List Bool) (values : List X) (locals : List ℕ) (count : ℕ) (text : List ℕ) → count ≡ length (members (marks_at bits locals)) → AreSentTo write size bits values locals count 0 0 text
AreSentTo-start write size bits values locals count text e =
    let none : 0 * size ≡ 0 = omega arith in record {
      left = omega arith;
      within = omega arith;
      sent = ap (λ n. take n text ++ flat_map write (items_since (marks_at bits locals) (values_at values locals) 0)) none;
    }

-- all of a text is written, where all pieces have one size
pub written_whole : {X : Type 0} (write : X → List ℕ) (size written count : ℕ) (text whole : List ℕ) (rest : List X) → rest ≡ [] → written ≡ count → length text ≡ count * size → IsWrittenTo write (written * size) text rest whole → text ≡ whole
written_whole write size written count text whole rest none all long w =
    IsWrittenTo-end write (written * size) text whole rest none (omega (arith, ap (λ n. n * size) all)) w

-- one position more: its value is written
pub AreSentTo-next : {X : Type 0} (write : X → List ℕ) (size s : ℕ) (bits : List Bool) (values : List X) (locals : List ℕ) (count place written m : ℕ) (text new : List ℕ) (x : X) → All (λ local. local < length values) locals
    → IsLeastMemberSince (marks_at bits locals) place m → x ≡ get_or values (get_or locals m 0) x → s ≡ size → take (written * s + size) new ≡ take (written * s) text ++ write x
    → AreSentTo write size bits values locals count place written text → AreSentTo write size bits values locals count (m + 1) (written + 1) new
AreSentTo-next write size s bits values locals count place written m text new x has next e same n so_far =
    let marks : List Bool = marks_at bits locals in
    let each : length marks ≡ length locals = length-map locals (has_member bits) in
    let inside : m < length locals = omega (arith, IsMember-lt-length marks m next.member) in
    let here : get_or (values_at values locals) m x ≡ x = value_here values locals m x has inside e in
    record {
      left = omega (arith, so_far.left, ap length (members_since-next marks place m next));
      within = omega arith;
      sent = IsWrittenTo-piece write size s written text new (flat_map write (items_since marks (values_at values locals) 0)) x
          (items_since marks (values_at values locals) place) (items_since marks (values_at values locals) (m + 1)) same
          (items_since-next x marks (values_at values locals) place m (length-values_at values locals has ∙ sym each) next
          ∙ ap (λ y. y ∷ items_since marks (values_at values locals) (m + 1)) here)
          n so_far.sent;
    }

-- at the end all values are written
pub AreSentTo-end : {X : Type 0} (write : X → List ℕ) (size : ℕ) (bits : List Bool) (values : List X) (locals : List ℕ) (count place written : ℕ) (text : List ℕ) → All (λ local. local < length values) locals → count ≤ written → length text ≡ count * size
    → AreSentTo write size bits values locals count place written text → text ≡ flat_map write (items_since (marks_at bits locals) (values_at values locals) 0)
AreSentTo-end write size bits values locals count place written text has all long so_far =
    let marks : List Bool = marks_at bits locals in
    let none : members_since marks place ≡ [] = none_left marks place written count so_far.left all in
    written_whole write size written count text (flat_map write (items_since marks (values_at values locals) 0)) (items_since marks (values_at values locals) place)
    (items_since-none marks (values_at values locals) place (length-values_at values locals has ∙ sym (length-map locals (has_member bits))) none)
    (omega (arith, so_far.left)) long so_far.sent

-- ---- from one position to the next, updated or not

-- while fewer are written than there are, the position is in the list
pub is_inside : (bits : List Bool) (locals : List ℕ) (place written count : ℕ) → written + length (members_since (marks_at bits locals) place) ≡ count → written < count → place < length locals
is_inside bits locals place written count left more =
    elim (cases_lt place (length locals)) [
      | inl inside ↦ inside
      | inr past ↦
          let none : members_since (marks_at bits locals) place ≡ []
          = members_since-end (marks_at bits locals) place (omega (arith, length-map locals (has_member bits))) in
          absurd (omega (arith, ap length none))
    ]

-- nothing is chosen at a position that is not updated
items_since-pass : {X : Type 0} (d : X) (marks : List Bool) (xs : List X) (i : ℕ) → i < length marks → length xs ≡ length marks → has_member marks i ≡ false → items_since marks xs i ≡ items_since marks xs (i + 1)
items_since-pass d marks xs i inside each m =
    ap (λ b. items_where_true b (drop i xs)) (drop_more marks i false inside)
    ∙ ap (λ b. items_where_true (b ∷ drop (i + 1) marks) (drop i xs)) m
    ∙ ap (λ ys. items_where_true (false ∷ drop (i + 1) marks) ys) (drop_more xs i d (omega arith))

-- what is written behind a front leaves it
kept_front : (at size : ℕ) (text new piece : List ℕ) → at ≤ length text → take (at + size) new ≡ take at text ++ piece → take at new ≡ take at text
kept_front at size text new piece room n =
    sym (take-take at (at + size) new (omega arith))
    ∙ ap (λ l. take at l) n
    ∙ take-append-le at (take at text) piece (omega (arith, length-take-le at text room))
    ∙ take-take at at text (omega arith)

-- one position more, which is not updated: what is written for it lies behind what is kept
AreSentTo-pass : {X : Type 0} (write : X → List ℕ) (size s : ℕ) (bits : List Bool) (values : List X) (locals : List ℕ) (count place written : ℕ) (text new : List ℕ) (x : X) → All (λ local. local < length values) locals
    → place < length locals → has_member bits (get_or locals place 0) ≡ false → s ≡ size → written * s ≤ length text → take (written * s + size) new ≡ take (written * s) text ++ write x
    → AreSentTo write size bits values locals count place written text → AreSentTo write size bits values locals count (place + 1) written new
AreSentTo-pass write size s bits values locals count place written text new x has inside other same room n so_far =
    let marks : List Bool = marks_at bits locals in
    let each : length marks ≡ length locals = length-map locals (has_member bits) in
    let here : has_member marks place ≡ false = mark_here bits locals place inside ∙ other in
    let front : take (written * size) new ≡ take (written * size) text
    = subst (λ z. take (written * z) new ≡ take (written * z) text) same (kept_front (written * s) size text new (write x) room n) in
    record {
      left = omega (arith, so_far.left, ap length (members_since-no marks place here));
      within = omega arith;
      sent = ap (λ t. t ++ flat_map write (items_since marks (values_at values locals) (place + 1))) front
          ∙ ap (λ l. take (written * size) text ++ flat_map write l) (sym (items_since-pass x marks (values_at values locals) place (omega arith) (length-values_at values locals has ∙ sym each) here))
          ∙ so_far.sent;
    }

-- one position more, updated or not
pub AreSentTo-step : {X : Type 0} (write : X → List ℕ) (size s : ℕ) (bits : List Bool) (values : List X) (locals : List ℕ) (count place written : ℕ) (text new : List ℕ) (x : X) (updated : Bool) → All (λ local. local < length values) locals
    → place < length locals → updated ≡ has_member bits (get_or locals place 0) → x ≡ get_or values (get_or locals place 0) x → s ≡ size → written < count → length text ≡ count * size → take (written * s + size) new ≡ take (written * s) text ++ write x
    → AreSentTo write size bits values locals count place written text → AreSentTo write size bits values locals count (place + 1) (written + bool_byte updated) new
AreSentTo-step write size s bits values locals count place written text new x true has inside here e same more long n so_far =
    AreSentTo-next write size s bits values locals count place written place text new x has (next_here bits locals place inside (sym here)) e same n so_far
AreSentTo-step write size s bits values locals count place written text new x false has inside here e same more long n so_far =
    let up : written * size ≤ count * size = mul-le-mul_right size (omega arith) in
    let room : written * s ≤ length text = omega (arith, ap (λ z. written * z) same) in
    let stays : written ≡ written + 0 = omega arith in
    subst (λ w. AreSentTo write size bits values locals count (place + 1) w new) stays
    (AreSentTo-pass write size s bits values locals count place written text new x has inside (sym here) same room n so_far)

-- a bit that is set or not, behind a number below it
or_mark : (byte bit : ℕ) (mark : Bool) → byte < 2 ^ bit → bit < 8 → bit_or byte ((bool_byte mark * 2 ^ bit) % 2 ^ 8) ≡ byte + cond mark (2 ^ bit) 0
or_mark byte bit true below low = or_bit byte bit below low
or_mark byte bit false below low =
    let none : (0 * 2 ^ bit) % 2 ^ 8 ≡ 0 = omega arith in
    let same : byte ≡ byte + 0 = omega arith in
    ap (bit_or byte) none ∙ or_zero_r byte ∙ same

-- the bit of one position more is in its byte
pub packed_front-step : (count : ℕ) (marks : List Bool) (place : ℕ) (updated : Bool) (bytes : List ℕ) → place < length marks → place / 8 < count → updated ≡ has_member marks place → bytes ≡ packed 8 count (take place marks)
    → set bytes (place / 8) (bit_or (get_or bytes (place / 8) 0) ((bool_byte updated * 2 ^ (place % 8)) % 2 ^ 8)) ≡ packed 8 count (take (place + 1) marks)
packed_front-step count marks place updated bytes inside within here e =
    let long : length (take place marks) ≡ place / 8 * 8 + place % 8 = omega (arith, length-take-le place marks (omega arith)) in
    let low : place % 8 < 8 = omega arith in
    let below : get_or (packed 8 count (take place marks)) (place / 8) 0 < 2 ^ (place % 8) = packed-lt count (take place marks) (place / 8) (place % 8) long low within in
    ap (λ old. set old (place / 8) (bit_or (get_or old (place / 8) 0) ((bool_byte updated * 2 ^ (place % 8)) % 2 ^ 8))) e
    ∙ ap (λ byte. set (packed 8 count (take place marks)) (place / 8) byte) (or_mark _ (place % 8) updated below low)
    ∙ sym (packed-push count (take place marks) updated (place / 8) (place % 8) long low within)
    ∙ sym (ap (packed 8 count) (take_more marks place false inside ∙ ap (λ b. take place marks ++ b ∷ []) (sym here)))
