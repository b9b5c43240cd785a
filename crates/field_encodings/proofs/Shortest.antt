-- The shortest of four forms, and the room that it takes.
use Rattle.std.specs.Prelude.{◌≡◌, ◌≤◌, ◌<◌, ◌+◌, ◌*◌, ◌-◌, ℕ, zero, suc, cond, Bool, List, [], ◌∷◌, ◌++◌, length, take, drop, nat_lt, refl}
use Rattle.std.proofs.Common.{arith, mul-pos, get_or, set, sym, ap, subst, ◌∙◌}
use Rattle.std.proofs.lemmas.Bool.{cond_both}
use borrow.Rule.Slice.PartMut.{put_mid}
use Rattle.std.proofs.lemmas.List.{drop_all, append-nil, nil_from_length}
use Rattle.std.specs.List.{flat_map, items_where_true}
use Rattle.list_laws.specs.LittleEndian.{le_bytes}
use Rattle.list_laws.specs.Members.{members}
use Rattle.list_laws.proofs.Chosen.{length-items}
use Rattle.field_encodings.specs.Forms.{position_text, names, form}
use Rattle.field_encodings.specs.Lengths.{greatest_of, width_for, form_length, IsShortest, IsSentTag}

-- positions take four bytes at most
pub width_for-le : (number : ℕ) → width_for number ≤ 4
unfolding width_for
width_for-le number =
    cond_both (nat_lt number 256) 1 (cond (nat_lt number 65536) 2 4) (λ w. w ≤ 4) (λ _. omega arith)
    (λ _. cond_both (nat_lt number 65536) 2 4 (λ w. w ≤ 4) (λ _. omega arith) (λ _. omega arith))

-- and one of three widths: so it is four where it is none of the others
pub width_is_four : (number width : ℕ) → width ≡ width_for number → (width ≡ 1 → ⊥) → (width ≡ 2 → ⊥) → width ≡ 4
unfolding width_for
width_is_four number width =
    cond_both (nat_lt number 256) 1 (cond (nat_lt number 65536) 2 4) (λ w. width ≡ w → (width ≡ 1 → ⊥) → (width ≡ 2 → ⊥) → width ≡ 4) (λ _ e one two. absurd (one e))
    (λ _. cond_both (nat_lt number 65536) 2 4 (λ w. width ≡ w → (width ≡ 1 → ⊥) → (width ≡ 2 → ⊥) → width ≡ 4) (λ _ e one two. absurd (two e)) (λ _ e one two. e))

-- four numbers in a row
four_at : (f : ℕ → ℕ) (k : ℕ) → k < 4 → get_or (f 0 ∷ f 1 ∷ f 2 ∷ f 3 ∷ []) k 0 ≡ f k
four_at f zero h = refl
four_at f (suc zero) h = refl
four_at f (suc (suc zero)) h = refl
four_at f (suc (suc (suc zero))) h = refl
four_at f (suc (suc (suc (suc k)))) h = absurd (omega arith)

-- the first least of four numbers
pub IsShortest-first_least : (f : ℕ → ℕ) (numbers : List ℕ) (tag : ℕ) → numbers ≡ f 0 ∷ f 1 ∷ f 2 ∷ f 3 ∷ [] → tag < 4
    → ((k : ℕ) → k < 4 → get_or numbers tag 0 ≤ get_or numbers k 0)
    → ((k : ℕ) → k < tag → get_or numbers tag 0 < get_or numbers k 0) → IsShortest f tag
IsShortest-first_least f numbers tag e h least first =
    let here : get_or numbers tag 0 ≡ f tag = ap (λ l. get_or l tag 0) e ∙ four_at f tag h in
    record {
      is_tag = omega arith;
      least = λ k l. omega (arith, least k (omega arith), ap (λ l. get_or l k 0) e ∙ four_at f k (omega arith));
      first = λ k l. omega (arith, first k l, ap (λ l. get_or l k 0) e ∙ four_at f k (omega arith));
    }

-- what is sent takes no more room than all values
pub form_length-le : (n u greatest size tag : ℕ) → u ≤ n → IsSentTag n u greatest size tag → form_length n u greatest size tag ≤ 1 + n * size
form_length-le zero u greatest size tag h s =
    let none : u ≡ 0 = omega arith in
    let three : tag ≡ 3 = s.empty refl in
    subst (λ t. form_length 0 u greatest size t ≤ 1 + 0 * size) (sym three) (rw none (omega arith))
form_length-le (suc n) u greatest size tag h s = (s.shortest (omega arith)).least 0 (omega arith)

-- and a form has a byte at least
pub form_length-pos : (n u greatest size tag : ℕ) → 0 < form_length n u greatest size tag
form_length-pos n u greatest size zero = omega arith
form_length-pos n u greatest size (suc zero) = omega arith
form_length-pos n u greatest size (suc (suc zero)) = omega arith
form_length-pos n u greatest size (suc (suc (suc more))) = omega arith

-- a byte in front, and the rest written behind it
pub headed : (text rest : List ℕ) (first : ℕ) → 0 < length text → put_mid 1 (length (set text 0 first) - 1) (set text 0 first) rest ≡ first ∷ rest
headed [] rest first h = absurd (omega arith)
headed (x ∷ text) rest first h =
    ap (λ l. first ∷ (rest ++ l)) (drop_all (suc (length text) - 1) text (omega arith)) ∙ ap (λ l. first ∷ l) (append-nil rest)

-- what follows tag 2 is the width, the positions in that width and the values
pub position_text-from : (positions values new : List ℕ) (width greatest : ℕ) → width ≡ width_for greatest → greatest ≡ greatest_of positions
    → new ≡ flat_map (le_bytes width) positions ++ values → width ∷ new ≡ position_text positions ++ values
position_text-from positions values new width greatest w g n =
    ap (λ l. width ∷ l) n ∙ ap (λ z. z ∷ (flat_map (le_bytes z) positions ++ values)) (w ∙ ap width_for g)

-- what is sent fits where all values do
pub sent_fits : (n m u greatest s size tag len room : ℕ) → n ≡ m → s ≡ size → u ≤ n → IsSentTag n u greatest s tag → len ≡ form_length n u greatest s tag
    → 1 + m * size ≤ room → len ≤ room
sent_fits n m u greatest s size tag len room one same few sent e r =
    let all : 1 + n * s ≡ 1 + m * size = ap (λ z. 1 + z * s) one ∙ ap (λ z. 1 + m * z) same in
    omega (arith, form_length-le n u greatest s tag few sent)

-- a form's length goes by the numbers alone
pub same_length : (n m u greatest s size tag : ℕ) → n ≡ m → s ≡ size → form_length n u greatest s tag ≡ form_length m u greatest size tag
same_length n m u greatest s size tag one same =
    ap (λ z. form_length z u greatest s tag) one ∙ ap (λ z. form_length m u greatest z tag) same

-- a sent tag is one of the four
pub sent_is_tag : (n u greatest size tag : ℕ) → IsSentTag n u greatest size tag → tag ≤ 3
sent_is_tag zero u greatest size tag s = omega (arith, s.empty refl)
sent_is_tag (suc n) u greatest size tag s = (s.shortest (omega arith)).is_tag

-- a sent tag goes by the numbers alone
pub sent_moved : (n u v greatest g size tag : ℕ) → u ≡ v → greatest ≡ g → IsSentTag n u greatest size tag → IsSentTag n v g size tag
sent_moved n u v greatest g size tag one same s =
    subst (λ z. IsSentTag n v z size tag) same (subst (λ z. IsSentTag n z greatest size tag) one s)

-- ---- a list without updates

-- tag 3 is sent
pub sent_nothing : (n u greatest size : ℕ) → 0 < size → u ≡ 0 → IsSentTag n u greatest size 3
sent_nothing n u greatest size some none =
    subst (λ z. IsSentTag n z greatest size 3) (sym none) (record { shortest = λ full. record { is_tag = omega arith; least = λ other h. omega (arith, form_length-pos n 0 greatest size other); first = longer full }; empty = λ _. refl })
  where
    longer : 0 < n → (other : ℕ) → other < 3 → form_length n 0 greatest size 3 < form_length n 0 greatest size other
    longer full zero h = omega (arith, mul-pos {m = n} {n = size} full some)
    longer full (suc zero) h = omega arith
    longer full (suc (suc zero)) h = omega arith
    longer full (suc (suc (suc more))) h = absurd (omega arith)

-- and is all that is sent
pub form_of_nothing : {X : Type 0} (bytes_of : X → List ℕ) (ids : List ℕ) (marks : List Bool) (values : List X) → length ids ≡ length marks → length values ≡ length marks → length (members marks) ≡ 0
    → form bytes_of 3 ids marks values ≡ 3 ∷ []
unfolding names
form_of_nothing {X} bytes_of ids marks values some_ids some_values none =
    let no_ids : items_where_true marks ids ≡ [] = nil_from_length (items_where_true marks ids) (length-items marks ids 0 some_ids ∙ none) in
    let no_values : items_where_true marks values ≡ [] = nil_from_length (items_where_true marks values) (length-items marks values 0 some_values ∙ none) in
    rw (no_ids, no_values) refl

-- one byte over the front
pub front_set : (text : List ℕ) (byte : ℕ) → 0 < length text → take 1 (set text 0 byte) ≡ byte ∷ []
front_set [] byte h = absurd (omega arith)
front_set (x ∷ text) byte h = refl

pub behind_set : (text : List ℕ) (byte : ℕ) → drop 1 (set text 0 byte) ≡ drop 1 text
behind_set [] byte = refl
behind_set (x ∷ text) byte = refl
