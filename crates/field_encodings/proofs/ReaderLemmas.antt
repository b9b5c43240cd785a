-- What each reader's checks come to, branch by branch.
use Rattle.std.proofs.Common.{◌≡◌, ◌<◌, ◌≤◌, ℕ, zero, suc, ◌+◌, ◌-◌, ◌*◌, ◌/◌, Bool, true, false, List, [], ◌∷◌, ◌++◌, length, take, drop, map, refl, sym, ap, ◌∙◌, arith, subst, inl, inr, Some, None, Ok, Err}
use Rattle.std.specs.Prelude.{nat_eq, replicate, ◌||◌}
use Rattle.std.specs.List.{list_any, range_with_len}
use Rattle.std.proofs.lemmas.Bool.{lt-ltb, le-ltb, eq-eqb, ne_eqb}
use Rattle.std.proofs.lemmas.List.{length-take, length-drop, take-append-drop, length-map, take_rest}
use Rattle.field_encodings.specs.declared.decode_fault.DecodeFault.{DecodeFault}
use Rattle.field_encodings.specs.declared.decode_fault.DecodeFault.TheVariants.{Length, Width, PadBits}
use Rattle.list_laws.specs.Members.{members_from}
use Rattle.list_laws.specs.Bits.{unpacked}
use Rattle.field_encodings.specs.Lengths.{vector_length, greatest_of, width_for}
use Rattle.std.proofs.lemmas.Nat.{div-add-mod'}
use Rattle.reduce_laws.specs.WordLaws.{WordLaws}
use Rattle.list_laws.specs.LittleEndian.{numbers}
use Rattle.field_encodings.specs.Checks.{paired, position_fault, id_fault, all_checked, bits_checked, positions_checked, ids_checked}
use Rattle.list_laws.specs.Among.{place_of}
use Rattle.field_encodings.specs.Places.{set_from, IsPositionWidth, StandFrom}
use Rattle.field_encodings.proofs.Faults.{rising_from_id_fault}
use Rattle.list_laws.proofs.WholeNumbers.{length-numbers}
use Rattle.list_laws.proofs.Bits.{none_set}

marked_padded : (first : ℕ) (marks : List Bool) (spare : ℕ) → members_from first (marks ++ replicate spare false) ≡ members_from first marks
marked_padded first [] zero = refl
marked_padded first [] (suc spare) = nothing_marked (first + 1) spare
  where
    nothing_marked : (first spare : ℕ) → members_from first (replicate spare false) ≡ []
    nothing_marked first zero = refl
    nothing_marked first (suc spare) = nothing_marked (first + 1) spare
marked_padded first (true ∷ marks) spare = ap (λ rest. first ∷ rest) (marked_padded (first + 1) marks spare)
marked_padded first (false ∷ marks) spare = marked_padded (first + 1) marks spare

-- where no bit past the last position is set, the set bits are the marked positions
pub marked_all : (bits : List ℕ) (count : ℕ) → list_any (λ bit. bit) (drop count (unpacked 8 bits)) ≡ false → set_from bits 0 ≡ members_from 0 (take count (unpacked 8 bits))
unfolding set_from
marked_all bits count none =
    let all : List Bool = unpacked 8 bits in
    ap (members_from 0) (sym (take-append-drop count all) ∙ ap (λ rest. take count all ++ rest) (none_set (drop count all) none))
    ∙ marked_padded 0 (take count all) (length (drop count all))

module _ {X : Type 0} (size : ℕ) (value_of : List ℕ → X) where
  -- a text of the wanted length for all positions, or of another
  pub all_wrong : (count : ℕ) (text : List ℕ) → (length text ≡ count * size → ⊥) → all_checked size value_of count text ≡ Err (Length (1 + count * size) (1 + length text))
  unfolding all_checked
  all_wrong count text other = rw (ne_eqb (length text) (count * size) other) refl

  pub all_right : (count : ℕ) (text : List ℕ) → length text ≡ count * size → all_checked size value_of count text ≡ Ok (paired size value_of (range_with_len 0 count) text)
  unfolding all_checked
  all_right count text same = rw (eq-eqb (length text) (count * size) same) refl

  -- a text that is too short for the bits
  pub bits_short : (count : ℕ) (text : List ℕ) → length text < vector_length count → bits_checked size value_of count text ≡ Err (Length (1 + vector_length count) (1 + length text))
  unfolding bits_checked
  bits_short count text short = rw (lt-ltb (length text) (vector_length count) short) refl

  module _ (count : ℕ) (text bits values : List ℕ) (long : vector_length count ≤ length text) (front : bits ≡ take (vector_length count) text) (back : values ≡ drop (vector_length count) text) where
    pub bits_padded : list_any (λ bit. bit) (drop count (unpacked 8 bits)) ≡ true → bits_checked size value_of count text ≡ Err PadBits
    unfolding bits_checked
    bits_padded some =
        let past : list_any (λ bit. bit) (drop count (unpacked 8 (take (vector_length count) text))) ≡ true = subst (λ bytes. list_any (λ bit. bit) (drop count (unpacked 8 bytes)) ≡ true) front some in
        rw (le-ltb (length text) (vector_length count) long, past) refl

    module _ (none : list_any (λ bit. bit) (drop count (unpacked 8 bits)) ≡ false) where
      none_past : list_any (λ bit. bit) (drop count (unpacked 8 (take (vector_length count) text))) ≡ false
      none_past = subst (λ bytes. list_any (λ bit. bit) (drop count (unpacked 8 bytes)) ≡ false) front none

      set_are : members_from 0 (take count (unpacked 8 (take (vector_length count) text))) ≡ set_from bits 0
      set_are = sym (marked_all bits count none ∙ ap (λ bytes. members_from 0 (take count (unpacked 8 bytes))) front)

      pub bits_wrong : (length text ≡ vector_length count + length (set_from bits 0) * size → ⊥)
          → bits_checked size value_of count text ≡ Err (Length (1 + (vector_length count + length (set_from bits 0) * size)) (1 + length text))
      unfolding bits_checked
      bits_wrong other =
          rw (le-ltb (length text) (vector_length count) long, none_past, set_are, ne_eqb (length text) (vector_length count + length (set_from bits 0) * size) other) refl

      pub bits_right : length text ≡ vector_length count + length (set_from bits 0) * size → bits_checked size value_of count text ≡ Ok (paired size value_of (set_from bits 0) values)
      unfolding bits_checked
      bits_right same =
          rw (le-ltb (length text) (vector_length count) long, none_past, set_are, eq-eqb (length text) (vector_length count + length (set_from bits 0) * size) same, back) refl

  -- after the width
  module _ (count width left : ℕ) (text : List ℕ) (each : left ≡ length text / (width + size)) where
    pub positions_width : (nat_eq width 1 || (nat_eq width 2 || nat_eq width 4)) ≡ false → positions_checked size value_of count (width ∷ text) ≡ Err (Width width)
    unfolding positions_checked
    positions_width none = rw none refl

    module _ (one : (nat_eq width 1 || (nat_eq width 2 || nat_eq width 4)) ≡ true) where
      pub positions_wrong : (length text ≡ left * (width + size) → ⊥) → positions_checked size value_of count (width ∷ text) ≡ Err (Length (2 + left * (width + size)) (2 + length text))
      unfolding positions_checked
      positions_wrong other = rw (one, ← each, ne_eqb (length text) (left * (width + size)) other) refl

      pub positions_fail : (fault : DecodeFault) → length text ≡ left * (width + size) → position_fault count (numbers width left text) ≡ Some fault → positions_checked size value_of count (width ∷ text) ≡ Err fault
      unfolding positions_checked
      positions_fail fault same fails = rw (one, ← each, eq-eqb (length text) (left * (width + size)) same, fails) refl

      pub positions_wide : length text ≡ left * (width + size) → position_fault count (numbers width left text) ≡ None → (width ≡ width_for (greatest_of (numbers width left text)) → ⊥) → positions_checked size value_of count (width ∷ text) ≡ Err (Width width)
      unfolding positions_checked
      positions_wide same sound wide = rw (one, ← each, eq-eqb (length text) (left * (width + size)) same, sound, ne_eqb width (width_for (greatest_of (numbers width left text))) wide) refl

      pub positions_right : length text ≡ left * (width + size) → position_fault count (numbers width left text) ≡ None → width ≡ width_for (greatest_of (numbers width left text))
          → positions_checked size value_of count (width ∷ text) ≡ Ok (paired size value_of (numbers width left text) (drop (left * width) text))
      unfolding positions_checked
      positions_right same sound least = rw (one, ← each, eq-eqb (length text) (left * (width + size)) same, sound, eq-eqb width (width_for (greatest_of (numbers width left text))) least) refl

  -- ids of a list
  module _ (ids : List ℕ) (left : ℕ) (text : List ℕ) (each : left ≡ length text / (4 + size)) where
    pub ids_wrong : (length text ≡ left * (4 + size) → ⊥) → ids_checked size value_of ids text ≡ Err (Length (1 + left * (4 + size)) (1 + length text))
    unfolding ids_checked
    ids_wrong other = rw (← each, ne_eqb (length text) (left * (4 + size)) other) refl

    pub ids_fail : (fault : DecodeFault) → length text ≡ left * (4 + size) → id_fault ids (numbers 4 left text) ≡ Some fault → ids_checked size value_of ids text ≡ Err fault
    unfolding ids_checked
    ids_fail fault same fails = rw (← each, eq-eqb (length text) (left * (4 + size)) same, fails) refl

    pub ids_right : length text ≡ left * (4 + size) → id_fault ids (numbers 4 left text) ≡ None
        → ids_checked size value_of ids text ≡ Ok (paired size value_of (map (place_of ids) (numbers 4 left text)) (drop (left * 4) text))
    unfolding ids_checked
    ids_right same sound = rw (← each, eq-eqb (length text) (left * (4 + size)) same, sound) refl

-- the width of a word
pub word_width : {V : Type 0} {width : ℕ} {IsValue : V → Type 0} {bytes_of : V → List ℕ} {value_of : List ℕ → V} {eq : V → V → Bool} → WordLaws width IsValue bytes_of value_of eq → (0 < width) × (width ≤ 8)
word_width laws = elim laws.width_is [ inl one ↦ (omega arith, omega arith) | inr more ↦ elim more [ inl four ↦ (omega arith, omega arith) | inr eight ↦ (omega arith, omega arith) ] ]

-- what is counted once fits the text
pub whole_part : (n each : ℕ) → n / each * each ≤ n
whole_part n each = omega (arith, div-add-mod' n each)

-- the three widths
pub width_tested : (width : ℕ) → IsPositionWidth width → (nat_eq width 1 || (nat_eq width 2 || nat_eq width 4)) ≡ true
width_tested width h =
    elim h [
      | inl one ↦ rw (eq-eqb width 1 one) refl
      | inr more ↦ elim more [
        | inl two ↦ rw (two) refl
        | inr four ↦ rw (four) refl
      ]
    ]

pub width_refused : (width : ℕ) → (width ≡ 1 → ⊥) → (width ≡ 2 → ⊥) → (width ≡ 4 → ⊥) → (nat_eq width 1 || (nat_eq width 2 || nat_eq width 4)) ≡ false
width_refused width no1 no2 no4 = rw (ne_eqb width 1 no1, ne_eqb width 2 no2, ne_eqb width 4 no4) refl

-- behind so many numbers a text of the right length has a value for each
behind_names : (width size left : ℕ) (text : List ℕ) → length text ≡ left * (width + size) → length (take (length text - left * width) (drop (left * width) text)) ≡ left * size
behind_names width size left text e = omega (arith, length-take (length text - left * width) (drop (left * width) text), length-drop (left * width) text)

module _ (word size : ℕ) (is_size : word ≡ size) (text : List ℕ) where
  whole_text : (width : ℕ) → length text ≡ length text / (width + word) * (width + word) → length text ≡ length text / (width + word) * (width + size)
  whole_text width e = e ∙ ap (λ n. length text / (width + word) * (width + n)) is_size

  pub positions_enough : (width : ℕ) → length text ≡ length text / (width + word) * (width + word)
      → length (numbers width (length text / (width + word)) text) * size ≤ length (take (length text - length text / (width + word) * width) (drop (length text / (width + word) * width) text))
  positions_enough width e =
      rw (length-numbers width (length text / (width + word)) text, behind_names width size (length text / (width + word)) text (whole_text width e)) (omega arith)

  pub ids_enough : (ids : List ℕ) → length text ≡ length text / (4 + word) * (4 + word)
      → length (map (place_of ids) (numbers 4 (length text / (4 + word)) text)) * size ≤ length (take (length text - length text / (4 + word) * 4) (drop (length text / (4 + word) * 4) text))
  ids_enough ids e =
      rw (length-map (numbers 4 (length text / (4 + word)) text) (place_of ids), length-numbers 4 (length text / (4 + word)) text, behind_names 4 size (length text / (4 + word)) text (whole_text 4 e)) (omega arith)

-- ids that pass stand among those of the list
pub stand_from_check : (ids named : List ℕ) → id_fault ids named ≡ None → StandFrom ids 0 named
stand_from_check ids named sound =
    let known = rising_from_id_fault ids named sound in record { within = omega arith; rise = known.0; known = known.1 }

-- what follows the names, as `&text[start..]` cuts it
pub cut_behind : (start : ℕ) (text : List ℕ) → take (length text - start) (drop start text) ≡ drop start text
cut_behind start text = take_rest text start
