-- What the checks pass is a form, and it has the entries that they find.
use Rattle.std.proofs.Common.{◌≡◌, ◌<◌, ◌≤◌, ℕ, zero, suc, ◌+◌, ◌*◌, ◌/◌, Bool, true, false, cond, List, [], ◌∷◌, ◌++◌, length, take, drop, map, get_or, refl, sym, ap, subst, ◌∙◌, arith, inl, inr, Ok, Err, Some, None, Option, Result}
use Rattle.std.specs.Prelude.{nat_eq, nat_lt, ◌||◌, replicate, IfOk}
use Rattle.std.specs.List.{All, AllByRecursion, flat_map, list_any, range_with_len, items_where_true}
use Rattle.std.proofs.lemmas.Bool.{eqb-true, eq-eqb, ne_eqb, ltb-false, cases_eq}
use Rattle.std.specs.List.Sorted.{IsStrictlyIncreasing}
use Rattle.std.proofs.lemmas.List.{length-map, take_all, length-take, length-drop, length-replicate, take-append-drop, get_or_default}
use Rattle.std.proofs.lemmas.List.FromFn.{length-range_with_len}
use Rattle.std.proofs.lemmas.List.Elements.{All-from_recursion, All-replicate, All-take, All-drop, All-tail}
use Rattle.reduce_laws.specs.WordLaws.{WordLaws}
use Rattle.list_laws.specs.LittleEndian.{AreBytes, le_bytes, le_number, pieces, numbers}
use Rattle.field_encodings.specs.declared.decode_fault.DecodeFault.{DecodeFault}
use Rattle.field_encodings.specs.declared.decode_fault.DecodeFault.TheVariants.{Tag, Length, Width, PadBits}
use Rattle.list_laws.specs.Members.{members_from}
use Rattle.list_laws.specs.Bits.{packed, unpacked}
use Rattle.field_encodings.specs.Lengths.{vector_length, greatest_of, width_for}
use Rattle.field_encodings.specs.Forms.{bit_vector, names, IsWellFormed, position_text}
use Rattle.field_encodings.specs.Checks.{paired, if_length, unless_fault, position_fault, id_fault, all_checked, bits_checked, positions_checked, ids_checked, checked}
use Rattle.list_laws.specs.Among.{place_of, AllAmong}
use Rattle.list_laws.proofs.LittleEndian.{length-pieces, le_bytes-le_number, rewritten}
use Rattle.list_laws.specs.Rising.{Rises}
use Rattle.list_laws.proofs.Rising.{Rises-from_increasing, Rises-range}
use Rattle.list_laws.proofs.Among.{all_among_range}
use Rattle.field_encodings.proofs.Faults.{rising_from_position_fault, rising_from_id_fault}
use Rattle.list_laws.proofs.Bits.{packed-unpacked, packed-padded, length-unpacked, none_set}
use Rattle.list_laws.proofs.Chosen.{marks_naming, length-marks_naming, items-marks_naming, members-items, places_of_items, spread, length-spread, items-spread, All-spread}

-- ---- what a pass says of each check

-- all is well
abbrev pub accepts : {Y : Type 0} → Y → Result Y DecodeFault
accepts y = Ok y

passed : {Y : Type 0} (test : Bool) (rest : Result Y DecodeFault) (fault : DecodeFault) (y : Y) → cond test rest (Err fault) ≡ accepts y → (test ≡ true) × (rest ≡ accepts y)
passed true rest fault y e = (refl, e)
passed false rest fault y e = cc

not_refused : {Y : Type 0} (test : Bool) (rest : Result Y DecodeFault) (fault : DecodeFault) (y : Y) → cond test (Err fault) rest ≡ accepts y → (test ≡ false) × (rest ≡ accepts y)
not_refused true rest fault y e = cc
not_refused false rest fault y e = (refl, e)

pub no_fault : {Y : Type 0} (fault : Option DecodeFault) (rest : Result Y DecodeFault) (y : Y) → unless_fault fault rest ≡ accepts y → (fault ≡ None) × (rest ≡ accepts y)
no_fault None rest y e = (refl, e)
no_fault (Some fault) rest y e = cc

has_length : {Y : Type 0} (before wanted : ℕ) (text : List ℕ) (rest : Result Y DecodeFault) (y : Y) → if_length before wanted text rest ≡ accepts y → (length text ≡ wanted) × (rest ≡ accepts y)
has_length before wanted text rest y e =
    let p : (nat_eq (length text) wanted ≡ true) × (rest ≡ accepts y) = passed (nat_eq (length text) wanted) rest (Length (before + wanted) (before + length text)) y e in
    (eqb-true (length text) wanted p.0, p.1)

ok_same : {Y : Type 0} (x y : Y) → accepts x ≡ accepts y → y ≡ x
ok_same x y e = cc

module _ {X : Type 0} (size : ℕ) (IsValue : X → Type 0) (bytes_of : X → List ℕ) (value_of : List ℕ → X) (eq : X → X → Bool) (laws : WordLaws size IsValue bytes_of value_of eq) where
  size_positive : 0 < size
  size_positive = elim laws.width_is [ inl one ↦ omega arith | inr more ↦ elim more [ inl four ↦ omega arith | inr eight ↦ omega arith ] ]

  values_read : (count : ℕ) (text : List ℕ) → AreBytes text → count * size ≤ length text → AllByRecursion IsValue (map value_of (pieces size count text))
  values_read zero text h l = tt
  values_read (suc count) text h l = (
    laws.reads_values (take size text) (omega (arith, length-take size text)) (All-take (λ b. b < 256) size text h),
    values_read count (drop size text) (All-drop (λ b. b < 256) size text h) (omega (arith, length-drop size text)),
  )

  values_written : (count : ℕ) (text : List ℕ) → AreBytes text → length text ≡ count * size → flat_map bytes_of (map value_of (pieces size count text)) ≡ text
  values_written count text h e =
      rewritten size bytes_of value_of laws.bytes_of-value_of count text h (omega arith) ∙ take_all (count * size) text (omega arith)

  filler_is_value : IsValue (value_of (replicate size 0))
  filler_is_value = laws.reads_values (replicate size 0) (length-replicate size 0) (All-replicate (λ b. b < 256) size 0 (omega arith))

  -- a form made from what a payload with a tag above 0 names, and the values behind
  made : (more : ℕ) (ids front behind positions : List ℕ) (marks : List Bool) → suc more ≤ 3 → length marks ≡ length ids → names (suc more) ids marks ≡ front → members_from 0 marks ≡ positions
      → length behind ≡ length positions * size → AreBytes behind → IsWellFormed IsValue bytes_of ids (suc more ∷ (front ++ behind)) (paired size value_of positions behind)
  made more ids front behind positions marks t m n p l h =
      let found : List X = map value_of (pieces size (length positions) behind) in
      let count : length found ≡ length (members_from 0 marks) = rw (length-map (pieces size (length positions) behind) value_of, length-pieces size (length positions) behind, p) refl in
      let values : List X = spread (value_of (replicate size 0)) marks found in
      let kept : items_where_true marks values ≡ found = items-spread (value_of (replicate size 0)) 0 marks found count in
      let written : flat_map bytes_of found ≡ behind = values_written (length positions) behind h l in
      let are : AllByRecursion IsValue values = All-spread IsValue (value_of (replicate size 0)) marks found filler_is_value (values_read (length positions) behind h (omega arith)) in
      let whole : (front ++ behind) ≡ names (suc more) ids marks ++ flat_map bytes_of (items_where_true marks values) = rw (n, kept, written) refl in (
        suc more,
        marks,
        values,
        record { is_tag = t; mark_for_each = m; value_for_each = length-spread (value_of (replicate size 0)) marks found ∙ m; are_values = All-from_recursion IsValue values are; whole = ap (λ text. suc more ∷ text) whole },
        rw (kept, p) refl,
      )

  all_found : (ids text : List ℕ) (es : List (ℕ × X)) → AreBytes text → all_checked size value_of (length ids) text ≡ accepts es → IsWellFormed IsValue bytes_of ids (0 ∷ text) es
  unfolding all_checked names
  all_found ids text es h e =
      let p : (length text ≡ length ids * size) × (accepts (paired size value_of (range_with_len 0 (length ids)) text) ≡ accepts es)
      = has_length 1 (length ids * size) text (Ok (paired size value_of (range_with_len 0 (length ids)) text)) es e in
      let values : List X = map value_of (pieces size (length ids) text) in
      let count : length values ≡ length ids = length-map (pieces size (length ids) text) value_of ∙ length-pieces size (length ids) text in
      let written : flat_map bytes_of values ≡ text = values_written (length ids) text h p.0 in
      let marks : length (replicate (length ids) false) ≡ length ids = length-replicate (length ids) false in (
        0,
        replicate (length ids) false,
        values,
        record { is_tag = omega arith; mark_for_each = marks; value_for_each = count; are_values = All-from_recursion IsValue values (values_read (length ids) text h (omega (arith, p.0))); whole = ap (λ behind. 0 ∷ behind) (sym written) },
        ok_same (paired size value_of (range_with_len 0 (length ids)) text) es p.1 ∙ rw (marks, length-range_with_len 0 (length ids)) refl,
      )

  bits_found : (ids text : List ℕ) (es : List (ℕ × X)) → AreBytes text → bits_checked size value_of (length ids) text ≡ accepts es → IsWellFormed IsValue bytes_of ids (1 ∷ text) es
  unfolding bits_checked names
  bits_found ids text es h e =
      let width : ℕ = vector_length (length ids) in
      let front : List ℕ = take width text in
      let bits : List Bool = unpacked 8 front in
      let marks : List Bool = take (length ids) bits in
      let positions : List ℕ = members_from 0 marks in
      let found : List (ℕ × X) = paired size value_of positions (drop width text) in
      let third : Result (List (ℕ × X)) DecodeFault = if_length 1 (width + length positions * size) text (accepts found) in
      let second : Result (List (ℕ × X)) DecodeFault = cond (list_any (λ bit. bit) (drop (length ids) bits)) (Err PadBits) third in
      let p : (nat_lt (length text) width ≡ false) × (second ≡ accepts es) = not_refused (nat_lt (length text) width) second (Length (1 + width) (1 + length text)) es e in
      let q : (list_any (λ bit. bit) (drop (length ids) bits) ≡ false) × (third ≡ accepts es) = not_refused (list_any (λ bit. bit) (drop (length ids) bits)) third PadBits es p.1 in
      let r : (length text ≡ width + length positions * size) × (accepts found ≡ accepts es) = has_length 1 (width + length positions * size) text (accepts found) es q.1 in
      let long : width ≤ length text = ltb-false (length text) width p.0 in
      let filled : length front ≡ width = omega (arith, length-take width text) in
      let all_bits : length bits ≡ width * 8 = length-unpacked 8 front ∙ ap (λ n. n * 8) filled in
      let each : length marks ≡ length ids = omega (arith, length-take (length ids) bits) in
      let spare : drop (length ids) bits ≡ replicate (length (drop (length ids) bits)) false = none_set (drop (length ids) bits) q.0 in
      let padded : marks ++ replicate (length (drop (length ids) bits)) false ≡ bits = ap (λ more. marks ++ more) (sym spare) ∙ take-append-drop (length ids) bits in
      let bytes : AreBytes front = All-take (λ b. b < 256) width text h in
      let again : packed 8 width bits ≡ front = subst (λ n. packed 8 n bits ≡ front) filled (packed-unpacked 8 front bytes) in
      let vector : packed 8 width marks ≡ front
      = sym (packed-padded 8 width marks (length (drop (length ids) bits))) ∙ ap (packed 8 width) padded ∙ again in
      let named : bit_vector marks ≡ front = subst (λ n. packed 8 (vector_length n) marks ≡ front) (sym each) vector in
      let left : length (drop width text) ≡ length positions * size = omega (arith, length-drop width text, r.0) in
      let form_is : IsWellFormed IsValue bytes_of ids (1 ∷ (front ++ drop width text)) found
      = made 0 ids front (drop width text) positions marks (omega arith) each named refl left (All-drop (λ b. b < 256) width text h) in
      subst (λ bytes. IsWellFormed IsValue bytes_of ids (1 ∷ bytes) es) (take-append-drop width text)
      (subst (λ ys. IsWellFormed IsValue bytes_of ids (1 ∷ (front ++ drop width text)) ys) (sym (ok_same found es r.1)) form_is)

  positions_found : (ids text : List ℕ) (es : List (ℕ × X)) → AreBytes text → positions_checked size value_of (length ids) text ≡ accepts es → IsWellFormed IsValue bytes_of ids (2 ∷ text) es
  unfolding positions_checked names
  positions_found ids [] es h e = cc
  positions_found ids (width ∷ text) es h e =
      let updated : ℕ = length text / (width + size) in
      let positions : List ℕ = numbers width updated text in
      let found : List (ℕ × X) = paired size value_of positions (drop (updated * width) text) in
      let fourth : Result (List (ℕ × X)) DecodeFault = cond (nat_eq width (width_for (greatest_of positions))) (accepts found) (Err (Width width)) in
      let third : Result (List (ℕ × X)) DecodeFault = unless_fault (position_fault (length ids) positions) fourth in
      let second : Result (List (ℕ × X)) DecodeFault = if_length 2 (updated * (width + size)) text third in
      let p : ((nat_eq width 1 || (nat_eq width 2 || nat_eq width 4)) ≡ true) × (second ≡ accepts es) = passed (nat_eq width 1 || (nat_eq width 2 || nat_eq width 4)) second (Width width) es e in
      let q : (length text ≡ updated * (width + size)) × (third ≡ accepts es) = has_length 2 (updated * (width + size)) text third es p.1 in
      let r : (position_fault (length ids) positions ≡ None) × (fourth ≡ accepts es) = no_fault (position_fault (length ids) positions) fourth es q.1 in
      let s : (nat_eq width (width_for (greatest_of positions)) ≡ true) × (accepts found ≡ accepts es) = passed (nat_eq width (width_for (greatest_of positions))) (accepts found) (Width width) es r.1 in
      let least : width ≡ width_for (greatest_of positions) = eqb-true width (width_for (greatest_of positions)) s.0 in
      let rises : Rises 0 positions × AllByRecursion (λ x. x < length ids) positions = rising_from_position_fault (length ids) positions r.0 in
      let all : List ℕ = range_with_len 0 (length ids) in
      let marks : List Bool = marks_naming all positions in
      let each : length marks ≡ length ids = length-marks_naming all positions ∙ length-range_with_len 0 (length ids) in
      let chose : items_where_true marks all ≡ positions = items-marks_naming 0 0 all positions (Rises-range 0 (length ids)) rises.0 (all_among_range (length ids) 0 positions rises.1) in
      let marked : members_from 0 marks ≡ positions = members-items 0 marks ∙ ap (λ n. items_where_true marks (range_with_len 0 n)) each ∙ chose in
      let count : length positions ≡ updated = length-map (pieces width updated text) le_number ∙ length-pieces width updated text in
      let bytes : AreBytes text = All-tail (λ b. b < 256) width text h in
      let texts : flat_map (le_bytes width) positions ≡ take (updated * width) text
      = rewritten width (le_bytes width) le_number (le_bytes-le_number width) updated text bytes (omega (arith, q.0)) in
      let front : List ℕ = width ∷ take (updated * width) text in
      let named : position_text (members_from 0 marks) ≡ front
      = ap position_text marked ∙ subst (λ w. (w ∷ flat_map (le_bytes w) positions) ≡ front) least (ap (λ more. width ∷ more) texts) in
      let left : length (drop (updated * width) text) ≡ length positions * size = rw count (omega (arith, length-drop (updated * width) text, q.0)) in
      let form_is : IsWellFormed IsValue bytes_of ids (2 ∷ (front ++ drop (updated * width) text)) found
      = made 1 ids front (drop (updated * width) text) positions marks (omega arith) each named marked left (All-drop (λ b. b < 256) (updated * width) text bytes) in
      subst (λ bytes. IsWellFormed IsValue bytes_of ids (2 ∷ (width ∷ bytes)) es) (take-append-drop (updated * width) text)
      (subst (λ ys. IsWellFormed IsValue bytes_of ids (2 ∷ (front ++ drop (updated * width) text)) ys) (sym (ok_same found es s.1)) form_is)

  ids_found : (ids text : List ℕ) (es : List (ℕ × X)) → IsStrictlyIncreasing ids → AreBytes text → ids_checked size value_of ids text ≡ accepts es → IsWellFormed IsValue bytes_of ids (3 ∷ text) es
  unfolding ids_checked names
  ids_found ids text es rise h e =
      let updated : ℕ = length text / (4 + size) in
      let ids_named : List ℕ = numbers 4 updated text in
      let positions : List ℕ = map (place_of ids) ids_named in
      let found : List (ℕ × X) = paired size value_of positions (drop (updated * 4) text) in
      let second : Result (List (ℕ × X)) DecodeFault = unless_fault (id_fault ids ids_named) (accepts found) in
      let p : (length text ≡ updated * (4 + size)) × (second ≡ accepts es) = has_length 1 (updated * (4 + size)) text second es e in
      let q : (id_fault ids ids_named ≡ None) × (accepts found ≡ accepts es) = no_fault (id_fault ids ids_named) (accepts found) es p.1 in
      let known : Rises 0 ids_named × AllAmong ids ids_named = rising_from_id_fault ids ids_named q.0 in
      let rises : Rises 0 ids = Rises-from_increasing 0 ids rise (λ some. omega arith) in
      let marks : List Bool = marks_naming ids ids_named in
      let each : length marks ≡ length ids = length-marks_naming ids ids_named in
      let chose : items_where_true marks ids ≡ ids_named = items-marks_naming 0 0 ids ids_named rises known.0 known.1 in
      let marked : members_from 0 marks ≡ positions = sym (places_of_items 0 marks ids rises each) ∙ ap (map (place_of ids)) chose in
      let count_ids : length ids_named ≡ updated = length-map (pieces 4 updated text) le_number ∙ length-pieces 4 updated text in
      let count : length positions ≡ updated = length-map ids_named (place_of ids) ∙ count_ids in
      let texts : flat_map (le_bytes 4) ids_named ≡ take (updated * 4) text
      = rewritten 4 (le_bytes 4) le_number (le_bytes-le_number 4) updated text h (omega (arith, p.0)) in
      let front : List ℕ = take (updated * 4) text in
      let named : flat_map (le_bytes 4) (items_where_true marks ids) ≡ front = ap (flat_map (le_bytes 4)) chose ∙ texts in
      let left : length (drop (updated * 4) text) ≡ length positions * size = rw count (omega (arith, length-drop (updated * 4) text, p.0)) in
      let form_is : IsWellFormed IsValue bytes_of ids (3 ∷ (front ++ drop (updated * 4) text)) found
      = made 2 ids front (drop (updated * 4) text) positions marks (omega arith) each named marked left (All-drop (λ b. b < 256) (updated * 4) text h) in
      subst (λ bytes. IsWellFormed IsValue bytes_of ids (3 ∷ bytes) es) (take-append-drop (updated * 4) text)
      (subst (λ ys. IsWellFormed IsValue bytes_of ids (3 ∷ (front ++ drop (updated * 4) text)) ys) (sym (ok_same found es q.1)) form_is)

  -- what the checks pass is well formed, and they find its entries
  pub accepted : (ids bytes : List ℕ) (es : List (ℕ × X)) → IsStrictlyIncreasing ids → AreBytes bytes → checked size value_of ids bytes ≡ accepts es → IsWellFormed IsValue bytes_of ids bytes es
  unfolding checked
  accepted ids [] es rise h e = cc
  accepted ids (tag ∷ text) es rise h e =
      let bytes : AreBytes text = All-tail (λ b. b < 256) tag text h in
      elim (cases_eq tag 0) [
        | inl same ↦ subst (λ t. IsWellFormed IsValue bytes_of ids (t ∷ text) es) (sym same) (all_found ids text es bytes (rw (eq-eqb tag 0 same) at e))
        | inr no0 ↦ elim (cases_eq tag 1) [
          | inl same ↦ subst (λ t. IsWellFormed IsValue bytes_of ids (t ∷ text) es) (sym same) (bits_found ids text es bytes (rw (ne_eqb tag 0 no0, eq-eqb tag 1 same) at e))
          | inr no1 ↦ elim (cases_eq tag 2) [
            | inl same ↦ subst (λ t. IsWellFormed IsValue bytes_of ids (t ∷ text) es) (sym same) (positions_found ids text es bytes (rw (ne_eqb tag 0 no0, ne_eqb tag 1 no1, eq-eqb tag 2 same) at e))
            | inr no2 ↦ elim (cases_eq tag 3) [
              | inl same ↦ subst (λ t. IsWellFormed IsValue bytes_of ids (t ∷ text) es) (sym same) (ids_found ids text es rise bytes (rw (ne_eqb tag 0 no0, ne_eqb tag 1 no1, ne_eqb tag 2 no2, eq-eqb tag 3 same) at e))
              | inr no3 ↦ let refused : Err (Tag tag) ≡ accepts es = rw (ne_eqb tag 0 no0, ne_eqb tag 1 no1, ne_eqb tag 2 no2, ne_eqb tag 3 no3) at e in cc
            ]
          ]
        ]
      ]

  -- the same of an answer that is what the checks give
  pub accepted_if : (ids bytes : List ℕ) (answer : Result (List (ℕ × X)) DecodeFault) → IsStrictlyIncreasing ids → AreBytes bytes → answer ≡ checked size value_of ids bytes → IfOk answer (IsWellFormed IsValue bytes_of ids bytes)
  accepted_if ids bytes (Ok es) rise h e = accepted ids bytes es rise h (sym e)
  accepted_if ids bytes (Err fault) rise h e = tt

-- numbers that are below a limit at each place
pub all_below : (limit : ℕ) (xs : List ℕ) → ((i : ℕ) → get_or xs i 0 < limit) → All (λ x. x < limit) xs
all_below limit xs h k d l = let same : get_or xs k d ≡ get_or xs k 0 = get_or_default xs k d 0 l in omega (arith, h k)
