-- The checks pass each form, and find the entries from which it was made.
use Rattle.std.proofs.Common.{◌≡◌, ◌<◌, ◌≤◌, ℕ, zero, suc, ◌+◌, ◌-◌, ◌*◌, ◌/◌, ◌^◌, Bool, true, false, List, [], ◌∷◌, ◌++◌, length, take, drop, map, refl, sym, ap, subst, ◌∙◌, arith, inl, inr, Ok, None, append-nil, length-append}
use Rattle.std.specs.Prelude.{nat_eq, nat_lt, ◌||◌, replicate}
use Rattle.std.specs.List.{All, AllByRecursion, flat_map, zip, list_any, range_with_len, items_where_true}
use Rattle.std.proofs.lemmas.Bool.{eq-eqb, lt-ltb, le-ltb, cases_lt}
use Rattle.std.proofs.lemmas.List.{take_at, drop_at}
use Rattle.std.proofs.lemmas.List.FromFn.{length-range_with_len}
use Rattle.std.proofs.lemmas.Nat.{div-mul-add}
use Rattle.std.proofs.lemmas.List.Elements.{All-from_recursion, recursion_from_All, All-weaker}
use Rattle.list_laws.proofs.WholeNumbers.{length-le_text, numbers-le_text}
use Rattle.reduce_laws.specs.WordLaws.{WordLaws}
use Rattle.list_laws.specs.LittleEndian.{le_bytes, pieces, numbers}
use Rattle.list_laws.specs.Members.{members_from}
use Rattle.list_laws.specs.Bits.{unpacked}
use Rattle.field_encodings.specs.Lengths.{vector_length, greatest_of, width_for}
use Rattle.field_encodings.specs.Forms.{bit_vector, form, names, entries, position_text}
use Rattle.field_encodings.specs.Checks.{paired, position_fault, id_fault, all_checked, bits_checked, positions_checked, ids_checked, checked}
use Rattle.list_laws.specs.Among.{place_of, is_among}
use Rattle.field_encodings.specs.Laws.{AreIds, FormsReadBack}
use Rattle.list_laws.proofs.LittleEndian.{length-in_pieces, pieces-in_pieces}
use Rattle.list_laws.specs.Rising.{Rises}
use Rattle.list_laws.proofs.Rising.{Rises-from_increasing}
use Rattle.list_laws.proofs.Among.{all_among_itself}
use Rattle.field_encodings.proofs.Faults.{no_position_fault, no_id_fault}
use Rattle.list_laws.proofs.Bits.{unpacked-packed, length-packed, none_set-replicate}
use Rattle.list_laws.proofs.Chosen.{length-items, All-items, Rises-items, places_of_items, Rises-members, members_below}

-- ---- numbers

-- the widths that are tried hold a number of four bytes
pub fits_width : (x : ℕ) → x < 2 ^ 32 → x < 256 ^ width_for x
unfolding width_for
fits_width x h =
    elim (cases_lt x 256) [
      | inl one ↦ rw (lt-ltb x 256 one) one
      | inr more ↦ elim (cases_lt x 65536) [
        | inl two ↦ rw (le-ltb x 256 more, lt-ltb x 65536 two) two
        | inr four ↦ rw (le-ltb x 256 more, le-ltb x 65536 four) h
      ]
    ]

-- no number of a list is above the greatest
pub up_to_greatest : (bound : ℕ) (xs : List ℕ) → greatest_of xs ≤ bound → AllByRecursion (λ x. x ≤ bound) xs
up_to_greatest bound [] h = tt
up_to_greatest bound (x ∷ xs) h = (omega arith, up_to_greatest bound xs (omega arith))

pub greatest_below : (bound : ℕ) (xs : List ℕ) → 0 < bound → AllByRecursion (λ x. x < bound) xs → greatest_of xs < bound
greatest_below bound [] b h = b
greatest_below bound (x ∷ xs) b h = let rest : greatest_of xs < bound = greatest_below bound xs b h.1 in let first : x < bound = h.0 in omega arith

pub below_bound : (bound limit : ℕ) (xs : List ℕ) → bound < limit → AllByRecursion (λ x. x ≤ bound) xs → AllByRecursion (λ x. x < limit) xs
below_bound bound limit [] l h = tt
below_bound bound limit (x ∷ xs) l h = let first : x ≤ bound = h.0 in (omega arith, below_bound bound limit xs l h.1)

map_back : {A B : Type 0} (write : A → B) (read : B → A) (xs : List A) → AllByRecursion (λ x. read (write x) ≡ x) xs → map read (map write xs) ≡ xs
map_back write read [] h = refl
map_back write read (x ∷ xs) h = ap (λ y. y ∷ map read (map write xs)) h.0 ∙ ap (λ ys. x ∷ ys) (map_back write read xs h.1)

exact_quotient : (n u k : ℕ) → 0 < k → n ≡ u * k → n / k ≡ u
exact_quotient n u k pos e =
    let whole : (u * k + 0) / k ≡ u = div-mul-add u k 0 pos in
    let same : n ≡ u * k + 0 = omega arith in
    rw same whole

-- the width that is written is one of the three
pub width_is_one : (x : ℕ) → (nat_eq (width_for x) 1 || (nat_eq (width_for x) 2 || nat_eq (width_for x) 4)) ≡ true
unfolding width_for
width_is_one x =
    elim (cases_lt x 256) [
      | inl one ↦ rw (lt-ltb x 256 one) refl
      | inr more ↦ elim (cases_lt x 65536) [
        | inl two ↦ rw (le-ltb x 256 more, lt-ltb x 65536 two) refl
        | inr four ↦ rw (le-ltb x 256 more, le-ltb x 65536 four) refl
      ]
    ]

module _ {X : Type 0} (size : ℕ) (value_of : List ℕ → X) where
  bits_pass : (count : ℕ) (front behind : List ℕ) (marks : List Bool) → length front ≡ vector_length count → take count (unpacked 8 front) ≡ marks
      → list_any (λ bit. bit) (drop count (unpacked 8 front)) ≡ false → length behind ≡ length (members_from 0 marks) * size
      → bits_checked size value_of count (front ++ behind) ≡ Ok (paired size value_of (members_from 0 marks) behind)
  unfolding bits_checked
  bits_pass count front behind marks width marked none whole =
      let first : take (vector_length count) (front ++ behind) ≡ front = take_at front behind (vector_length count) width in
      let second : drop (vector_length count) (front ++ behind) ≡ behind = drop_at front behind (vector_length count) width in
      let total : length (front ++ behind) ≡ vector_length count + length (members_from 0 marks) * size = omega (arith, length-append front behind) in
      let long : nat_lt (length (front ++ behind)) (vector_length count) ≡ false = le-ltb (length (front ++ behind)) (vector_length count) (omega arith) in
      let right : nat_eq (length (front ++ behind)) (vector_length count + length (members_from 0 marks) * size) ≡ true = eq-eqb (length (front ++ behind)) (vector_length count + length (members_from 0 marks) * size) total in
      rw (first, second, marked, none, long, right) refl

  positions_pass : (count width : ℕ) (positions behind : List ℕ) → (nat_eq width 1 || (nat_eq width 2 || nat_eq width 4)) ≡ true → width ≡ width_for (greatest_of positions) → 0 < width + size
      → AllByRecursion (λ x. x < 256 ^ width) positions → position_fault count positions ≡ None → length behind ≡ length positions * size
      → positions_checked size value_of count (width ∷ (flat_map (le_bytes width) positions ++ behind)) ≡ Ok (paired size value_of positions behind)
  unfolding positions_checked
  positions_pass count width positions behind one least positive fit sound whole =
      let front : List ℕ = flat_map (le_bytes width) positions in
      let named : length front ≡ length positions * width = length-le_text width positions in
      let total : length (front ++ behind) ≡ length positions * (width + size) = omega (arith, length-append front behind) in
      let updated : length (front ++ behind) / (width + size) ≡ length positions = exact_quotient (length (front ++ behind)) (length positions) (width + size) positive total in
      let read : numbers width (length positions) (front ++ behind) ≡ positions = numbers-le_text width positions behind (All-from_recursion (λ x. x < 256 ^ width) positions fit) in
      let rest : drop (length positions * width) (front ++ behind) ≡ behind = drop_at front behind (length positions * width) named in
      let right : nat_eq (length (front ++ behind)) (length positions * (width + size)) ≡ true = eq-eqb (length (front ++ behind)) (length positions * (width + size)) total in
      let same : nat_eq width (width_for (greatest_of positions)) ≡ true = eq-eqb width (width_for (greatest_of positions)) least in
      rw (one, updated, read, rest, right, sound, same) refl

  ids_pass : (ids named behind : List ℕ) → 0 < 4 + size
      → AllByRecursion (λ x. x < 256 ^ 4) named → id_fault ids named ≡ None → length behind ≡ length named * size
      → ids_checked size value_of ids (flat_map (le_bytes 4) named ++ behind) ≡ Ok (paired size value_of (map (place_of ids) named) behind)
  unfolding ids_checked
  ids_pass ids named behind positive fit sound whole =
      let front : List ℕ = flat_map (le_bytes 4) named in
      let ids_length : length front ≡ length named * 4 = length-le_text 4 named in
      let total : length (front ++ behind) ≡ length named * (4 + size) = omega (arith, length-append front behind) in
      let updated : length (front ++ behind) / (4 + size) ≡ length named = exact_quotient (length (front ++ behind)) (length named) (4 + size) positive total in
      let read : numbers 4 (length named) (front ++ behind) ≡ named = numbers-le_text 4 named behind (All-from_recursion (λ x. x < 256 ^ 4) named fit) in
      let rest : drop (length named * 4) (front ++ behind) ≡ behind = drop_at front behind (length named * 4) ids_length in
      let right : nat_eq (length (front ++ behind)) (length named * (4 + size)) ≡ true = eq-eqb (length (front ++ behind)) (length named * (4 + size)) total in
      rw (updated, read, rest, right, sound) refl

module _ {X : Type 0} (size : ℕ) (IsValue : X → Type 0) (bytes_of : X → List ℕ) (value_of : List ℕ → X) (eq : X → X → Bool) (laws : WordLaws size IsValue bytes_of value_of eq) where
  size_positive : 0 < size
  size_positive = elim laws.width_is [ inl one ↦ omega arith | inr more ↦ elim more [ inl four ↦ omega arith | inr eight ↦ omega arith ] ]

  data_length : (values : List X) → All IsValue values → length (flat_map bytes_of values) ≡ length values * size
  data_length values h = length-in_pieces size bytes_of values (All-weaker IsValue (λ x. length (bytes_of x) ≡ size) laws.length_of_bytes values h)

  values_back : (values : List X) → All IsValue values → map value_of (pieces size (length values) (flat_map bytes_of values)) ≡ values
  values_back values h =
      let cut : pieces size (length values) (flat_map bytes_of values ++ []) ≡ map bytes_of values
      = pieces-in_pieces size bytes_of values [] (All-weaker IsValue (λ x. length (bytes_of x) ≡ size) laws.length_of_bytes values h) in
      let plain : flat_map bytes_of values ++ [] ≡ flat_map bytes_of values = append-nil (flat_map bytes_of values) in
      let whole : pieces size (length values) (flat_map bytes_of values) ≡ map bytes_of values = subst (λ text. pieces size (length values) text ≡ map bytes_of values) plain cut in
      rw whole (map_back bytes_of value_of values (recursion_from_All (λ x. value_of (bytes_of x) ≡ x) values (All-weaker IsValue (λ x. value_of (bytes_of x) ≡ x) laws.value_of-bytes_of values h)))

  paired_back : (positions : List ℕ) (values : List X) → All IsValue values → length positions ≡ length values → paired size value_of positions (flat_map bytes_of values) ≡ zip positions values
  paired_back positions values h e = rw (e, values_back values h) refl

  chosen_values : (marks : List Bool) (values : List X) → All IsValue values → All IsValue (items_where_true marks values)
  chosen_values marks values h = All-from_recursion IsValue (items_where_true marks values) (All-items IsValue marks values (recursion_from_All IsValue values h))

  pub all_read : (count : ℕ) (values : List X) → length values ≡ count → All IsValue values
      → all_checked size value_of count (flat_map bytes_of values) ≡ Ok (zip (range_with_len 0 count) values)
  unfolding all_checked
  all_read count values e h =
      let whole : length (flat_map bytes_of values) ≡ count * size = rw (← e) (data_length values h) in
      let same : length (range_with_len 0 count) ≡ length values = omega (arith, length-range_with_len 0 count) in
      rw (eq-eqb (length (flat_map bytes_of values)) (count * size) whole) (ap Ok (paired_back (range_with_len 0 count) values h same))

  pub bits_read : (marks : List Bool) (values : List X) → length values ≡ length marks → All IsValue values
      → bits_checked size value_of (length marks) (bit_vector marks ++ flat_map bytes_of (items_where_true marks values)) ≡ Ok (zip (members_from 0 marks) (items_where_true marks values))
  bits_read marks values e h =
      let sent_values : All IsValue (items_where_true marks values) = chosen_values marks values h in
      let each : length (items_where_true marks values) ≡ length (members_from 0 marks) = length-items marks values 0 e in
      let width : length (bit_vector marks) ≡ vector_length (length marks) = length-packed 8 (vector_length (length marks)) marks in
      let spare : ℕ = vector_length (length marks) * 8 - length marks in
      let bits : unpacked 8 (bit_vector marks) ≡ marks ++ replicate spare false = unpacked-packed 8 (vector_length (length marks)) marks spare (omega arith) in
      let front : take (length marks) (unpacked 8 (bit_vector marks)) ≡ marks = rw bits (take_at marks (replicate spare false) (length marks) refl) in
      let back : drop (length marks) (unpacked 8 (bit_vector marks)) ≡ replicate spare false = rw bits (drop_at marks (replicate spare false) (length marks) refl) in
      let none : list_any (λ bit. bit) (drop (length marks) (unpacked 8 (bit_vector marks))) ≡ false = rw back (none_set-replicate spare) in
      let behind : length (flat_map bytes_of (items_where_true marks values)) ≡ length (members_from 0 marks) * size = rw (← each) (data_length (items_where_true marks values) sent_values) in
      bits_pass size value_of (length marks) (bit_vector marks) (flat_map bytes_of (items_where_true marks values)) marks width front none behind
      ∙ ap Ok (paired_back (members_from 0 marks) (items_where_true marks values) sent_values (sym each))

  pub positions_read : (marks : List Bool) (values : List X) → length values ≡ length marks → All IsValue values → length marks < 2 ^ 32
      → positions_checked size value_of (length marks) (position_text (members_from 0 marks) ++ flat_map bytes_of (items_where_true marks values)) ≡ Ok (zip (members_from 0 marks) (items_where_true marks values))
  positions_read marks values e h few =
      let sent_values : All IsValue (items_where_true marks values) = chosen_values marks values h in
      let each : length (items_where_true marks values) ≡ length (members_from 0 marks) = length-items marks values 0 e in
      let positions : List ℕ = members_from 0 marks in
      let below : AllByRecursion (λ x. x < length marks) positions = members_below 0 (length marks) marks (omega arith) in
      let below_all : AllByRecursion (λ x. x < 2 ^ 32) positions = members_below 0 (2 ^ 32) marks (omega arith) in
      let great : greatest_of positions < 2 ^ 32 = greatest_below (2 ^ 32) positions (omega arith) below_all in
      let fit : AllByRecursion (λ x. x < 256 ^ width_for (greatest_of positions)) positions
      = below_bound (greatest_of positions) (256 ^ width_for (greatest_of positions)) positions (fits_width (greatest_of positions) great) (up_to_greatest (greatest_of positions) positions (omega arith)) in
      let sound : position_fault (length marks) positions ≡ None = no_position_fault (length marks) positions (Rises-members 0 marks) below in
      let behind : length (flat_map bytes_of (items_where_true marks values)) ≡ length positions * size = rw (← each) (data_length (items_where_true marks values) sent_values) in
      let positive : 0 < width_for (greatest_of positions) + size = omega (arith, size_positive) in
      positions_pass size value_of (length marks) (width_for (greatest_of positions)) positions (flat_map bytes_of (items_where_true marks values)) (width_is_one (greatest_of positions)) refl positive fit sound behind
      ∙ ap Ok (paired_back positions (items_where_true marks values) sent_values (sym each))

  pub ids_read : (ids : List ℕ) (marks : List Bool) (values : List X) → AreIds ids → length marks ≡ length ids → length values ≡ length marks → All IsValue values
      → ids_checked size value_of ids (flat_map (le_bytes 4) (items_where_true marks ids) ++ flat_map bytes_of (items_where_true marks values)) ≡ Ok (zip (members_from 0 marks) (items_where_true marks values))
  ids_read ids marks values known n e h =
      let sent_values : All IsValue (items_where_true marks values) = chosen_values marks values h in
      let each : length (items_where_true marks values) ≡ length (members_from 0 marks) = length-items marks values 0 e in
      let named : length (items_where_true marks ids) ≡ length (members_from 0 marks) = length-items marks ids 0 (sym n) in
      let rises : Rises 0 ids = Rises-from_increasing 0 ids known.rise (λ some. omega arith) in
      let fit : AllByRecursion (λ x. x < 256 ^ 4) (items_where_true marks ids) = All-items (λ x. x < 256 ^ 4) marks ids (recursion_from_All (λ x. x < 2 ^ 32) ids known.fit) in
      let sound : id_fault ids (items_where_true marks ids) ≡ None
      = no_id_fault ids (items_where_true marks ids) (Rises-items 0 marks ids rises) (All-items (λ x. is_among ids x ≡ true) marks ids (all_among_itself ids)) in
      let behind : length (flat_map bytes_of (items_where_true marks values)) ≡ length (items_where_true marks ids) * size = rw (named, ← each) (data_length (items_where_true marks values) sent_values) in
      let places : map (place_of ids) (items_where_true marks ids) ≡ members_from 0 marks = places_of_items 0 marks ids rises n in
      let positive : 0 < 4 + size = omega arith in
      ids_pass size value_of ids (items_where_true marks ids) (flat_map bytes_of (items_where_true marks values)) positive fit sound behind
      ∙ ap (λ positions. Ok (paired size value_of positions (flat_map bytes_of (items_where_true marks values)))) places
      ∙ ap Ok (paired_back (members_from 0 marks) (items_where_true marks values) sent_values (sym each))

  pub form_read : (ids : List ℕ) (tag : ℕ) (marks : List Bool) (values : List X) → AreIds ids → tag ≤ 3 → length marks ≡ length ids → length values ≡ length ids → All IsValue values
      → checked size value_of ids (form bytes_of tag ids marks values) ≡ Ok (entries tag marks values)
  unfolding checked names
  form_read ids zero marks values known t m v h = rw m (all_read (length ids) values v h)
  form_read ids (suc zero) marks values known t m v h = subst (λ count. bits_checked size value_of count (bit_vector marks ++ flat_map bytes_of (items_where_true marks values)) ≡ Ok (zip (members_from 0 marks) (items_where_true marks values))) m (bits_read marks values (v ∙ sym m) h)
  form_read ids (suc (suc zero)) marks values known t m v h = subst (λ count. positions_checked size value_of count (position_text (members_from 0 marks) ++ flat_map bytes_of (items_where_true marks values)) ≡ Ok (zip (members_from 0 marks) (items_where_true marks values))) m (positions_read marks values (v ∙ sym m) h (omega (arith, known.few)))
  form_read ids (suc (suc (suc zero))) marks values known t m v h = ids_read ids marks values known m (v ∙ sym m) h
  form_read ids (suc (suc (suc (suc more)))) marks values known t m v h = absurd (omega arith)

  pub forms_read_back : FormsReadBack size IsValue bytes_of value_of
  forms_read_back ids bytes tag marks values known f =
      ap (checked size value_of ids) f.whole ∙ form_read ids tag marks values known f.is_tag f.mark_for_each f.value_for_each f.are_values
