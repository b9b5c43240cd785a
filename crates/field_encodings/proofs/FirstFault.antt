-- Faults of a front and of what follows it, and the greatest of rising numbers.
use Rattle.std.proofs.Common.{◌≡◌, ◌<◌, ◌≤◌, ℕ, zero, suc, ◌+◌, ◌-◌, ◌*◌, Bool, true, false, List, [], ◌∷◌, ◌++◌, length, get_or, take, drop, refl, sym, ap, ◌∙◌, arith, subst, Some, None}
use Rattle.std.specs.Prelude.{max}
use Rattle.std.specs.List.{AllByRecursion, items_where_true}
use Rattle.std.specs.List.Sorted.{IsStrictlyIncreasing}
use Rattle.std.proofs.lemmas.Bool.{lt-ltb, le-ltb}
use Rattle.std.proofs.lemmas.List.{take-append-drop, take_more, drop_more, drop-drop, length-take, length-map, take_all}
use Rattle.list_laws.proofs.LittleEndian.{length-pieces}
use Rattle.field_encodings.specs.declared.decode_fault.DecodeFault.TheVariants.{NotRising, PastEnd, UnknownId}
use Rattle.list_laws.specs.LittleEndian.{le_number, pieces, numbers}
use Rattle.field_encodings.specs.Lengths.{greatest_of}
use Rattle.list_laws.specs.Rising.{Rises}
use Rattle.list_laws.proofs.Rising.{Rises-from_increasing}
use Rattle.list_laws.specs.Among.{is_among, AllAmong}
use Rattle.field_encodings.proofs.Faults.{position_walk, id_walk, rising_from_position_walk, rising_from_id_walk}
use Rattle.list_laws.proofs.Chosen.{marks_naming, items-marks_naming}

-- what the next number has to be at least, after these
abbrev pub low_after : ℕ → List ℕ → ℕ
low_after low [] = low
low_after low (x ∷ xs) = low_after (x + 1) xs

-- the number at a turn of a text
pub number_at_turn : (size count : ℕ) (text : List ℕ) (i : ℕ) → i < count → get_or (numbers size count text) i 0 ≡ le_number (take size (drop (i * size) text))
number_at_turn size zero text i l = absurd (omega arith)
number_at_turn size (suc count) text zero l = let none : zero * size ≡ 0 = omega arith in sym (ap (λ n. le_number (take size (drop n text))) none)
number_at_turn size (suc count) text (suc i) l =
    let place : suc i * size ≡ size + i * size = omega arith in
    number_at_turn size count (drop size text) i (omega arith)
    ∙ ap (λ rest. le_number (take size rest)) (drop-drop (i * size) size text ∙ sym (ap (λ n. drop n text) place))

-- a number that was read is that of its turn
pub read_in_turn : (size count : ℕ) (text : List ℕ) (i x : ℕ) → i < count → x ≡ le_number (take size (drop (i * size) text)) → (i < length (numbers size count text)) × (x ≡ get_or (numbers size count text) i 0)
read_in_turn size count text i x l e =
    (omega (arith, length-map (pieces size count text) le_number, length-pieces size count text), e ∙ sym (number_at_turn size count text i l))

low_after-push : (low x : ℕ) (xs : List ℕ) → low_after low (xs ++ x ∷ []) ≡ x + 1
low_after-push low x [] = refl
low_after-push low x (y ∷ ys) = low_after-push (y + 1) x ys

-- ---- positions

after_positions : (count low place : ℕ) (xs ys : List ℕ) → position_walk count low place xs ≡ None → position_walk count low place (xs ++ ys) ≡ position_walk count (low_after low xs) (place + length xs) ys
after_positions count low place [] ys e = ap (λ n. position_walk count low n ys) (omega arith)
after_positions count low place (x ∷ xs) ys e =
    let sound : Rises low (x ∷ xs) × AllByRecursion (λ x. x < count) (x ∷ xs) = rising_from_position_walk count low place (x ∷ xs) e in
    let below : x < count = sound.1.0 in
    let high : low ≤ x = sound.0.0 in
    let rest_sound : position_walk count (x + 1) (place + 1) xs ≡ None = rw (lt-ltb x count below, le-ltb x low high) at e in
    let step : position_walk count low place (x ∷ (xs ++ ys)) ≡ position_walk count (x + 1) (place + 1) (xs ++ ys) = rw (lt-ltb x count below, le-ltb x low high) refl in
    step ∙ after_positions count (x + 1) (place + 1) xs ys rest_sound ∙ ap (λ n. position_walk count (low_after (x + 1) xs) n ys) (omega arith)

module _ (count : ℕ) (xs : List ℕ) (i low : ℕ) (sound : position_walk count 0 0 (take i xs) ≡ None) (is_low : low ≡ low_after 0 (take i xs)) where
  position_from : i < length xs → position_walk count 0 0 xs ≡ position_walk count low i (get_or xs i 0 ∷ drop (i + 1) xs)
  position_from l =
      let front : length (take i xs) ≡ i = omega (arith, length-take i xs) in
      ap (position_walk count 0 0) (sym (take-append-drop i xs) ∙ ap (λ rest. take i xs ++ rest) (drop_more xs i 0 l))
      ∙ after_positions count 0 0 (take i xs) (get_or xs i 0 ∷ drop (i + 1) xs) sound
      ∙ ap (λ n. position_walk count n (0 + length (take i xs)) (get_or xs i 0 ∷ drop (i + 1) xs)) (sym is_low)
      ∙ ap (λ n. position_walk count low n (get_or xs i 0 ∷ drop (i + 1) xs)) (omega arith)

  pub position_past : (x : ℕ) → i < length xs → x ≡ get_or xs i 0 → count ≤ x → position_walk count 0 0 xs ≡ Some (PastEnd x)
  position_past x l e past = position_from l ∙ rw (← e, le-ltb x count past) refl

  pub position_falls : (x : ℕ) → i < length xs → x ≡ get_or xs i 0 → x < count → x < low → position_walk count 0 0 xs ≡ Some (NotRising i)
  position_falls x l e below falls = position_from l ∙ rw (← e, lt-ltb x count below, lt-ltb x low falls) refl

  pub positions_more : (x : ℕ) → i < length xs → x ≡ get_or xs i 0 → x < count → low ≤ x → (position_walk count 0 0 (take (i + 1) xs) ≡ None) × (x + 1 ≡ low_after 0 (take (i + 1) xs))
  positions_more x l e below high =
      let front : length (take i xs) ≡ i = omega (arith, length-take i xs) in
      let longer : take (i + 1) xs ≡ take i xs ++ x ∷ [] = take_more xs i 0 l ∙ ap (λ y. take i xs ++ y ∷ []) (sym e) in
      let one : position_walk count low (0 + length (take i xs)) (x ∷ []) ≡ None = rw (lt-ltb x count below, le-ltb x low high) refl in (
        ap (position_walk count 0 0) longer ∙ after_positions count 0 0 (take i xs) (x ∷ []) sound ∙ ap (λ n. position_walk count n (0 + length (take i xs)) (x ∷ [])) (sym is_low) ∙ one,
        sym (ap (low_after 0) longer ∙ low_after-push 0 x (take i xs)),
      )

greatest_last : (low x : ℕ) (xs : List ℕ) → Rises (x + 1) xs → max x (greatest_of xs) + 1 ≡ low_after (x + 1) xs
greatest_last low x [] r = omega arith
greatest_last low x (y ∷ ys) r = omega (arith, greatest_last low y ys r.1, r.0)

greatest_rising : (xs : List ℕ) → Rises 0 xs → greatest_of xs ≡ low_after 0 xs - 1
greatest_rising [] r = refl
greatest_rising (x ∷ xs) r = omega (arith, greatest_last 0 x xs r.1)

-- no position failed: the greatest is the last
pub greatest_found : (count low : ℕ) (xs : List ℕ) → position_walk count 0 0 xs ≡ None → low ≡ low_after 0 xs → low - 1 ≡ greatest_of xs
greatest_found count low xs sound e = ap (λ n. n - 1) e ∙ sym (greatest_rising xs (rising_from_position_walk count 0 0 xs sound).0)

pub positions_end : (count low i : ℕ) (xs : List ℕ) → length xs ≤ i → position_walk count 0 0 (take i xs) ≡ None → low ≡ low_after 0 (take i xs) → (position_walk count 0 0 xs ≡ None) × (low - 1 ≡ greatest_of xs)
positions_end count low i xs l sound is_low =
    let all : take i xs ≡ xs = take_all i xs l in
    let whole : position_walk count 0 0 xs ≡ None = subst (λ ys. position_walk count 0 0 ys ≡ None) all sound in
    (whole, greatest_found count low xs whole (is_low ∙ ap (low_after 0) all))

-- ---- ids

after_ids : (ids : List ℕ) (low place : ℕ) (xs ys : List ℕ) → id_walk ids low place xs ≡ None → id_walk ids low place (xs ++ ys) ≡ id_walk ids (low_after low xs) (place + length xs) ys
after_ids ids low place [] ys e = ap (λ n. id_walk ids low n ys) (omega arith)
after_ids ids low place (x ∷ xs) ys e =
    let sound : Rises low (x ∷ xs) × AllAmong ids (x ∷ xs) = rising_from_id_walk ids low place (x ∷ xs) e in
    let high : low ≤ x = sound.0.0 in
    let known : is_among ids x ≡ true = sound.1.0 in
    let rest_sound : id_walk ids (x + 1) (place + 1) xs ≡ None = rw (le-ltb x low high, known) at e in
    let step : id_walk ids low place (x ∷ (xs ++ ys)) ≡ id_walk ids (x + 1) (place + 1) (xs ++ ys) = rw (le-ltb x low high, known) refl in
    step ∙ after_ids ids (x + 1) (place + 1) xs ys rest_sound ∙ ap (λ n. id_walk ids (low_after (x + 1) xs) n ys) (omega arith)

module _ (ids xs : List ℕ) (i low : ℕ) (sound : id_walk ids 0 0 (take i xs) ≡ None) (is_low : low ≡ low_after 0 (take i xs)) where
  id_from : i < length xs → id_walk ids 0 0 xs ≡ id_walk ids low i (get_or xs i 0 ∷ drop (i + 1) xs)
  id_from l =
      let front : length (take i xs) ≡ i = omega (arith, length-take i xs) in
      ap (id_walk ids 0 0) (sym (take-append-drop i xs) ∙ ap (λ rest. take i xs ++ rest) (drop_more xs i 0 l))
      ∙ after_ids ids 0 0 (take i xs) (get_or xs i 0 ∷ drop (i + 1) xs) sound
      ∙ ap (λ n. id_walk ids n (0 + length (take i xs)) (get_or xs i 0 ∷ drop (i + 1) xs)) (sym is_low)
      ∙ ap (λ n. id_walk ids low n (get_or xs i 0 ∷ drop (i + 1) xs)) (omega arith)

  pub id_falls : (x : ℕ) → i < length xs → x ≡ get_or xs i 0 → x < low → id_walk ids 0 0 xs ≡ Some (NotRising i)
  id_falls x l e falls = id_from l ∙ rw (← e, lt-ltb x low falls) refl

  pub id_unknown : (x : ℕ) → i < length xs → x ≡ get_or xs i 0 → low ≤ x → is_among ids x ≡ false → id_walk ids 0 0 xs ≡ Some (UnknownId x)
  id_unknown x l e high unknown = id_from l ∙ rw (← e, le-ltb x low high, unknown) refl

  pub ids_more : (x : ℕ) → i < length xs → x ≡ get_or xs i 0 → low ≤ x → is_among ids x ≡ true → (id_walk ids 0 0 (take (i + 1) xs) ≡ None) × (x + 1 ≡ low_after 0 (take (i + 1) xs))
  ids_more x l e high known =
      let longer : take (i + 1) xs ≡ take i xs ++ x ∷ [] = take_more xs i 0 l ∙ ap (λ y. take i xs ++ y ∷ []) (sym e) in
      let one : id_walk ids low (0 + length (take i xs)) (x ∷ []) ≡ None = rw (le-ltb x low high, known) refl in (
        ap (id_walk ids 0 0) longer ∙ after_ids ids 0 0 (take i xs) (x ∷ []) sound ∙ ap (λ n. id_walk ids n (0 + length (take i xs)) (x ∷ [])) (sym is_low) ∙ one,
        sym (ap (low_after 0) longer ∙ low_after-push 0 x (take i xs)),
      )

chosen_shorter : (marks : List Bool) (xs : List ℕ) → length (items_where_true marks xs) ≤ length xs
chosen_shorter [] xs = omega arith
chosen_shorter (mark ∷ marks) [] = omega arith
chosen_shorter (true ∷ marks) (x ∷ xs) = omega (arith, chosen_shorter marks xs)
chosen_shorter (false ∷ marks) (x ∷ xs) = omega (arith, chosen_shorter marks xs)

-- there are no more of them than ids
pub ids_few : (ids xs : List ℕ) → IsStrictlyIncreasing ids → id_walk ids 0 0 xs ≡ None → length xs ≤ length ids
ids_few ids xs rise sound =
    let known : Rises 0 xs × AllAmong ids xs = rising_from_id_walk ids 0 0 xs sound in
    let same : items_where_true (marks_naming ids xs) ids ≡ xs = items-marks_naming 0 0 ids xs (Rises-from_increasing 0 ids rise (λ some. omega arith)) known.0 known.1 in
    omega (arith, ap length same, chosen_shorter (marks_naming ids xs) ids)

pub ids_end : (ids xs : List ℕ) (i : ℕ) → length xs ≤ i → id_walk ids 0 0 (take i xs) ≡ None → id_walk ids 0 0 xs ≡ None
ids_end ids xs i l sound = subst (λ ys. id_walk ids 0 0 ys ≡ None) (take_all i xs l) sound

-- a place is below the number of ids, where all before it are sound
pub ids_bound : (ids xs : List ℕ) (i : ℕ) → IsStrictlyIncreasing ids → i ≤ length xs → id_walk ids 0 0 (take i xs) ≡ None → i ≤ length ids
ids_bound ids xs i rise l sound = omega (arith, ids_few ids (take i xs) rise sound, length-take i xs)
