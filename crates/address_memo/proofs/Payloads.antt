-- Payloads: what is read of one, and that those of two lists of masters have no fault.
use Rattle.std.proofs.Common.{◌≡◌, ◌≢◌, ℕ, zero, suc, ◌+◌, ◌-◌, ◌*◌, ◌/◌, ◌^◌, ◌<◌, ◌≤◌, true, false, ◌||◌, ◌==◌, List, [], ◌∷◌, ◌++◌, length, take, drop, get_or, slice_index, Some, None, refl, sym, ap, ◌∙◌, arith, inl, inr, length-append, length-drop}
use Rattle.std.specs.Prelude.{nat_le}
use Rattle.std.specs.List.{All}
use Rattle.std.specs.List.Sorted.{IsStrictlyIncreasing}
use Rattle.std.proofs.lemmas.Bool.{and_parts, eqb-true, eq-eqb, leb-true, le-leb, true≢false, cases_lt}
use Rattle.std.proofs.lemmas.Bool.Decides.{eqb_tells}
use Rattle.std.proofs.lemmas.Grind.{flat_map-append}
use Rattle.std.proofs.lemmas.List.{take_at, drop_at, take_all, drop-drop, take-append-drop, length-take-le}
use Rattle.std.proofs.lemmas.List.Concat.{flat_map-cons}
use Rattle.std.proofs.lemmas.List.Elements.{All-head, All-tail, All-take, All-drop, All-weaker}
use Rattle.list_laws.specs.Among.{is_among}
use Rattle.list_laws.specs.LittleEndian.{AreBytes, le_bytes, le_number, le_text, whole_numbers}
use Rattle.list_laws.proofs.LittleEndian.{length-le_bytes, le_number-le_bytes, le_bytes-le_number, rewritten}
use Rattle.list_laws.proofs.WholeNumbers.{length-numbers, length-le_text, whole_numbers-le_text}
use Rattle.graph_division.specs.Shares.{Share, IsShare, nodes_of, masters_here}
use Rattle.address_memo.specs.declared.memo_fault.MemoFault.{MemoFault}
use Rattle.address_memo.specs.declared.memo_fault.MemoFault.TheVariants.{Length, NotRising, NotMine, Memory}
use Rattle.address_memo.specs.Payload.{payload}
use Rattle.address_memo.specs.Checks.{AreMasterIds, reduce_count, spread_count, is_whole, reduce_ids, spread_ids, ids_fault, memo_fault}
use Rattle.address_memo.proofs.Mirrors.{masters_known}
use Rattle.address_memo.proofs.Masters.{no_fault}

-- ---- a payload that is whole

pub record IsWhole (bytes : List ℕ) : Type 0 where
  pub both : 8 ≤ length bytes
  pub long : length bytes ≡ 8 + 4 * (reduce_count bytes + spread_count bytes)

pub whole_from : (bytes : List ℕ) → is_whole bytes ≡ true → IsWhole bytes
whole_from bytes is =
    let parts = and_parts (nat_le 8 (length bytes)) (length bytes == 8 + 4 * (reduce_count bytes + spread_count bytes)) is in
    record { both = leb-true 8 (length bytes) parts.0; long = eqb-true (length bytes) (8 + 4 * (reduce_count bytes + spread_count bytes)) parts.1 }

-- numbers that are read are written again
rewritten_text : (text : List ℕ) (count : ℕ) → AreBytes text → length text ≡ count * 4 → le_text 4 (whole_numbers 4 text) ≡ text
rewritten_text text count fit long =
    let spare : 0 < 4 = omega arith in
    let whole : length text / 4 * 4 ≡ length text = omega arith in
    rewritten 4 (le_bytes 4) le_number (λ piece e h. le_bytes-le_number 4 piece e h) (length text / 4) text fit (omega arith)
    ∙ ap (λ n. take n text) whole
    ∙ take_all (length text) text (omega arith)

-- as many numbers are read as there are
read_count : (text : List ℕ) (count : ℕ) → length text ≡ count * 4 → length (whole_numbers 4 text) ≡ count
read_count text count long = length-numbers 4 (length text / 4) text ∙ omega arith

-- a payload in its parts
pub payload_parts : (reduce spread : List ℕ) → payload reduce spread ≡ le_bytes 4 (length reduce) ++ (le_bytes 4 (length spread) ++ (le_text 4 reduce ++ le_text 4 spread))
payload_parts reduce spread =
    flat_map-cons (le_bytes 4) (length reduce) (length spread ∷ (reduce ++ spread))
    ∙ ap (λ l. le_bytes 4 (length reduce) ++ l) (flat_map-cons (le_bytes 4) (length spread) (reduce ++ spread))
    ∙ ap (λ l. le_bytes 4 (length reduce) ++ (le_bytes 4 (length spread) ++ l)) (flat_map-append (le_bytes 4) reduce spread)

-- bytes that are whole are the payload of the ids that are read of them
module _ (bytes : List ℕ) (fit : AreBytes bytes) (is : is_whole bytes ≡ true) where
  whole : IsWhole bytes
  whole = whole_from bytes is

  behind : length (drop 8 bytes) ≡ reduce_count bytes * 4 + spread_count bytes * 4
  behind = let both = whole.both in let long = whole.long in omega (arith, length-drop 8 bytes)

  pub reduce_long : length (take (reduce_count bytes * 4) (drop 8 bytes)) ≡ reduce_count bytes * 4
  reduce_long = length-take-le (reduce_count bytes * 4) (drop 8 bytes) (omega (arith, behind))

  spread_long : length (drop (reduce_count bytes * 4) (drop 8 bytes)) ≡ spread_count bytes * 4
  spread_long = omega (arith, behind, length-drop (reduce_count bytes * 4) (drop 8 bytes))

  pub reduce_many : length (reduce_ids bytes) ≡ reduce_count bytes
  reduce_many = read_count (take (reduce_count bytes * 4) (drop 8 bytes)) (reduce_count bytes) reduce_long

  spread_many : length (spread_ids bytes) ≡ spread_count bytes
  spread_many = read_count (drop (reduce_count bytes * 4) (drop 8 bytes)) (spread_count bytes) spread_long

  first_written : le_bytes 4 (length (reduce_ids bytes)) ≡ take 4 bytes
  first_written =
      ap (le_bytes 4) reduce_many
      ∙ le_bytes-le_number 4 (take 4 bytes) (length-take-le 4 bytes (let both = whole.both in omega arith)) (All-take (λ b. b < 256) 4 bytes fit)

  second_written : le_bytes 4 (length (spread_ids bytes)) ≡ take 4 (drop 4 bytes)
  second_written =
      ap (le_bytes 4) spread_many
      ∙ le_bytes-le_number 4 (take 4 (drop 4 bytes)) (length-take-le 4 (drop 4 bytes) (let both = whole.both in omega (arith, length-drop 4 bytes))) (All-take (λ b. b < 256) 4 (drop 4 bytes) (All-drop (λ b. b < 256) 4 bytes fit))

  rest_fits : AreBytes (drop 8 bytes)
  rest_fits = All-drop (λ b. b < 256) 8 bytes fit

  pub payload_is : bytes ≡ payload (reduce_ids bytes) (spread_ids bytes)
  payload_is = sym (
      payload_parts (reduce_ids bytes) (spread_ids bytes)
      ∙ ap (λ l. l ++ (le_bytes 4 (length (spread_ids bytes)) ++ (le_text 4 (reduce_ids bytes) ++ le_text 4 (spread_ids bytes)))) first_written
      ∙ ap (λ l. take 4 bytes ++ (l ++ (le_text 4 (reduce_ids bytes) ++ le_text 4 (spread_ids bytes)))) second_written
      ∙ ap (λ l. take 4 bytes ++ (take 4 (drop 4 bytes) ++ (l ++ le_text 4 (spread_ids bytes)))) (rewritten_text (take (reduce_count bytes * 4) (drop 8 bytes)) (reduce_count bytes) (All-take (λ b. b < 256) (reduce_count bytes * 4) (drop 8 bytes) rest_fits) reduce_long)
      ∙ ap (λ l. take 4 bytes ++ (take 4 (drop 4 bytes) ++ (take (reduce_count bytes * 4) (drop 8 bytes) ++ l))) (rewritten_text (drop (reduce_count bytes * 4) (drop 8 bytes)) (spread_count bytes) (All-drop (λ b. b < 256) (reduce_count bytes * 4) (drop 8 bytes) rest_fits) spread_long)
      ∙ ap (λ l. take 4 bytes ++ (take 4 (drop 4 bytes) ++ l)) (take-append-drop (reduce_count bytes * 4) (drop 8 bytes))
      ∙ ap (λ l. take 4 bytes ++ (take 4 (drop 4 bytes) ++ l)) (sym (drop-drop 4 4 bytes))
      ∙ ap (λ l. take 4 bytes ++ l) (take-append-drop 4 (drop 4 bytes))
      ∙ take-append-drop 4 bytes)

-- ---- which check fails first

pub fault_of_length : (share : Share) (bytes : List ℕ) → is_whole bytes ≡ false → memo_fault share bytes ≡ Some (Length (length bytes))
unfolding memo_fault
fault_of_length share bytes is = rw is refl

pub fault_of_reduce : (share : Share) (bytes : List ℕ) (fault : MemoFault) → is_whole bytes ≡ true → ids_fault (masters_here share) 0 (reduce_ids bytes) ≡ Some fault → memo_fault share bytes ≡ Some fault
unfolding memo_fault
fault_of_reduce share bytes fault is first = rw (is, first) refl

pub fault_of_spread : (share : Share) (bytes : List ℕ) (fault : MemoFault) → is_whole bytes ≡ true → ids_fault (masters_here share) 0 (reduce_ids bytes) ≡ None
    → ids_fault (masters_here share) (reduce_count bytes) (spread_ids bytes) ≡ Some fault → memo_fault share bytes ≡ Some fault
unfolding memo_fault
fault_of_spread share bytes fault is first second = rw (is, first, second) refl

no_fault_of : (share : Share) (bytes : List ℕ) → is_whole bytes ≡ true → ids_fault (masters_here share) 0 (reduce_ids bytes) ≡ None
    → ids_fault (masters_here share) (reduce_count bytes) (spread_ids bytes) ≡ None → memo_fault share bytes ≡ None
unfolding memo_fault
no_fault_of share bytes is first second = rw (is, first, second) refl

-- ---- payloads of masters

-- a vertex among some that are known is known
among_below : (n x : ℕ) (xs : List ℕ) → All (λ v. v < n) xs → is_among xs x ≡ true → x < n
among_below n x [] all e = absurd (true≢false (sym e))
among_below n x (y ∷ xs) all e =
    elim (eqb_tells y x) [
      | inl same ↦ let known : y < n = All-head (λ v. v < n) y xs all in let is = same.1 in omega arith
      | inr other ↦ among_below n x xs (All-tail (λ v. v < n) y xs all) (ap (λ b. b || is_among xs x) (sym other.0) ∙ e)
    ]

-- numbers that rise are no less than their places
no_less : (ids : List ℕ) (k : ℕ) → IsStrictlyIncreasing ids → k < length ids → k ≤ slice_index ids k
no_less ids zero rise within = omega arith
no_less ids (suc k) rise within =
    let next : k + 1 ≡ suc k = omega arith in
    let before = no_less ids k rise (omega arith) in
    let up : slice_index ids k < slice_index ids (k + 1) = rise k (omega arith) in
    let same = ap (slice_index ids) next in
    omega arith

module _ (share : Share) (is : IsShare share) (ids : List ℕ) (are : AreMasterIds share ids) where
  pub ids_known : All (λ v. v < nodes_of share) ids
  ids_known = λ k d within. among_below (nodes_of share) (get_or ids k d) (masters_here share) (masters_known share) (are.are_mine k d within)

  pub ids_few : length ids ≤ nodes_of share
  ids_few = elim (cases_lt 0 (length ids)) [
    | inl some ↦
        let last = length ids - 1 in
        let here : last < length ids = omega arith in
        let high : last ≤ slice_index ids last = no_less ids last are.rise here in
        let known : slice_index ids last < nodes_of share = ids_known last 0 here in
        omega arith
    | inr nothing ↦ omega arith
  ]

  ids_fit : All (λ x. x < 256 ^ 4) ids
  ids_fit = All-weaker (λ v. v < nodes_of share) (λ x. x < 256 ^ 4) (λ x h. let fit = is.nodes_fit in omega arith) ids ids_known

  pub ids_read_back : whole_numbers 4 (le_text 4 ids) ≡ ids
  ids_read_back = whole_numbers-le_text 4 ids (omega arith) ids_fit

  count_read_back : le_number (le_bytes 4 (length ids)) ≡ length ids
  count_read_back = le_number-le_bytes 4 (length ids) (let few = ids_few in let fit = is.nodes_fit in omega arith)

module _ (share : Share) (is : IsShare share) (reduce spread : List ℕ) (told : AreMasterIds share reduce) (wanted : AreMasterIds share spread) where
  first_count : reduce_count (payload reduce spread) ≡ length reduce
  first_count =
      ap (λ l. le_number (take 4 l)) (payload_parts reduce spread)
      ∙ ap le_number (take_at (le_bytes 4 (length reduce)) (le_bytes 4 (length spread) ++ (le_text 4 reduce ++ le_text 4 spread)) 4 (length-le_bytes 4 (length reduce)))
      ∙ count_read_back share is reduce told

  others : drop 4 (payload reduce spread) ≡ le_bytes 4 (length spread) ++ (le_text 4 reduce ++ le_text 4 spread)
  others =
      ap (drop 4) (payload_parts reduce spread)
      ∙ drop_at (le_bytes 4 (length reduce)) (le_bytes 4 (length spread) ++ (le_text 4 reduce ++ le_text 4 spread)) 4 (length-le_bytes 4 (length reduce))

  second_count : spread_count (payload reduce spread) ≡ length spread
  second_count =
      ap (λ l. le_number (take 4 l)) others
      ∙ ap le_number (take_at (le_bytes 4 (length spread)) (le_text 4 reduce ++ le_text 4 spread) 4 (length-le_bytes 4 (length spread)))
      ∙ count_read_back share is spread wanted

  all_ids : drop 8 (payload reduce spread) ≡ le_text 4 reduce ++ le_text 4 spread
  all_ids =
      sym (drop-drop 4 4 (payload reduce spread))
      ∙ ap (drop 4) others
      ∙ drop_at (le_bytes 4 (length spread)) (le_text 4 reduce ++ le_text 4 spread) 4 (length-le_bytes 4 (length spread))

  cut : reduce_count (payload reduce spread) * 4 ≡ length (le_text 4 reduce)
  cut = omega (arith, first_count, length-le_text 4 reduce)

  pub first_ids : reduce_ids (payload reduce spread) ≡ reduce
  first_ids =
      ap (λ l. whole_numbers 4 (take (reduce_count (payload reduce spread) * 4) l)) all_ids
      ∙ ap (whole_numbers 4) (take_at (le_text 4 reduce) (le_text 4 spread) (reduce_count (payload reduce spread) * 4) (sym cut))
      ∙ ids_read_back share is reduce told

  pub second_ids : spread_ids (payload reduce spread) ≡ spread
  second_ids =
      ap (λ l. whole_numbers 4 (drop (reduce_count (payload reduce spread) * 4) l)) all_ids
      ∙ ap (whole_numbers 4) (drop_at (le_text 4 reduce) (le_text 4 spread) (reduce_count (payload reduce spread) * 4) (sym cut))
      ∙ ids_read_back share is spread wanted

  long : length (payload reduce spread) ≡ 8 + 4 * (reduce_count (payload reduce spread) + spread_count (payload reduce spread))
  long = omega (arith, first_count, second_count, length-le_text 4 (length reduce ∷ length spread ∷ (reduce ++ spread)), length-append reduce spread)

  is_long : is_whole (payload reduce spread) ≡ true
  is_long =
      let size = long in
      rw (le-leb 8 (length (payload reduce spread)) (omega arith)) (eq-eqb (length (payload reduce spread)) (8 + 4 * (reduce_count (payload reduce spread) + spread_count (payload reduce spread))) size)

  pub payload_no_fault : memo_fault share (payload reduce spread) ≡ None
  payload_no_fault =
      no_fault_of share (payload reduce spread) is_long
      (ap (ids_fault (masters_here share) 0) first_ids ∙ no_fault share 0 reduce told)
      (ap (ids_fault (masters_here share) (reduce_count (payload reduce spread))) second_ids ∙ no_fault share (reduce_count (payload reduce spread)) spread wanted)

-- so what is refused though it is such a payload is refused for want of memory
pub only_memory : (share : Share) (bytes : List ℕ) (fault : MemoFault) → IsShare share → (fault ≢ Memory → memo_fault share bytes ≡ Some fault)
    → (reduce spread : List ℕ) → AreMasterIds share reduce → AreMasterIds share spread → bytes ≡ payload reduce spread → fault ≡ Memory
only_memory share bytes Memory is named reduce spread told wanted e = refl
only_memory share bytes (Length n) is named reduce spread told wanted e =
    absurd (let none = sym (ap (memo_fault share) e ∙ payload_no_fault share is reduce spread told wanted) ∙ named (λ same. cc) in cc)
only_memory share bytes (NotRising n) is named reduce spread told wanted e =
    absurd (let none = sym (ap (memo_fault share) e ∙ payload_no_fault share is reduce spread told wanted) ∙ named (λ same. cc) in cc)
only_memory share bytes (NotMine n) is named reduce spread told wanted e =
    absurd (let none = sym (ap (memo_fault share) e ∙ payload_no_fault share is reduce spread told wanted) ∙ named (λ same. cc) in cc)
