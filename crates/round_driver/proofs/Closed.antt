-- Hosts that are closed one after another, and payloads whose bytes are counted.
use Rattle.std.proofs.Common.{◌≡◌, ℕ, suc, ◌+◌, ◌-◌, ◌<◌, ◌≤◌, List, [], ◌∷◌, ◌++◌, length, map, take, drop, get_or, sum, sym, ap, ◌∙◌, arith}
use Rattle.std.specs.List.{sum_by, range_with_len}
use Rattle.std.specs.Prelude.{slice_index}
use Rattle.std.proofs.lemmas.List.{length-map, get_or-append_right, get_or-drop, length-take, length-take-le}
use Rattle.std.proofs.lemmas.List.FromFn.{length-range_with_len}
use Rattle.std.proofs.lemmas.List.Sums.{sum_by-cons, sum_by-take-le, sum_by_more}
use Rattle.packet_table.specs.Table.{Table, IsTable, rooms_of, payload_of, buffer_of}
use Rattle.packet_table.proofs.Cuts.{length-rooms_of}
use Rattle.round_driver.proofs.Moving.{payload_at}

-- what a loop has not come to is as it was
pub still_there : {X : Type 0} (f : X → X) (xs ys : List X) (i : ℕ) (d : X) → i < length xs → ys ≡ map f (take i xs) ++ drop i xs → get_or ys i d ≡ get_or xs i d
still_there {X} f xs ys i d within is =
    let front : length (map f (take i xs)) ≡ i = length-map (take i xs) f ∙ length-take-le i xs (omega arith) in
    let first : i + (i - i) ≡ i = omega arith in
    ap (λ (l : List X). get_or l i d) is
    ∙ get_or-append_right (map f (take i xs)) (drop i xs) i i d front (omega arith)
    ∙ get_or-drop i xs (i - i) d
    ∙ ap (λ n. get_or xs n d) first

-- a list of lists is no longer than rooms that hold each
pub within_rooms : (xs : List (List ℕ)) (rooms : List ℕ) → length xs ≡ length rooms → ((k : ℕ) → k < length xs → length (get_or xs k []) ≤ slice_index rooms k) → sum_by length xs ≤ sum rooms
within_rooms [] rooms same fit = omega arith
within_rooms (x ∷ xs) [] same fit = absurd (omega arith)
within_rooms (x ∷ xs) (room ∷ rooms) same fit =
    let rest = within_rooms xs rooms (omega arith) (λ k within. fit (suc k) (omega arith)) in
    let first : length x ≤ room = fit 0 (omega arith) in
    let left = sum_by-cons length x xs in
    let right = sum_by-cons (λ n. n) room rooms in
    omega arith

module _ (table : Table) (is : IsTable table) where
  abbrev payloads : List (List ℕ)
  payloads = map (payload_of table) (range_with_len 0 (length table.specs))

  as_many : length payloads ≡ length table.specs
  as_many = length-map (range_with_len 0 (length table.specs)) (payload_of table) ∙ length-range_with_len 0 (length table.specs)

  -- the bytes of all payloads are fewer than those of all rooms
  pub bytes_fit : sum_by length payloads < 9223372036854775808
  bytes_fit =
      let all = within_rooms payloads (rooms_of table.specs) (as_many ∙ sym (length-rooms_of table.specs))
      (λ k within.
      let there = ap (λ (l : List ℕ). length l) (payload_at table k (let many = as_many in omega arith)) in
      let front = length-take (slice_index table.lengths k) (buffer_of table k) in
      let fits = is.fit k in
      omega arith) in
      let bounded = is.bounded in
      omega arith

  -- the next payload is counted
  pub bytes_more : (id : ℕ) → id < length table.specs → sum_by length (take (id + 1) payloads) ≡ sum_by length (take id payloads) + length (payload_of table id)
  bytes_more id within =
      sum_by_more length payloads id [] (let many = as_many in omega arith)
      ∙ ap (λ (l : List ℕ). sum_by length (take id payloads) + length l) (payload_at table id within)

  pub bytes_fit_more : (id : ℕ) → id < length table.specs → sum_by length (take id payloads) + length (payload_of table id) < 9223372036854775808
  bytes_fit_more id within =
      let more = bytes_more id within in
      let part = sum_by-take-le length payloads (id + 1) in
      let all = bytes_fit in
      omega arith
