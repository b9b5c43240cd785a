-- The checks of a payload on the host to which it goes, in the order in which faults are named: first its
-- length, then the ids of both lists, one place after another.
use Rattle.std.specs.Prelude.{◌≡◌, ℕ, zero, suc, ◌+◌, ◌*◌, Bool, true, ◌==◌, ◌&&◌, nat_lt, nat_le, slice_index, if◌then◌else◌, List, [], ◌∷◌, length, take, drop, All, Option, Some, None}
use Rattle.std.specs.List.{range_with_len}
use Rattle.std.specs.List.Sorted.{IsStrictlyIncreasing}
use Rattle.list_laws.specs.Among.{is_among}
use Rattle.list_laws.specs.LittleEndian.{le_number, whole_numbers}
use Rattle.graph_division.specs.Shares.{Share, masters_here}
use Rattle.address_memo.specs.declared.memo_fault.MemoFault.{MemoFault}
use Rattle.address_memo.specs.declared.memo_fault.MemoFault.TheVariants.{Length, NotRising, NotMine}

-- rising vertices that have their masters on this host
pub record AreMasterIds (share : Share) (ids : List ℕ) : Type 0 where
  pub rise : IsStrictlyIncreasing ids
  pub are_mine : All (λ id. is_among (masters_here share) id ≡ true) ids

-- the lengths of both lists, as a payload says them
abbrev pub reduce_count : List ℕ → ℕ
reduce_count bytes = le_number (take 4 bytes)

abbrev pub spread_count : List ℕ → ℕ
spread_count bytes = le_number (take 4 (drop 4 bytes))

-- whether a payload has both lengths, and as many ids as they say
abbrev pub is_whole : List ℕ → Bool
is_whole bytes = nat_le 8 (length bytes) && (length bytes == 8 + 4 * (reduce_count bytes + spread_count bytes))

-- the ids of both lists
abbrev pub reduce_ids : List ℕ → List ℕ
reduce_ids bytes = whole_numbers 4 (take (reduce_count bytes * 4) (drop 8 bytes))

abbrev pub spread_ids : List ℕ → List ℕ
spread_ids bytes = whole_numbers 4 (drop (reduce_count bytes * 4) (drop 8 bytes))

-- whether the id at a place is above the one before it
abbrev pub rises_at : List ℕ → (place : ℕ) → Bool
rises_at ids zero = true
rises_at ids (suc place) = nat_lt (slice_index ids place) (slice_index ids (suc place))

-- the fault of the id at a place of a list whose places are numbered from `first`
abbrev pub id_fault_at : (mine : List ℕ) → (first : ℕ) → (ids : List ℕ) → (place : ℕ) → Option MemoFault
id_fault_at mine first ids place =
    if rises_at ids place then (if is_among mine (slice_index ids place) then None else Some (NotMine (slice_index ids place)))
    else Some (NotRising (first + place))

-- this fault, or else that one
abbrev pub or_fault : Option MemoFault → Option MemoFault → Option MemoFault
or_fault None other = other
or_fault (Some fault) other = Some fault

-- the fault at the first of these places that has one
abbrev pub first_fault : (ℕ → Option MemoFault) → (places : List ℕ) → Option MemoFault
first_fault fault_at [] = None
first_fault fault_at (place ∷ places) = or_fault (fault_at place) (first_fault fault_at places)

-- the fault of the first id of a list that has one
unfoldable pub ids_fault : (mine : List ℕ) → (first : ℕ) → (ids : List ℕ) → Option MemoFault
ids_fault mine first ids = first_fault (id_fault_at mine first ids) (range_with_len 0 (length ids))

-- the first check that a payload fails on a host
unfoldable pub memo_fault : Share → List ℕ → Option MemoFault
memo_fault share bytes =
    if is_whole bytes then or_fault (ids_fault (masters_here share) 0 (reduce_ids bytes)) (ids_fault (masters_here share) (reduce_count bytes) (spread_ids bytes))
    else Some (Length (length bytes))
