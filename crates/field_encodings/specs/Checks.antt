-- What a payload carries, or the first check that it fails, in the order in which a receiver names
-- the faults. Each text is seen whole: lengths first, then positions or ids one after another.
use Rattle.std.specs.Prelude.{ℕ, zero, suc, ◌+◌, ◌*◌, ◌/◌, Bool, true, ◌||◌, slice_index, nat_eq, nat_lt, if◌then◌else◌, List, [], ◌∷◌, length, take, drop, map, Option, Some, None, Result, Ok, Err}
use Rattle.std.specs.List.{zip, list_any, range_with_len}
use Rattle.list_laws.specs.Among.{is_among, place_of}
use Rattle.field_encodings.specs.declared.decode_fault.DecodeFault.{DecodeFault}
use Rattle.field_encodings.specs.declared.decode_fault.DecodeFault.TheVariants.{Empty, Tag, Length, Width, PadBits, NotRising, PastEnd, UnknownId}
use Rattle.list_laws.specs.LittleEndian.{pieces, numbers}
use Rattle.list_laws.specs.Members.{members_from}
use Rattle.list_laws.specs.Bits.{unpacked}
use Rattle.field_encodings.specs.Lengths.{vector_length, width_for, greatest_of}

-- the positions, each with the value whose bytes stand at its turn
abbrev pub paired : {X : Type 0} → (size : ℕ) → (List ℕ → X) → List ℕ → List ℕ → List (ℕ × X)
paired size value_of positions text = zip positions (map value_of (pieces size (length positions) text))

-- all is well, or this is the fault
abbrev pub unless_fault : {Y : Type 0} → Option DecodeFault → Result Y DecodeFault → Result Y DecodeFault
unless_fault None rest = rest
unless_fault (Some fault) rest = Err fault

-- the text has as many bytes as the second number says, else the wanted and the found length, which
-- count the bytes before the text too
abbrev pub if_length : {Y : Type 0} → (before wanted : ℕ) → List ℕ → Result Y DecodeFault → Result Y DecodeFault
if_length before wanted text rest =
    if nat_eq (length text) wanted then rest else Err (Length (before + wanted) (before + length text))

-- whether the number at a place is above the one before it
abbrev pub rises_at : List ℕ → (place : ℕ) → Bool
rises_at xs zero = true
rises_at xs (suc place) = nat_lt (slice_index xs place) (slice_index xs (suc place))

-- the fault of the position at a place: it is past the end of a list of so many, or it does not rise
abbrev pub position_fault_at : (count : ℕ) → List ℕ → (place : ℕ) → Option DecodeFault
position_fault_at count xs place =
    if nat_lt (slice_index xs place) count then (if rises_at xs place then None else Some (NotRising place))
    else Some (PastEnd (slice_index xs place))

-- the fault of the id at a place: it does not rise, or it is none of the list's
abbrev pub id_fault_at : (ids : List ℕ) → List ℕ → (place : ℕ) → Option DecodeFault
id_fault_at ids xs place =
    if rises_at xs place then (if is_among ids (slice_index xs place) then None else Some (UnknownId (slice_index xs place)))
    else Some (NotRising place)

-- this fault, or else that one
abbrev pub or_fault : Option DecodeFault → Option DecodeFault → Option DecodeFault
or_fault None other = other
or_fault (Some fault) other = Some fault

-- the fault at the first of these places that has one
abbrev pub first_fault : (ℕ → Option DecodeFault) → (places : List ℕ) → Option DecodeFault
first_fault fault_at [] = None
first_fault fault_at (place ∷ places) = or_fault (fault_at place) (first_fault fault_at places)

-- the fault of the first position that has one
unfoldable pub position_fault : (count : ℕ) → List ℕ → Option DecodeFault
position_fault count xs = first_fault (position_fault_at count xs) (range_with_len 0 (length xs))

-- the fault of the first id that has one
unfoldable pub id_fault : (ids : List ℕ) → List ℕ → Option DecodeFault
id_fault ids xs = first_fault (id_fault_at ids xs) (range_with_len 0 (length xs))

-- what follows tag 0: a value for each position
unfoldable pub all_checked : {X : Type 0} → (size : ℕ) → (List ℕ → X) → (count : ℕ) → List ℕ → Result (List (ℕ × X)) DecodeFault
all_checked size value_of count text = if_length 1 (count * size) text (Ok (paired size value_of (range_with_len 0 count) text))

-- what follows tag 1: a bit for each position, no bit past them, and a value for each that is set
unfoldable pub bits_checked : {X : Type 0} → (size : ℕ) → (List ℕ → X) → (count : ℕ) → List ℕ → Result (List (ℕ × X)) DecodeFault
bits_checked size value_of count text =
    let width : ℕ = vector_length count in
    let bits : List Bool = unpacked 8 (take width text) in
    let positions : List ℕ = members_from 0 (take count bits) in
    if nat_lt (length text) width then Err (Length (1 + width) (1 + length text))
    else (if list_any (λ bit. bit) (drop count bits) then Err PadBits
    else if_length 1 (width + length positions * size) text (Ok (paired size value_of positions (drop width text))))

-- what follows tag 2: the width, positions of that width, and a value for each
unfoldable pub positions_checked : {X : Type 0} → (size : ℕ) → (List ℕ → X) → (count : ℕ) → List ℕ → Result (List (ℕ × X)) DecodeFault
positions_checked size value_of count [] = Err (Length 2 1)
positions_checked size value_of count (width ∷ text) =
    let updated : ℕ = length text / (width + size) in
    let positions : List ℕ = numbers width updated text in
    if nat_eq width 1 || (nat_eq width 2 || nat_eq width 4)
    then if_length 2 (updated * (width + size)) text (unless_fault (position_fault count positions)
    (if nat_eq width (width_for (greatest_of positions)) then Ok (paired size value_of positions (drop (updated * width) text))
    else Err (Width width)))
    else Err (Width width)

-- what follows tag 3: ids of the list, and a value for each
unfoldable pub ids_checked : {X : Type 0} → (size : ℕ) → (List ℕ → X) → (ids : List ℕ) → List ℕ → Result (List (ℕ × X)) DecodeFault
ids_checked size value_of ids text =
    let updated : ℕ = length text / (4 + size) in
    let named : List ℕ = numbers 4 updated text in
    if_length 1 (updated * (4 + size)) text (unless_fault (id_fault ids named)
    (Ok (paired size value_of (map (place_of ids) named) (drop (updated * 4) text))))

-- what a payload carries for a list with these ids, or the first check that it fails
unfoldable pub checked : {X : Type 0} → (size : ℕ) → (List ℕ → X) → (ids : List ℕ) → List ℕ → Result (List (ℕ × X)) DecodeFault
checked size value_of ids [] = Err Empty
checked size value_of ids (tag ∷ text) =
    if nat_eq tag 0 then all_checked size value_of (length ids) text
    else (if nat_eq tag 1 then bits_checked size value_of (length ids) text
    else (if nat_eq tag 2 then positions_checked size value_of (length ids) text
    else (if nat_eq tag 3 then ids_checked size value_of ids text
    else Err (Tag tag))))
