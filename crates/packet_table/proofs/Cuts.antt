-- Parts of a block that lie one behind the other.
use Rattle.std.specs.Prelude.{◌≡◌, ℕ, ◌+◌, ◌-◌, ◌≤◌, ◌<◌, List, [], ◌∷◌, ◌++◌, length, map, sum, take, drop, replicate, slice_get, slice_index, Some, refl}
use Rattle.std.specs.List.{slice_index_or}
use Rattle.std.proofs.Common.{arith, suc, zero, inl, inr, sym, ap, ◌∙◌, length-drop}
use Rattle.std.proofs.Math.Seq.{get_or-append_seam}
use Rattle.std.proofs.lemmas.Bool.{cases_lt}
use Rattle.std.proofs.lemmas.List.{get_or-map, length-map, get_or_append_left, drop-drop, length-take-le, take-take, take-replicate, drop-replicate}
use Rattle.std.proofs.lemmas.List.Sums.{sum_by-cons, sum_by_more, sum_by_more_le}
use Rattle.std.proofs.lemmas.Option.{get_or_from_slice_get}
use Rattle.packet_table.specs.declared.channel_spec.ChannelSpec.{ChannelSpec}
use Rattle.packet_table.specs.declared.channel_spec.Leg.TheVariants.{Reduce}
use Rattle.packet_table.specs.Table.{rooms_of}
use Rattle.packet_table.specs.Block.{cut, start_of}

-- ---- where parts start

-- the first room is part of the sum
pub sum-cons : (room : ℕ) (rooms : List ℕ) → sum (room ∷ rooms) ≡ room + sum rooms
sum-cons room rooms = sum_by-cons (λ x. x) room rooms

-- behind the first part, each part starts that much later
pub start_of-suc : (room : ℕ) (rooms : List ℕ) (id : ℕ) → start_of (room ∷ rooms) (suc id) ≡ room + start_of rooms id
start_of-suc room rooms id = sum-cons room (take id rooms)

-- the next part starts where this one ends
pub start_of-next : (rooms : List ℕ) (id : ℕ) → id < length rooms → start_of rooms (id + 1) ≡ start_of rooms id + slice_index rooms id
start_of-next rooms id h = sum_by_more (λ x. x) rooms id 0 h

-- each part ends within the block
pub start_of-ends : (rooms : List ℕ) (id : ℕ) → id < length rooms → start_of rooms id + slice_index rooms id ≤ sum rooms
start_of-ends rooms id h = sum_by_more_le (λ x. x) rooms id 0 h

-- what a place past the last channel is read as
abbrev pub no_channel : ChannelSpec
no_channel = record { leg = Reduce; from = 0; to = 0; room = 0 }

-- a room by the channel that has it
pub rooms_of-at : (specs : List ChannelSpec) (id : ℕ) (d : ChannelSpec) → id < length specs → slice_index (rooms_of specs) id ≡ (slice_index_or specs id d).room
rooms_of-at specs id d h = get_or-map (λ spec. spec.room) specs id d 0 h

pub length-rooms_of : (specs : List ChannelSpec) → length (rooms_of specs) ≡ length specs
length-rooms_of specs = length-map specs (λ spec. spec.room)

-- one start more
pub starts_more : (rooms starts : List ℕ) (id : ℕ) → length starts ≡ id → ((k : ℕ) → k < id → slice_index starts k ≡ start_of rooms k)
    → (k : ℕ) → k < id + 1 → slice_index (starts ++ start_of rooms id ∷ []) k ≡ start_of rooms k
starts_more rooms starts id many so_far k h =
    let next = start_of rooms id in
    elim (cases_lt k id) [
      | inl less ↦ get_or_append_left starts (next ∷ []) 0 k (omega arith) ∙ so_far k less
      | inr more ↦
          let here : length starts ≡ k = omega arith in
          let same : id ≡ k = omega arith in
          ap (λ n. slice_index (starts ++ next ∷ []) n) (sym here) ∙ get_or-append_seam starts next [] 0 ∙ ap (λ n. start_of rooms n) same
    ]

-- ---- the parts

pub length-cut : (rooms block : List ℕ) → length (cut rooms block) ≡ length rooms
length-cut [] block = refl
length-cut (room ∷ rooms) block = ap suc (length-cut rooms (drop room block))

-- the part of a number has its room from its start on
pub slice_get-cut : (rooms block : List ℕ) (id : ℕ) → id < length rooms → slice_get (cut rooms block) id ≡ Some (take (slice_index rooms id) (drop (start_of rooms id) block))
slice_get-cut [] block id h = absurd (omega arith)
slice_get-cut (room ∷ rooms) block zero h = refl
slice_get-cut (room ∷ rooms) block (suc id) h =
    let here = slice_get-cut rooms (drop room block) id (omega arith) in
    let later = drop-drop (start_of rooms id) room block ∙ ap (λ n. drop n block) (sym (start_of-suc room rooms id)) in
    here ∙ ap (λ l. Some (take (slice_index rooms id) l)) later

pub slice_index_or-cut : (rooms block : List ℕ) (id : ℕ) → id < length rooms → slice_index_or (cut rooms block) id [] ≡ take (slice_index rooms id) (drop (start_of rooms id) block)
slice_index_or-cut rooms block id h =
    get_or_from_slice_get (cut rooms block) id (take (slice_index rooms id) (drop (start_of rooms id) block)) [] (slice_get-cut rooms block id h)

-- what remains behind the first part has the other rooms
pub drop_first : (room : ℕ) (rooms block : List ℕ) → length block ≡ sum (room ∷ rooms) → length (drop room block) ≡ sum rooms
drop_first room rooms block h = omega (arith, sum-cons room rooms, length-drop room block)

-- each part is as long as its room
pub map-length-cut : (rooms block : List ℕ) → length block ≡ sum rooms → map length (cut rooms block) ≡ rooms
map-length-cut [] block h = refl
map-length-cut (room ∷ rooms) block h =
    let first : length (take room block) ≡ room = length-take-le room block (omega (arith, sum-cons room rooms)) in
    let others = map-length-cut rooms (drop room block) (drop_first room rooms block h) in
    ap (λ n. n ∷ map length (cut rooms (drop room block))) first ∙ ap (λ l. room ∷ l) others

-- a block of zeros is cut into parts of zeros
pub cut-zeros : (rooms : List ℕ) (n : ℕ) → n ≡ sum rooms → cut rooms (replicate n 0) ≡ map (λ room. replicate room 0) rooms
cut-zeros [] n h = refl
cut-zeros (room ∷ rooms) n h =
    let fits : room ≤ n = omega (arith, sum-cons room rooms) in
    let left : n - room ≡ sum rooms = omega (arith, sum-cons room rooms) in
    ap (λ l. l ∷ cut rooms (drop room (replicate n 0))) (take-replicate room n 0 fits)
    ∙ ap (λ l. replicate room 0 ∷ cut rooms l) (drop-replicate room n 0)
    ∙ ap (λ l. replicate room 0 ∷ l) (cut-zeros rooms (n - room) left)

-- the front of a part, read from the block
pub take-cut : (rooms block : List ℕ) (id len : ℕ) → id < length rooms → len ≤ slice_index rooms id → take len (drop (start_of rooms id) block) ≡ take len (slice_index_or (cut rooms block) id [])
take-cut rooms block id len h fits =
    sym (take-take len (slice_index rooms id) (drop (start_of rooms id) block) fits)
    ∙ ap (λ l. take len l) (sym (slice_index_or-cut rooms block id h))
