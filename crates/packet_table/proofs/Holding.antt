-- What the fields of a table of channels say of the table.
use Rattle.std.specs.Prelude.{◌≡◌, ℕ, ◌+◌, ◌-◌, ◌≤◌, ◌<◌, Bool, List, [], ◌++◌, length, take, drop, slice_get, slice_index, Some}
use Rattle.std.specs.List.{slice_index_or}
use Rattle.std.proofs.Common.{arith, sym, ap, ◌∙◌, length-drop}
use Rattle.std.proofs.lemmas.List.{length-take-le, get_or_read_under}
use Rattle.packet_table.specs.declared.channel_spec.ChannelSpec.{ChannelSpec}
use Rattle.packet_table.specs.Table.{Table, IsTable, rooms_of, payload_of, written, with_buffer}
use Rattle.packet_table.specs.Block.{cut, start_of, table_of, IsLaidOut}
use Rattle.packet_table.proofs.Cuts.{start_of-ends, length-cut, slice_get-cut, slice_index_or-cut, map-length-cut, take-cut, length-rooms_of, rooms_of-at}
use Rattle.packet_table.proofs.Overlays.{overlaid_from, overlaid_from-written, cut-overlaid_from, all_overlaid_one}

module _ (specs : List ChannelSpec) (starts lengths block : List ℕ) (flying : List Bool) (flying_count : ℕ) (laid : IsLaidOut specs starts lengths block flying flying_count) where
  -- the fields hold a table
  pub is_table : IsTable (table_of specs flying lengths block)
  is_table = record {
    rise = laid.rise;
    few = laid.few;
    bounded = laid.bounded;
    flights = laid.flights;
    payloads = laid.payloads;
    rooms = map-length-cut (rooms_of specs) block laid.fills;
    fit = laid.fit;
  }

  -- a channel's buffer ends within the block
  ends : (id : ℕ) → id < length specs → slice_index starts id + slice_index (rooms_of specs) id ≤ length block
  ends id h =
      let within : id < length (rooms_of specs) = omega (arith, length-rooms_of specs) in
      omega (arith, laid.started.at id within, start_of-ends (rooms_of specs) id within, laid.fills)

  -- what is read of the starts, of the lengths and of the channels
  start_read : (id x : ℕ) → id < length specs → x ≡ slice_index_or starts id x → x ≡ slice_index starts id
  start_read id x h e = get_or_read_under starts id (length specs) x 0 e h (omega (arith, laid.started.as_many, length-rooms_of specs))

  length_read : (id x : ℕ) → id < length specs → x ≡ slice_index_or lengths id x → x ≡ slice_index lengths id
  length_read id x h e = get_or_read_under lengths id (length specs) x 0 e h (sym laid.payloads)

  -- a payload lies in the block where its start and its length say
  pub payload_lies : (id start len : ℕ) → id < length specs → start ≡ slice_index_or starts id start → len ≡ slice_index_or lengths id len
      → (start + len ≤ length block) × (take (start + len - start) (drop start block) ≡ payload_of (table_of specs flying lengths block) id)
  payload_lies id start len h at long =
      let within : id < length (rooms_of specs) = omega (arith, length-rooms_of specs) in
      let begins = start_read id start h at in
      let lasts = length_read id len h long in
      let place : start ≡ start_of (rooms_of specs) id = begins ∙ laid.started.at id within in
      let count : start + len - start ≡ slice_index lengths id = omega (arith, lasts) in (
        omega (arith, begins, lasts, ends id h, laid.fit id),
        ap (λ n. take n (drop start block)) count
            ∙ ap (λ n. take (slice_index lengths id) (drop n block)) place
            ∙ take-cut (rooms_of specs) block id (slice_index lengths id) within (laid.fit id),
      )

  -- a buffer lies in the block where its start and its channel's room say
  pub buffer_lies : (id start : ℕ) (spec : ChannelSpec) → id < length specs → start ≡ slice_index_or starts id start → spec ≡ slice_index_or specs id spec
      → (spec.room ≡ slice_index (rooms_of specs) id) × (start + spec.room ≤ length block) × (slice_get (cut (rooms_of specs) block) id ≡ Some (take (start + spec.room - start) (drop start block)))
      × (length (take (start + spec.room - start) (drop start block)) ≡ spec.room)
  buffer_lies id start spec h at is =
      let within : id < length (rooms_of specs) = omega (arith, length-rooms_of specs) in
      let begins = start_read id start h at in
      let place : start_of (rooms_of specs) id ≡ start = sym (begins ∙ laid.started.at id within) in
      let room : spec.room ≡ slice_index (rooms_of specs) id = ap (λ s. let s' : ChannelSpec = s in s'.room) is ∙ sym (rooms_of-at specs id spec h) in
      let count : slice_index (rooms_of specs) id ≡ start + spec.room - start = omega (arith, room) in (
        room,
        omega (arith, begins, room, ends id h),
        slice_get-cut (rooms_of specs) block id within
            ∙ ap (λ n. Some (take (slice_index (rooms_of specs) id) (drop n block))) place
            ∙ ap (λ n. Some (take n (drop start block))) count,
        length-take-le (start + spec.room - start) (drop start block) (omega (arith, length-drop start block, begins, room, ends id h)) ∙ omega arith,
      )

  -- the table with bytes written over the block from a channel's start on
  pub table_of-written : (id start n : ℕ) (bytes : List ℕ) → id < length specs → n ≡ length block → start ≡ slice_index_or starts id start
      → let ys = take start block ++ (bytes ++ drop (length bytes) (drop start block)) in
      table_of specs flying lengths (take n (ys ++ drop (length ys) block)) ≡ written (table_of specs flying lengths block) id bytes
  table_of-written id start n bytes h whole at =
      let within : id < length (rooms_of specs) = omega (arith, length-rooms_of specs) in
      let begins = start_read id start h at in
      let starts_in : start ≤ length block = omega (arith, begins, ends id h) in
      let ys = take start block ++ (bytes ++ drop (length bytes) (drop start block)) in
      ap (λ k. table_of specs flying lengths (take k (ys ++ drop (length ys) block))) whole
      ∙ ap (λ l. table_of specs flying lengths l) (overlaid_from-written start bytes block starts_in)
      ∙ ap (λ n. table_of specs flying lengths (overlaid_from n bytes block)) (begins ∙ laid.started.at id within)
      ∙ ap (λ l. let table : Table = record { specs = specs; flying = flying; lengths = lengths; buffers = l } in table) (cut-overlaid_from (rooms_of specs) id bytes block within laid.fills)

  -- as many bytes as a channel has room leave the other buffers
  pub written_one : (id : ℕ) (bytes : List ℕ) → id < length specs → length bytes ≡ slice_index (rooms_of specs) id
      → written (table_of specs flying lengths block) id bytes ≡ with_buffer (table_of specs flying lengths block) id bytes
  written_one id bytes h fits =
      let within : id < length (rooms_of specs) = omega (arith, length-rooms_of specs) in
      let parts = cut (rooms_of specs) block in
      let room : length (slice_index_or parts id []) ≡ slice_index (rooms_of specs) id =
      ap length (slice_index_or-cut (rooms_of specs) block id within)
      ∙ length-take-le (slice_index (rooms_of specs) id) (drop (start_of (rooms_of specs) id) block)
      (omega (arith, length-drop (start_of (rooms_of specs) id) block, start_of-ends (rooms_of specs) id within, laid.fills)) in
      ap (λ l. let table : Table = record { specs = specs; flying = flying; lengths = lengths; buffers = l } in table)
      (all_overlaid_one parts id bytes (omega (arith, length-cut (rooms_of specs) block)) (fits ∙ sym room))
