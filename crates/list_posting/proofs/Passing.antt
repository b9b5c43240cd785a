-- What a host has posted when it has passed some of its peers.
use Rattle.std.proofs.Common.{◌≡◌, ◌≢◌, ℕ, ◌+◌, ◌*◌, ◌<◌, ◌≤◌, Bool, true, false, List, [], ◌∷◌, length, take, Some, arith, refl, sym, ap, ◌∙◌, subst, inl, inr}
use Rattle.std.specs.Prelude.{◌==◌, ◌&&◌, ◌||◌, nat_lt, slice_get, slice_index}
use Rattle.std.proofs.lemmas.Bool.{false≢true, false_from_ne_true, and_parts, and_from, and_right, or_parts, or_from, cases_Bool, cases_eq, cases_order, cases_lt, eqb-true, eq-eqb, ne_eqb, lt-ltb, le-ltb}
use Rattle.std.proofs.lemmas.List.{get_or-set_other, get_or_past, length-map}
use Rattle.std.proofs.lemmas.Grind.{get_or-set_at}
use Rattle.list_laws.specs.Members.{has_member}
use Rattle.list_laws.proofs.Members.{has_member-with_same, has_member-with_other}
use Rattle.address_memo.specs.Memos.{Proxies, list_at, none}
use Rattle.field_encodings.specs.Packets.{packet_at, bytes_of_packet}
use Rattle.packet_table.specs.declared.channel_spec.Leg.{Leg}
use Rattle.packet_table.specs.declared.channel_spec.Leg.TheVariants.{Reduce, Spread}
use Rattle.packet_table.specs.declared.channel_spec.ChannelSpec.{ChannelSpec}
use Rattle.packet_table.specs.Order.{leg_place, Joins, IsChannelAt}
use Rattle.packet_table.specs.Table.{Table, IsTable, rooms_of, buffer_of, posted, with_buffer}
use Rattle.cluster_laws.specs.Channels.{is_needed}
use Rattle.host_state.specs.Posting.{posts_on, HasRoom, Posts}
use Rattle.list_posting.specs.Steps.{posts_to, packets_of, PostsWhere}
use Rattle.list_posting.proofs.Numbers.{channel_at, one_place}

-- ---- one post

same_leg : (a b : Leg) → (leg_place a == leg_place b) ≡ true → a ≡ b
same_leg Reduce Reduce h = refl
same_leg Reduce Spread h = absurd (false≢true h)
same_leg Spread Reduce h = absurd (false≢true h)
same_leg Spread Spread h = refl

-- a host that posts on a channel for a peer posts on its channel to that peer
joins_where : (leg : Leg) (from : ℕ) (lists : List Proxies) (to : ℕ) (spec : ChannelSpec) → posts_to leg from lists to spec ≡ true → Joins leg from to spec
joins_where leg from lists to spec h =
    let needed = is_needed (list_at lists spec.to).globals in
    let both = and_parts (posts_on leg from lists spec) (spec.to == to) h in
    let on = and_parts (leg_place spec.leg == leg_place leg) (spec.from == from && needed) both.0 in
    record {
      of_leg = same_leg spec.leg leg on.0;
      of_sender = eqb-true spec.from from (and_parts (spec.from == from) needed on.1).0;
      of_receiver = eqb-true spec.to to both.1;
    }

-- and on that it does, where the list is not empty
posts_where : (leg : Leg) (from : ℕ) (lists : List Proxies) (to : ℕ) (spec : ChannelSpec) → Joins leg from to spec → is_needed (list_at lists to).globals ≡ true → posts_to leg from lists to spec ≡ true
posts_where leg from lists to spec joins some =
    let needed = is_needed (list_at lists spec.to).globals in
    let has : needed ≡ true = ap (λ n. is_needed (list_at lists n).globals) joins.of_receiver ∙ some in
    let of_leg = eq-eqb (leg_place spec.leg) (leg_place leg) (ap leg_place joins.of_leg) in
    let of_sender = eq-eqb spec.from from joins.of_sender in
    and_from (posts_on leg from lists spec) (spec.to == to)
    (and_from (leg_place spec.leg == leg_place leg) (spec.from == from && needed) of_leg (and_from (spec.from == from) needed of_sender has))
    (eq-eqb spec.to to joins.of_receiver)

-- a host that writes a packet into its channel's buffer and posts it has posted that packet, and no other
pub posted_one : (leg : Leg) (from : ℕ) (lists : List Proxies) (to : ℕ) (bytes : ℕ → List ℕ) (table : Table) (id len : ℕ) (buffer : List ℕ)
    → IsTable table → IsChannelAt table.specs id leg from to → is_needed (list_at lists to).globals ≡ true → take len buffer ≡ bytes to
    → PostsWhere (posts_to leg from lists to) bytes table (posted (with_buffer table id buffer) id len)
posted_one leg from lists to bytes table id len buffer is_table at_id some packet =
    let picks = posts_to leg from lists to in
    let new = posted (with_buffer table id buffer) id len in
    let channel = channel_at table.specs id leg from to at_id in
    let many : length table.buffers ≡ length table.specs = sym (length-map table.buffers length) ∙ ap length is_table.rooms ∙ length-map table.specs (λ spec. spec.room) in
    let in_flying : id < length table.flying = omega (arith, channel.1, is_table.flights) in
    let in_lengths : id < length table.lengths = omega (arith, channel.1, is_table.payloads) in
    let in_buffers : id < length table.buffers = omega (arith, channel.1, many) in
    let is_there : (k : ℕ) (spec : ChannelSpec) → slice_get table.specs k ≡ Some spec → picks spec ≡ true → k ≡ id
    = λ k spec at pick. one_place table.specs leg from to k id spec channel.0 is_table.rise at channel.2 (joins_where leg from lists to spec pick) channel.3 in
    let here : (k : ℕ) (spec : ChannelSpec) → slice_get table.specs k ≡ Some spec → k ≡ id → picks spec ≡ true
    = λ k spec at same.
    let is : channel.0 ≡ spec = (let both : Some channel.0 ≡ Some spec = sym channel.2 ∙ ap (λ n. slice_get table.specs n) (sym same) ∙ at in cc) in
    posts_where leg from lists to spec (subst (λ s. Joins leg from to s) is channel.3) some in
    record {
      same_specs = refl;
      in_flight = λ k spec at. elim (cases_eq k id) [
        | inl same ↦ ap (λ n. has_member new.flying n) same ∙ has_member-with_same table.flying id in_flying ∙ sym (ap (λ b. b || has_member table.flying k) (here k spec at same))
        | inr other ↦ has_member-with_other table.flying id k other
            ∙ sym (ap (λ b. b || has_member table.flying k) (false_from_ne_true (picks spec) (λ pick. other (is_there k spec at pick))))
      ];
      payloads = λ k spec at pick.
          let same = is_there k spec at pick in
          ap (λ n. take n (buffer_of new k)) (get_or-set_at table.lengths id k len 0 same in_lengths)
          ∙ ap (λ l. take len l) (get_or-set_at table.buffers id k buffer [] same in_buffers)
          ∙ packet
          ∙ ap bytes (sym (joins_where leg from lists to spec pick).of_receiver);
      others = λ k spec at off.
          let other : k ≢ id = λ same. false≢true (sym off ∙ here k spec at same) in
          (get_or-set_other table.lengths id k len 0 other, get_or-set_other table.buffers id k buffer [] other);
    }

-- the packet of a list, from what is read of it and what is written of the table
pub posted_packet : {X : Type 0} (size : ℕ) (bytes_of : X → List ℕ) (leg : Leg) (from : ℕ) (lists : List Proxies) (to : ℕ) (values : List X) (bits : List Bool)
    (list : Proxies) (locals globals : List ℕ) (table lent new : Table) (id len : ℕ) (buffer : List ℕ)
    → list ≡ list_at lists to → locals ≡ list.locals → globals ≡ list.globals
    → IsTable table → IsChannelAt table.specs id leg from to → is_needed (list_at lists to).globals ≡ true
    → take len buffer ≡ bytes_of_packet size bytes_of (packet_at values locals globals bits)
    → lent ≡ with_buffer table id buffer → new ≡ posted lent id len
    → PostsWhere (posts_to leg from lists to) (packets_of size bytes_of lists values bits) table new
posted_packet size bytes_of leg from lists to values bits list locals globals table lent new id len buffer is_list are_locals are_globals is_table at_id some packet is_lent is_new =
    let written : take len buffer ≡ packets_of size bytes_of lists values bits to
    = packet
    ∙ ap (λ ids. bytes_of_packet size bytes_of (packet_at values ids globals bits)) are_locals
    ∙ ap (λ ids. bytes_of_packet size bytes_of (packet_at values list.locals ids bits)) are_globals
    ∙ ap (λ (l : Proxies). bytes_of_packet size bytes_of (packet_at values l.locals l.globals bits)) is_list in
    let same : new ≡ posted (with_buffer table id buffer) id len = is_new ∙ ap (λ t. posted t id len) is_lent in
    subst (λ t. PostsWhere (posts_to leg from lists to) (packets_of size bytes_of lists values bits) table t) (sym same)
    (posted_one leg from lists to (packets_of size bytes_of lists values bits) table id len buffer is_table at_id some written)

-- a list that is not empty has an id
pub needed_some : (ids : List ℕ) → (length ids == 0) ≡ false → is_needed ids ≡ true
needed_some [] h = absurd (false≢true (sym h))
needed_some (id ∷ ids) h = refl

pub list_needed : (lists : List Proxies) (to : ℕ) (list : Proxies) (globals : List ℕ) → list ≡ list_at lists to → globals ≡ list.globals → (length globals == 0) ≡ false
    → is_needed (list_at lists to).globals ≡ true
list_needed lists to list globals is_list are_globals some =
    sym (ap is_needed are_globals ∙ ap (λ (l : Proxies). is_needed l.globals) is_list) ∙ needed_some globals some

-- a packet has as many bytes at most as the list's channel has room for
pub packet_fits : (size : ℕ) (lists : List Proxies) (to : ℕ) (list : Proxies) (globals : List ℕ) (room : ℕ) → list ≡ list_at lists to → globals ≡ list.globals
    → 1 + length (list_at lists to).globals * size ≤ room → 1 + length globals * size ≤ room
packet_fits size lists to list globals room is_list are_globals fits =
    let same : globals ≡ (list_at lists to).globals = are_globals ∙ ap (λ (l : Proxies). l.globals) is_list in
    subst (λ ids. 1 + length ids * size ≤ room) (sym same) fits

-- a channel with room for many bytes has room for none
pub has_room_least : (leg : Leg) (from to size : ℕ) (table : Table) → HasRoom leg from to size table → HasRoom leg from to 0 table
has_room_least leg from to size table room = record { id = room.id; is_channel = room.is_channel; fits = omega arith; rests = room.rests }

-- ---- one post after the other

posts_either : (a b c m : Bool) → c ≡ (b || a) → (b || (a || m)) ≡ (c || m)
posts_either a true c m h = sym (ap (λ x. x || m) h)
posts_either a false c m h = sym (ap (λ x. x || m) h)

-- what was posted first stays where nothing is posted next
pub posts_then : (a b c : ChannelSpec → Bool) (bytes more : ℕ → List ℕ) (first second third : Table)
    → PostsWhere a bytes first second → PostsWhere b more second third
    → ((spec : ChannelSpec) → c spec ≡ (b spec || a spec)) → ((spec : ChannelSpec) → b spec ≡ true → more spec.to ≡ bytes spec.to)
    → PostsWhere c bytes first third
posts_then a b c bytes more first second third before after either same_bytes = record {
  same_specs = after.same_specs ∙ before.same_specs;
  in_flight = λ id spec at.
      let later : slice_get second.specs id ≡ Some spec = ap (λ s. slice_get s id) before.same_specs ∙ at in
      after.in_flight id spec later ∙ ap (λ x. b spec || x) (before.in_flight id spec at) ∙ posts_either (a spec) (b spec) (c spec) (has_member first.flying id) (either spec);
  payloads = λ id spec at pick.
      let later : slice_get second.specs id ≡ Some spec = ap (λ s. slice_get s id) before.same_specs ∙ at in
      elim (cases_Bool (b spec)) [
        | inl next ↦ after.payloads id spec later next ∙ same_bytes spec next
        | inr not_next ↦
            let stays = after.others id spec later not_next in
            let was : a spec ≡ true = sym (ap (λ x. x || a spec) not_next) ∙ sym (either spec) ∙ pick in
            ap (λ n. take n (buffer_of third id)) stays.0 ∙ ap (λ l. take (slice_index second.lengths id) l) stays.1 ∙ before.payloads id spec at was
      ];
  others = λ id spec at off.
      let later : slice_get second.specs id ≡ Some spec = ap (λ s. slice_get s id) before.same_specs ∙ at in
      let neither = or_parts (b spec) (a spec) (sym (either spec) ∙ off) in
      let stays = after.others id spec later neither.0 in
      let stayed = before.others id spec at neither.1 in
      (stays.0 ∙ stayed.0, stays.1 ∙ stayed.1);
}

-- ---- the peers in turn

-- whether a host has posted on a channel when it has passed the peers below one
abbrev pub posts_below : Leg → (from : ℕ) → List Proxies → (peer : ℕ) → ChannelSpec → Bool
posts_below leg from lists peer spec = posts_on leg from lists spec && nat_lt spec.to peer

one_more_peer : (on : Bool) (to peer : ℕ) → (on && nat_lt to (peer + 1)) ≡ ((on && to == peer) || (on && nat_lt to peer))
one_more_peer false to peer = refl
one_more_peer true to peer =
    elim (cases_order to peer) [
      | inl same ↦ lt-ltb to (peer + 1) (omega arith) ∙ sym (ap (λ x. x || nat_lt to peer) (eq-eqb to peer same))
      | inr (inl less) ↦ lt-ltb to (peer + 1) (omega arith) ∙ sym (ap (λ x. x || nat_lt to peer) (ne_eqb to peer (λ e. omega arith)) ∙ lt-ltb to peer less)
      | inr (inr more) ↦ le-ltb to (peer + 1) (omega arith) ∙ sym (ap (λ x. x || nat_lt to peer) (ne_eqb to peer (λ e. omega arith)) ∙ le-ltb to peer (omega arith))
    ]

-- one more peer is passed
pub passed_more : (leg : Leg) (from : ℕ) (lists : List Proxies) (peer : ℕ) (bytes more : ℕ → List ℕ) (first second third : Table)
    → PostsWhere (posts_below leg from lists peer) bytes first second → PostsWhere (posts_to leg from lists peer) more second third
    → more peer ≡ bytes peer
    → PostsWhere (posts_below leg from lists (peer + 1)) bytes first third
passed_more leg from lists peer bytes more first second third before after same =
    posts_then (posts_below leg from lists peer) (posts_to leg from lists peer) (posts_below leg from lists (peer + 1)) bytes more first second third before after
    (λ spec. one_more_peer (posts_on leg from lists spec) spec.to peer)
    (λ spec pick. let to = (joins_where leg from lists peer spec pick).of_receiver in ap more to ∙ same ∙ sym (ap bytes to))

-- the peers that are not yet passed can be posted for as before
pub still_ready : (leg : Leg) (from : ℕ) (lists : List Proxies) (peer size : ℕ) (bytes : ℕ → List ℕ) (old new : Table)
    → PostsWhere (posts_below leg from lists peer) bytes old new → HasRoom leg from peer size old → HasRoom leg from peer size new
still_ready leg from lists peer size bytes old new passed room =
    let channel = channel_at old.specs room.id leg from peer room.is_channel in
    let spec : ChannelSpec = channel.0 in
    let not_yet : posts_below leg from lists peer spec ≡ false = and_right (posts_on leg from lists spec) (nat_lt spec.to peer) (le-ltb spec.to peer (omega (arith, channel.3.of_receiver))) in
    record {
      id = room.id;
      is_channel = subst (λ specs. IsChannelAt specs room.id leg from peer) (sym passed.same_specs) room.is_channel;
      fits = subst (λ specs. size ≤ slice_index (rooms_of specs) room.id) (sym passed.same_specs) room.fits;
      rests = passed.in_flight room.id spec channel.2 ∙ or_from (posts_below leg from lists peer spec) (has_member old.flying room.id) not_yet room.rests;
    }

-- a host posts for no peer that has no list
below_all : (leg : Leg) (from : ℕ) (lists : List Proxies) (hosts : ℕ) (spec : ChannelSpec) → length lists ≡ hosts → posts_on leg from lists spec ≡ true → spec.to < hosts
below_all leg from lists hosts spec many on =
    elim (cases_lt spec.to hosts) [
      | inl less ↦ less
      | inr past ↦
          let needed = is_needed (list_at lists spec.to).globals in
          let both = and_parts (leg_place spec.leg == leg_place leg) (spec.from == from && needed) on in
          let has : needed ≡ true = (and_parts (spec.from == from) needed both.1).1 in
          let empty : list_at lists spec.to ≡ none = get_or_past lists spec.to none (omega arith) in
          absurd (false≢true (sym (ap (λ (list : Proxies). is_needed list.globals) empty) ∙ has))
    ]

-- once all peers are passed the host has posted what it has to
pub passed_all : (leg : Leg) (from : ℕ) (lists : List Proxies) (hosts : ℕ) (bytes : ℕ → List ℕ) (old new : Table) → length lists ≡ hosts
    → PostsWhere (posts_below leg from lists hosts) bytes old new → Posts leg from lists bytes old new
passed_all leg from lists hosts bytes old new many passed =
    let all : (spec : ChannelSpec) → posts_below leg from lists hosts spec ≡ posts_on leg from lists spec
    = λ spec. elim (cases_Bool (posts_on leg from lists spec)) [
      | inl on ↦ and_from (posts_on leg from lists spec) (nat_lt spec.to hosts) on (lt-ltb spec.to hosts (below_all leg from lists hosts spec many on)) ∙ sym on
      | inr off ↦ ap (λ b. b && nat_lt spec.to hosts) off ∙ sym off
    ] in
    record {
      same_specs = passed.same_specs;
      in_flight = λ id spec at. passed.in_flight id spec at ∙ ap (λ b. b || has_member old.flying id) (all spec);
      payloads = λ id spec at pick. passed.payloads id spec at (all spec ∙ pick);
      others = λ id spec at off. passed.others id spec at (all spec ∙ off);
    }
