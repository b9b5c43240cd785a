-- The channels of a partition's division: they rise, and their rooms are not too many bytes.
use Rattle.std.proofs.Common.{◌≡◌, ℕ, zero, suc, ◌^◌, ◌<◌, ◌≤◌, Bool, true, false, ◌||◌, ◌&&◌, ◌==◌, nat_lt, List, [], ◌∷◌, ◌++◌, length, map, replicate, slice_index, slice_index_or, inl, inr, refl, sym, ap, subst, ◌∙◌, arith, length-append}
use Rattle.std.specs.List.{filter, range_with_len, sum}
use Rattle.std.proofs.lemmas.Bool.{or_cases, and_parts, eqb-true}
use Rattle.std.proofs.lemmas.List.{get_or-map, length-map, length-replicate}
use Rattle.std.proofs.lemmas.List.Concat.{length-flat_map}
use Rattle.std.proofs.lemmas.List.Elements.{All-map}
use Rattle.std.proofs.lemmas.List.FromFn.{length-range_with_len}
use Rattle.std.proofs.lemmas.List.Sums.{sum-map, sum_by-le, length-filter, count_by-le-length}
use Rattle.std.proofs.lemmas.Nat.{mul-le}
use borrow.Author.Tests.{ltb-true}
use Rattle.graph_model.specs.Graph.{most_nodes}
use Rattle.graph_division.specs.Division.{Division, hosts_of}
use Rattle.graph_division.specs.Lists.{is_mirror, is_readable, is_writable}
use Rattle.reduce_laws.specs.WordLaws.{IsWordWidth}
use Rattle.packet_table.specs.declared.channel_spec.ChannelSpec.{ChannelSpec}
use Rattle.packet_table.specs.Order.{ComesBefore, Precedes, Rise}
use Rattle.packet_table.specs.Table.{IsTable, rooms_of, fresh}
use Rattle.cluster_laws.specs.Channels.{Leg, Channel, list_of, is_channel, pairs, channels}
use Rattle.cluster_laws.specs.Channels.Leg.{reduce, broadcast}
use Rattle.cluster_laws.specs.Numbers.{comes_before}
use Rattle.cluster_laws.proofs.Numbering.{channels_rise}
use Rattle.round_driver.specs.ClusterState.{leg_in_table, size_on, spec_of}

-- ---- the order of channels

-- a sender and a receiver come before others
by_hosts : (from to from' to' : ℕ) → (nat_lt from from' || (from == from' && nat_lt to to')) ≡ true → (from ≤ from') × (from ≡ from' → to < to')
by_hosts from to from' to' before =
    elim (or_cases (nat_lt from from') (from == from' && nat_lt to to') before) [
      | inl less ↦ let lower = ltb-true from from' less in (omega arith, λ same. absurd (omega arith))
      | inr equal ↦
          let parts = and_parts (from == from') (nat_lt to to') equal in
          let same = eqb-true from from' parts.0 in
          (omega arith, λ _. ltb-true to to' parts.1)
    ]

legs_before : (leg : Leg) (from to : ℕ) (leg' : Leg) (from' to' : ℕ)
    → comes_before (record { leg = leg; from = from; to = to }) (record { leg = leg'; from = from'; to = to' }) ≡ true
    → ComesBefore (leg_in_table leg) from to (leg_in_table leg') from' to'
legs_before reduce from to reduce from' to' before = let hosts = by_hosts from to from' to' before in record { by_leg = omega arith; by_sender = λ _. hosts.0; by_receiver = λ both. hosts.1 both.1 }
legs_before reduce from to broadcast from' to' before = record { by_leg = omega arith; by_sender = λ same. absurd (omega arith); by_receiver = λ both. let same = both.0 in absurd (omega arith) }
legs_before broadcast from to reduce from' to' before = absurd (cc)
legs_before broadcast from to broadcast from' to' before = let hosts = by_hosts from to from' to' before in record { by_leg = omega arith; by_sender = λ _. hosts.0; by_receiver = λ both. hosts.1 both.1 }

module _ (item_size shown_size : ℕ) (division : Division) where
  pub specs_rise : Rise (map (spec_of item_size shown_size division) (channels division))
  specs_rise = λ i j d less within.
      let long = length-map (channels division) (spec_of item_size shown_size division) in
      let none : Channel = record { leg = reduce; from = 0; to = 0 } in
      let first = get_or-map (spec_of item_size shown_size division) (channels division) i none d (omega arith) in
      let second = get_or-map (spec_of item_size shown_size division) (channels division) j none d (omega arith) in
      let a = slice_index_or (channels division) i none in
      let b = slice_index_or (channels division) j none in
      subst (λ (x : ChannelSpec). Precedes x (slice_index_or (map (spec_of item_size shown_size division) (channels division)) j d)) (sym first)
      (subst (λ (y : ChannelSpec). Precedes (spec_of item_size shown_size division a) y) (sym second)
      (legs_before a.leg a.from a.to b.leg b.from b.to (channels_rise division i j none less (omega arith))))

-- ---- how many there are, and their rooms

pub width_fits : (width : ℕ) → IsWordWidth width → width ≤ 8
width_fits width is = elim is [ inl one ↦ omega arith | inr more ↦ elim more [ inl four ↦ omega arith | inr eight ↦ omega arith ] ]

picked_short : (p : ℕ → Bool) (nodes : ℕ) → length (filter p (range_with_len 0 nodes)) ≤ nodes
picked_short p nodes = omega (arith, length-filter p (range_with_len 0 nodes), count_by-le-length p (range_with_len 0 nodes), length-range_with_len 0 nodes)

-- a list of a division has no more vertices than the division
pub list_short : (division : Division) (leg : Leg) (from to : ℕ) → length (list_of division leg from to) ≤ division.nodes
list_short division reduce from to = picked_short (λ v. division.master v == to && (is_mirror division from v && is_writable division from v)) division.nodes
list_short division broadcast from to = picked_short (λ v. division.master v == from && (is_mirror division to v && is_readable division to v)) division.nodes

module _ (item_size shown_size : ℕ) (division : Division) (few_hosts : division.hosts ≤ 64) where
  made : Leg → ℕ → ℕ → Channel
  made leg from to = record { leg = leg; from = from; to = to }

  row_long : (leg : Leg) (from : ℕ) → length (map (made leg from) (hosts_of division)) ≤ 64
  row_long leg from = omega (arith, length-map (hosts_of division) (made leg from), length-range_with_len 0 division.hosts)

  pairs_few : (leg : Leg) → length (pairs division leg) ≤ 4096
  unfolding made
  pairs_few leg =
      let hosts = length-range_with_len 0 division.hosts in
      let long = length-flat_map (λ from. map (made leg from) (hosts_of division)) (hosts_of division) in
      let most = sum_by-le (λ from. length (map (made leg from) (hosts_of division))) 64 (hosts_of division) (λ k d within. row_long leg (slice_index_or (hosts_of division) k d)) in
      omega arith

  pub channels_few : length (channels division) ≤ 8192
  channels_few =
      let all = length-append (pairs division reduce) (pairs division broadcast) in
      let picked = length-filter (is_channel division) (pairs division reduce ++ pairs division broadcast) in
      let most = count_by-le-length (is_channel division) (pairs division reduce ++ pairs division broadcast) in
      let first = pairs_few reduce in
      let second = pairs_few broadcast in
      omega arith

  pub specs_few : length (map (spec_of item_size shown_size division) (channels division)) ≤ 8192
  specs_few = let long = length-map (channels division) (spec_of item_size shown_size division) in let few = channels_few in omega arith

  room_fits : division.nodes ≤ most_nodes → item_size ≤ 8 → shown_size ≤ 8 → (channel : Channel) → (spec_of item_size shown_size division channel).room ≤ 134217729
  room_fits few_nodes item shown channel =
      let short = list_short division channel.leg channel.from channel.to in
      let product = mul-le (length (list_of division channel.leg channel.from channel.to)) (size_on item_size shown_size channel.leg) most_nodes 8 (omega arith) (size_fits channel.leg) in
      omega arith
    where
      size_fits : (leg : Leg) → size_on item_size shown_size leg ≤ 8
      size_fits reduce = item
      size_fits broadcast = shown

  pub rooms_fit : division.nodes ≤ most_nodes → item_size ≤ 8 → shown_size ≤ 8 → sum (rooms_of (map (spec_of item_size shown_size division) (channels division))) < 2 ^ 63
  rooms_fit few_nodes item shown =
      let specs = map (spec_of item_size shown_size division) (channels division) in
      let total = sum-map (λ (spec : ChannelSpec). spec.room) specs in
      let most = sum_by-le (λ (spec : ChannelSpec). spec.room) 134217729 specs
      (All-map (λ (spec : ChannelSpec). spec.room ≤ 134217729) (spec_of item_size shown_size division) (channels division) (λ k d within. room_fits few_nodes item shown (slice_index_or (channels division) k d))) in
      let few = specs_few in
      omega arith

-- ---- a fresh table

slice_index-zeros : (n k : ℕ) → slice_index (replicate n 0) k ≡ 0
slice_index-zeros zero k = refl
slice_index-zeros (suc n) zero = refl
slice_index-zeros (suc n) (suc k) = slice_index-zeros n k

zeros_long : (rooms : List ℕ) → map (length {A = ℕ}) (map (λ room. replicate room 0) rooms) ≡ rooms
zeros_long [] = refl
zeros_long (room ∷ rooms) = ap (λ n. n ∷ map (length {A = ℕ}) (map (λ r. replicate r 0) rooms)) (length-replicate room 0) ∙ ap (λ l. room ∷ l) (zeros_long rooms)

pub fresh_is_table : (specs : List ChannelSpec) → Rise specs → length specs < 2 ^ 32 → sum (rooms_of specs) < 2 ^ 63 → IsTable (fresh specs)
fresh_is_table specs rise few bounded = record {
  rise = rise;
  few = few;
  bounded = bounded;
  flights = length-replicate (length specs) false;
  payloads = length-replicate (length specs) 0;
  rooms = zeros_long (rooms_of specs);
  fit = λ id. omega (arith, slice_index-zeros (length specs) id);
}
