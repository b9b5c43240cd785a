-- What a host posts by its own lists are a round's packets.
use Rattle.std.proofs.Common.{◌≡◌, ℕ, ◌<◌, Bool, true, not, ◌&&◌, ◌||◌, ◌==◌, Some, List, length, map, get_or, slice_index, slice_get, sym, ap, subst, ◌∙◌, arith, inl, inr}
use Rattle.std.specs.List.{All, range_with_len, slice_index_or}
use Rattle.std.proofs.lemmas.Bool.{cases_lt, both_ways, and_parts}
use Rattle.std.proofs.lemmas.List.{ext_get_or, get_or_default, get_or-map, get_or_past, length-map}
use Rattle.std.proofs.lemmas.List.Elements.{All-map, All-weaker, filter_passes}
use Rattle.std.proofs.lemmas.List.FromFn.{get_or-map-range_with_len}
use Rattle.std.proofs.lemmas.Option.{slice_get-get_or, slice_get_within, get_or_from_slice_get}
use Rattle.list_laws.specs.Among.{is_among}
use Rattle.list_laws.specs.Members.{members_from}
use Rattle.field_encodings.specs.Lengths.{greatest_of, sent_tag}
use Rattle.field_encodings.specs.Forms.{form}
use Rattle.graph_division.specs.Division.{Division}
use Rattle.graph_division.specs.Lists.{is_readable, is_writable, is_mirror, reduce_list, broadcast_list}
use Rattle.graph_division.specs.Shares.{Share, seen, nodes_of, masters_here, proxies_here}
use Rattle.graph_division.proofs.PrunedLists.{picked_below}
use Rattle.graph_model.specs.declared.edge.Way.{Way}
use Rattle.proxy_graph.specs.Heads.{lid_of}
use Rattle.proxy_graph.proofs.Lids.{place_is}
use Rattle.address_memo.specs.Memos.{Proxies, none, list_at, proxies_of, own_reduce, AreMasters}
use Rattle.address_memo.proofs.Filters.{map_back}
use Rattle.address_memo.proofs.Mirrors.{length_proxies, vertex_of_master}
use Rattle.packet_table.specs.declared.channel_spec.Leg.{Leg}
use Rattle.packet_table.specs.Order.{leg_place}
use Rattle.packet_table.specs.Table.{Table}
use Rattle.round_packets.specs.Packets.{Packet, bytes_of_packet}
use Rattle.cluster_laws.specs.Channels.{is_needed}
use Rattle.cluster_laws.specs.Posting.{AreLocals, IsPacket}
use Rattle.field_encodings.specs.Packets as field_packets
use Rattle.host_state.specs.HostState.{HostState, IsHost}
use Rattle.host_state.specs.Serving.{Serves}
use Rattle.host_state.specs.Posting.{Posts}
use Rattle.serving_laws.proofs.Proxies.{among_proxies, reduces_here, vertex_is}
use Rattle.serving_laws.proofs.Knowing.{knows}

-- the bytes of a list of ids, its marks and its values
abbrev bytes_from : {X : Type 0} → ℕ → (X → List ℕ) → List ℕ → List Bool → List X → List ℕ
bytes_from size bytes_of ids marks values =
    form bytes_of (sent_tag (length ids) (length (members_from 0 marks)) (greatest_of (members_from 0 marks)) size) ids marks values

-- the bytes of the marks and values of a packet are the packet's
pub same_bytes : {X : Type 0} (size : ℕ) (bytes_of : X → List ℕ) (packet : Packet X) (ids : List ℕ) (marks : List Bool) (values : List X) → ids ≡ packet.ids → IsPacket packet marks values
    → field_packets.bytes_of_packet size bytes_of (record { ids = ids; marks = marks; values = values }) ≡ bytes_of_packet size bytes_of packet
same_bytes {X} size bytes_of packet ids marks values same is =
    ap (λ (l : List ℕ). bytes_from size bytes_of l marks values) same
    ∙ ap (λ (l : List Bool). bytes_from size bytes_of packet.ids l values) (sym is.same_marks)
    ∙ ap (λ (l : List X). bytes_from size bytes_of packet.ids (map packet.updated packet.ids) l) (sym is.same_values)

-- a list that is needed is one of the lists
needed_within : (lists : List Proxies) (to : ℕ) → is_needed (list_at lists to).globals ≡ true → to < length lists
needed_within lists to needed =
    elim (cases_lt to (length lists)) [
      | inl within ↦ within
      | inr past ↦ absurd (both_ways (is_needed (list_at lists to).globals) (ap (λ (list : Proxies). is_needed list.globals) (get_or_past lists to none past)) needed)
    ]

-- what was posted may be told by other bytes, where these are the same for each list
pub posts_alike : (leg : Leg) (from : ℕ) (lists : List Proxies) (bytes others : ℕ → List ℕ) (old new : Table)
    → ((to : ℕ) → to < length lists → bytes to ≡ others to) → Posts leg from lists bytes old new → Posts leg from lists others old new
posts_alike leg from lists bytes others old new same posts = record {
  same_specs = posts.same_specs;
  in_flight = posts.in_flight;
  payloads = λ id spec at on.
      let parts = and_parts (leg_place spec.leg == leg_place leg) (spec.from == from && is_needed (list_at lists spec.to).globals) on in
      let needed = and_parts (spec.from == from) (is_needed (list_at lists spec.to).globals) parts.1 in
      posts.payloads id spec at on ∙ same spec.to (needed_within lists spec.to needed.1);
  others = posts.others;
}

-- mirrors that are listed have a proxy here
own_among : (way : Way) (share : Share) (to : ℕ) → All (λ v. is_among (proxies_here share) v ≡ true) (own_reduce way share to)
own_among way share to k d within =
    let here = seen way share in
    let v = get_or (own_reduce way share to) k d in
    let lists : ℕ → Bool = λ u. slice_index_or share.masters u 0 == to && (is_mirror here share.host u && is_writable here share.host u) in
    let below = picked_below (nodes_of share) lists k d within in
    let passes = filter_passes lists (range_with_len 0 (nodes_of share)) k d within in
    let both = and_parts (slice_index_or share.masters v 0 == to) (is_mirror here share.host v && is_writable here share.host v) passes in
    let mirror = and_parts (is_mirror here share.host v) (is_writable here share.host v) both.1 in
    let met = and_parts (not (slice_index_or share.masters v 0 == share.host)) (is_readable here share.host v || is_writable here share.host v) mirror.0 in
    among_proxies way share v below met.1

module _ {Program Item State Shown : Type 0} (division : Division) (host : HostState Program Item State Shown) (is : IsHost host) (serves : Serves division host) where
  -- it has a list for each host
  pub long_reduces : length host.memo.reduce_to ≡ host.graph.hosts
  long_reduces = is.is_memo.reduce_to_each ∙ is.fits.of_hosts

  pub long_spreads : length host.memo.spread_to ≡ host.graph.hosts
  long_spreads = is.is_memo.spread_to_each ∙ is.fits.of_hosts

  -- the locals of a list of mirrors
  pub mirror_locals : (to : ℕ) → to < host.graph.hosts → AreLocals host.view (reduce_list division host.view.host to) (list_at host.memo.reduce_to to).locals
  mirror_locals to below =
      let ids = own_reduce host.way host.graph to in
      let own : (list_at host.memo.reduce_to to).locals ≡ map (lid_of host.graph) ids
      = ap (λ (lists : List Proxies). (list_at lists to).locals) is.fits.reduce_to_own
      ∙ ap (λ (list : Proxies). list.locals) (get_or-map-range_with_len (λ other. proxies_of host.graph (own_reduce host.way host.graph other)) 0 host.graph.hosts to to none below (omega arith)) in
      let long = ap length is.vertices_are in
      subst (λ (locals : List ℕ). AreLocals host.view (reduce_list division host.view.host to) locals) (sym own) (record {
        within = All-map (λ l. l < length host.view.vertices) (lid_of host.graph) ids
            (All-weaker (λ v. is_among (proxies_here host.graph) v ≡ true) (λ v. lid_of host.graph v < length host.view.vertices)
            (λ v among. let place = place_is (proxies_here host.graph) v among in let small = place.within in omega arith)
            ids (own_among host.way host.graph to));
        same_ids =
            map_back (lid_of host.graph) (slice_index host.view.vertices) ids
            (All-weaker (λ v. is_among (proxies_here host.graph) v ≡ true) (λ v. slice_index host.view.vertices (lid_of host.graph v) ≡ v)
            (λ v among. vertex_is division host is serves (lid_of host.graph v) ∙ (place_is (proxies_here host.graph) v among).here)
            ids (own_among host.way host.graph to))
            ∙ sym (reduces_here division host is serves to);
      })

  -- and those of a list of masters
  pub master_locals : (to : ℕ) → to < host.graph.hosts → AreLocals host.view (broadcast_list division host.view.host to) (list_at host.memo.spread_to to).locals
  master_locals to below = record {
    within = λ k d small.
        let at = place_of_master k small in
        let same = get_or_default locals k d 0 small in
        let long = ap length is.vertices_are in
        omega (arith, length_proxies host.graph);
    same_ids =
        ext_get_or 0 (map (slice_index host.view.vertices) locals) globals (length-map locals (slice_index host.view.vertices) ∙ as_many)
        (λ k within.
        let small : k < length locals = omega (arith, length-map locals (slice_index host.view.vertices)) in
        let at = place_of_master k small in
        get_or-map (slice_index host.view.vertices) locals k 0 0 small
        ∙ vertex_is division host is serves (get_or locals k 0)
        ∙ vertex_of_master host.graph (get_or locals k 0) at
        ∙ get_or_from_slice_get (masters_here host.graph) (get_or locals k 0) (get_or globals k 0) 0 (stands k small))
        ∙ (knows division host is serves).spread_to to below;
  }
    where
      locals : List ℕ
      locals = (list_at host.memo.spread_to to).locals

      globals : List ℕ
      globals = (list_at host.memo.spread_to to).globals

      are : AreMasters host.graph (list_at host.memo.spread_to to)
      are = is.fits.spread_to_masters to (let hosts = is.fits.of_hosts in omega arith)

      as_many : length locals ≡ length globals
      as_many = are.is_list.as_many

      stands : (k : ℕ) → k < length locals → slice_get (masters_here host.graph) (get_or locals k 0) ≡ Some (get_or globals k 0)
      stands k small = let many = as_many in are.are_masters k (omega arith) ∙ slice_get-get_or globals k 0 (omega arith)

      place_of_master : (k : ℕ) → k < length locals → get_or locals k 0 < length (masters_here host.graph)
      place_of_master k small = slice_get_within (masters_here host.graph) (get_or locals k 0) (get_or globals k 0) (stands k small)
