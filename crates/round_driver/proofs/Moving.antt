-- What is known of a host that moves, while all are underway.
use Rattle.std.proofs.Common.{◌≡◌, ℕ, ◌+◌, ◌*◌, ◌<◌, ◌≤◌, true, false, List, [], length, map, slice_get, slice_index, IsSomeAnd, Option, Some, refl, sym, ap, subst, ◌∙◌, arith, inl, inr}
use Rattle.std.specs.List.{range_with_len, slice_index_or}
use Rattle.std.proofs.lemmas.Bool.{cases_lt, both_ways}
use Rattle.std.proofs.lemmas.List.{length-map, get_or-map, get_or_past}
use Rattle.std.proofs.lemmas.List.FromFn.{length-range_with_len}
use Rattle.std.proofs.lemmas.Option.{slice_get-get_or, get_or_from_slice_get, slice_get-map, slice_get_within}
use Rattle.std.specs.Prelude.{option_map}
use Rattle.list_laws.specs.Members.{has_member}
use Rattle.graph_division.specs.Division.{Division}
use Rattle.graph_division.proofs.PrunedLists.{at_place}
use Rattle.address_memo.specs.Memos.{Proxies, none, list_at}
use Rattle.packet_table.specs.declared.channel_spec.ChannelSpec.{ChannelSpec}
use Rattle.packet_table.specs.Order.{Joins}
use Rattle.packet_table.specs.Table.{Table, rooms_of, payload_of}
use Rattle.round_packets.specs.Runs.{Run}
use Rattle.host_laws.specs.HostView.{HostView}
use Rattle.host_laws.specs.Standing.{StandsFor}
use Rattle.host_state.specs.HostState.{HostState}
use Rattle.host_state.specs.Posting.{IsReady}
use Rattle.cluster_laws.specs.Channels.{Leg, Channel, channels, is_channel, is_needed, list_of}
use Rattle.cluster_laws.specs.Channels.Leg.{reduce}
use Rattle.cluster_laws.specs.Cluster.{happened}
use Rattle.cluster_laws.specs.Events.{posting}
use Rattle.cluster_laws.specs.Events.Event.{deliver}
use Rattle.cluster_laws.specs.Numbers.{number_of, channel_at, FitsRun}
use Rattle.cluster_laws.specs.Tally.{packets_of}
use Rattle.cluster_laws.proofs.InTime.{channel_from, first_false}
use Rattle.cluster_laws.proofs.Numbering.{has_number, at_number}
use Rattle.serving_laws.specs.Laws.{Knows}
use Rattle.serving_laws.proofs.Knowing.{serving_knows}
use Rattle.round_driver.specs.ClusterState.{leg_in_table, size_on, spec_of}
use Rattle.round_driver.specs.Underway.{IsServer, Underway, table_of, seen_as}

-- what was last posted, by number
pub payload_at : (table : Table) (id : ℕ) → id < length table.specs → slice_index_or (map (payload_of table) (range_with_len 0 (length table.specs))) id [] ≡ payload_of table id
payload_at table id within =
    get_or-map (payload_of table) (range_with_len 0 (length table.specs)) id 0 [] (let n = length-range_with_len 0 (length table.specs) in omega arith)
    ∙ ap (payload_of table) (let first : 0 + id ≡ id = omega arith in at_place 0 (length table.specs) id within ∙ first)

-- a list that is needed is one of them
pub one_of : (lists : List Proxies) (to : ℕ) → is_needed (list_at lists to).globals ≡ true → to < length lists
one_of lists to needed =
    elim (cases_lt to (length lists)) [
      | inl within ↦ within
      | inr past ↦ absurd (both_ways false refl (sym (ap (λ (list : Proxies). is_needed list.globals) (get_or_past lists to none past)) ∙ needed))
    ]

module _ {Program Item State Shown : Type 0} {IsItem : Item → Type 0} {IsShown : Shown → Type 0} {IsState : State → Type 0} {item_bytes : Item → List ℕ} {shown_bytes : Shown → List ℕ} {run : Run Item State Shown} {program : Program} {rounds : ℕ} {hosts : List (HostState Program Item State Shown)} {table : Table}
    (underway : Underway IsItem IsShown IsState item_bytes shown_bytes run program rounds hosts table) where
  abbrev division : Division
  division = run.division

  pub as_many_specs : length table.specs ≡ packets_of division
  as_many_specs = ap (λ (l : List ChannelSpec). length l) underway.channels_are ∙ length-map (channels division) (spec_of run.item_size run.shown_size division)

  pub fits_run : FitsRun division (table_of hosts table)
  fits_run = record {
    hosts_fit = length-map hosts (λ (host : HostState Program Item State Shown). host.view) ∙ underway.servers.as_many;
    flights_fit = underway.is_table.flights ∙ as_many_specs;
    payloads_fit = length-map (range_with_len 0 (length table.specs)) (payload_of table) ∙ length-range_with_len 0 (length table.specs) ∙ as_many_specs;
  }

  -- the channel of a number
  pub spec_at : (id : ℕ) → id < packets_of division → slice_get table.specs id ≡ Some (spec_of run.item_size run.shown_size division (channel_at division id))
  spec_at id within =
      ap (λ (l : List ChannelSpec). slice_get l id) underway.channels_are
      ∙ slice_get-map (spec_of run.item_size run.shown_size division) (channels division) id
      ∙ ap (option_map (spec_of run.item_size run.shown_size division)) (slice_get-get_or (channels division) id (record { leg = reduce; from = 0; to = 0 }) within)

  pub spec_of_channel : (channel : Channel) → is_channel division channel ≡ true → slice_get table.specs (number_of division channel) ≡ Some (spec_of run.item_size run.shown_size division channel)
  spec_of_channel channel is =
      let within = has_number division channel is in
      spec_at (number_of division channel) within ∙ ap (λ (c : Channel). Some (spec_of run.item_size run.shown_size division c)) (at_number division channel within)

  module _ (number : ℕ) (host : HostState Program Item State Shown) (at : slice_get hosts number ≡ Some host) where
    pub server : IsServer program division number host
    server = underway.servers.each number host at

    pub number_within : number < division.hosts
    number_within = let within = slice_get_within hosts number host at in let many = underway.servers.as_many in omega arith

    pub knows : Knows division host
    knows = serving_knows Program Item State Shown division host server.is_host server.serves

    pub view_at : (spare : HostView Program Item State Shown) → slice_index_or (map (λ (h : HostState Program Item State Shown). h.view) hosts) number spare ≡ host.view
    view_at spare =
        get_or_from_slice_get (map (λ (h : HostState Program Item State Shown). h.view) hosts) number host.view spare
        (slice_get-map (λ (h : HostState Program Item State Shown). h.view) hosts number ∙ ap (option_map (λ (h : HostState Program Item State Shown). h.view)) at)

    pub host_stands : StandsFor run rounds host.view
    host_stands = subst (λ (view : HostView Program Item State Shown). StandsFor run rounds view) (view_at host.view) ((underway.stands host.view).each number number_within)

    -- a channel on which the host has not posted is ready
    module _ (leg : Leg) (lists : List Proxies) (as_many : length lists ≡ host.graph.hosts) (lists_are : (to : ℕ) → to < host.graph.hosts → (list_at lists to).globals ≡ list_of division leg host.view.host to)
        (unsent : (to : ℕ) → happened (seen_as division host.view hosts table) (posting (record { leg = leg; from = host.view.host; to = to })) ≡ false) where
      abbrev channel_to : ℕ → Channel
      channel_to to = record { leg = leg; from = host.view.host; to = to }

      is_one : (to : ℕ) → is_needed (list_at lists to).globals ≡ true → is_channel division (channel_to to) ≡ true
      is_one to needed =
          let here : to < host.graph.hosts = let within = one_of lists to needed in omega arith in
          let hosts_are = server.serves.hosts in
          channel_from run leg host.view.host to host_stands.share.is_host (omega arith) (sym (ap is_needed (lists_are to here)) ∙ needed)

      rests : (to : ℕ) → is_channel division (channel_to to) ≡ true → has_member table.flying (number_of division (channel_to to)) ≡ false
      rests to is =
          let cluster = seen_as division host.view hosts table in
          first_false (cluster.flies (channel_to to)) (happened cluster (deliver (channel_to to))) ((underway.stands host.view).sent (channel_to to) is ∙ unsent to)

      pub is_ready : IsReady (leg_in_table leg) host.view.host (size_on run.item_size run.shown_size leg) lists table
      is_ready to needed =
          let is = is_one to needed in
          let here : to < host.graph.hosts = let within = one_of lists to needed in omega arith in
          let spec = spec_of run.item_size run.shown_size division (channel_to to) in
          let there = spec_of_channel (channel_to to) is in
          let room : slice_index (rooms_of table.specs) (number_of division (channel_to to)) ≡ spec.room
          = get_or_from_slice_get (rooms_of table.specs) (number_of division (channel_to to)) spec.room 0
          (slice_get-map (λ (s : ChannelSpec). s.room) table.specs (number_of division (channel_to to)) ∙ ap (option_map (λ (s : ChannelSpec). s.room)) there) in
          let long = ap (λ (l : List ℕ). 1 + length l * size_on run.item_size run.shown_size leg) (lists_are to here) in
          record {
            id = number_of division (channel_to to);
            is_channel = subst (λ (o : Option ChannelSpec). IsSomeAnd o (Joins (leg_in_table leg) host.view.host to)) (sym there) (record { of_leg = refl; of_sender = refl; of_receiver = refl });
            fits = equal_fits (1 + length (list_at lists to).globals * size_on run.item_size run.shown_size leg) spec.room (slice_index (rooms_of table.specs) (number_of division (channel_to to))) long room;
            rests = rests to is;
          }
        where
          equal_fits : (a b c : ℕ) → a ≡ b → c ≡ b → a ≤ c
          equal_fits a b c e f = omega arith
