-- What a host takes of a packet in flight is an event of the round.
use Rattle.std.proofs.Common.{◌≡◌, ◌⊎◌, ℕ, ◌<◌, Bool, true, false, cond, not, ◌&&◌, ◌||◌, ◌==◌, List, [], length, map, slice_get, slice_set, Some, refl, sym, ap, subst, ◌∙◌, arith, inl, inr}
use Rattle.std.specs.List.{range_with_len, slice_index_or}
use Rattle.std.proofs.lemmas.Bool.{both_ways, eqb-true, eq-eqb}
use Rattle.std.proofs.lemmas.List.{length-map, length-set, map-set}
use Rattle.list_laws.specs.Members.{has_member, IsMember}
use Rattle.list_laws.proofs.Members.{has_member-without_same, has_member-without_other}
use Rattle.reduce_laws.specs.ReductionLaws.{Reducer}
use Rattle.reduce_laws.specs.ProgramLaws.{Steps}
use Rattle.graph_division.specs.Division.{Division}
use Rattle.graph_division.specs.Lists.{reduce_list, broadcast_list}
use Rattle.address_memo.specs.Memos.{list_at}
use Rattle.packet_table.specs.declared.channel_spec.Leg.{Leg as TableLeg}
use Rattle.packet_table.specs.declared.channel_spec.Leg.TheVariants.{Reduce, Spread}
use Rattle.packet_table.specs.Order.{Joins, IsChannelAt}
use Rattle.packet_table.specs.Table.{Table, IsTable, payload_of, taken}
use Rattle.field_encodings.specs.Forms.{entries}
use Rattle.round_packets.specs.Runs.{Run, IsRun}
use Rattle.round_packets.specs.Packets.{bytes_of_packet, tag_of, marks_of}
use Rattle.round_packets.specs.RunPackets.{reduce_packet, broadcast_packet}
use Rattle.round_packets.proofs.PacketForms.{reduces_are_forms, broadcasts_are_forms}
use Rattle.host_laws.specs.HostView.{HostView}
use Rattle.host_laws.specs.Standing.{StandsFor, NoneIsWritten}
use Rattle.host_laws.specs.Effects.{after_reduce, after_broadcast}
use Rattle.host_state.specs.HostState.{HostState, IsHost}
use Rattle.host_state.specs.Serving.{run_of, Serves}
use Rattle.host_state.specs.OwnEffects.{HasEntries, NoneIsSent}
use Rattle.host_core.specs.Calls.{StaysItself, TakesReduceIn, TakesBroadcastIn}
use Rattle.cluster_laws.specs.Channels.{Leg, Channel, is_needed, payload}
use Rattle.cluster_laws.specs.Channels.Leg.{reduce, broadcast}
use Rattle.cluster_laws.specs.Events.{same_event, posting}
use Rattle.cluster_laws.specs.Events.Event.{deliver}
use Rattle.cluster_laws.specs.Steps.{BecomesBy}
use Rattle.cluster_laws.specs.Numbers.{channel_at, TableStep}
use Rattle.cluster_laws.specs.Tally.{packets_of}
use Rattle.cluster_laws.proofs.InTime.{ChannelParts, channel_parts, reduce_in_time, broadcast_in_time, flight_is_packet}
use Rattle.cluster_laws.proofs.Numbering.{is_channel_at, number_at, events_by_number}
use Rattle.cluster_laws.proofs.Sameness.{posting_is_no_delivery}
use Rattle.round_driver.specs.ClusterState.{leg_in_table, spec_of}
use Rattle.round_driver.specs.Underway.{Underway, Turns, table_of, seen_as}
use Rattle.round_driver.proofs.Servers.{server_on, servers_on, lasting_on, all_lasting_on}
use Rattle.round_driver.proofs.Moving.{payload_at, as_many_specs, fits_run, spec_at, server, view_at, knows, host_stands}
use Rattle.round_driver.proofs.Posting.{turns_by}
use Rattle.round_driver.proofs.Happening.{some_and}

-- a table of channels is one after a packet is taken
pub taken_is_table : (table : Table) (id : ℕ) → IsTable table → IsTable (taken table id)
taken_is_table table id is = record {
  rise = is.rise;
  few = is.few;
  bounded = is.bounded;
  flights = length-set table.flying id false ∙ is.flights;
  payloads = is.payloads;
  rooms = is.rooms;
  fit = is.fit;
}

-- the same event, told of the same hosts and channels
pub same_turns : {Program Item State Shown : Type 0} {IsItem : Item → Type 0} {IsShown : Shown → Type 0} {IsState : State → Type 0} {item_bytes : Item → List ℕ} {shown_bytes : Shown → List ℕ} {run : Run Item State Shown} {program : Program} {rounds : ℕ}
    {hosts : List (HostState Program Item State Shown)} {table : Table} (new_hosts other_hosts : List (HostState Program Item State Shown)) (new_table other_table : Table) → other_hosts ≡ new_hosts → other_table ≡ new_table
    → Turns IsItem IsShown IsState item_bytes shown_bytes run program rounds hosts table new_hosts new_table → Turns IsItem IsShown IsState item_bytes shown_bytes run program rounds hosts table other_hosts other_table
same_turns {Program} {Item} {State} {Shown} {IsItem} {IsShown} {IsState} {item_bytes} {shown_bytes} {run} {program} {rounds} {hosts} {table} new_hosts other_hosts new_table other_table same_hosts same_table turns =
    subst (λ (l : List (HostState Program Item State Shown)). Turns IsItem IsShown IsState item_bytes shown_bytes run program rounds hosts table l other_table) (sym same_hosts)
    (subst (λ (t : Table). Turns IsItem IsShown IsState item_bytes shown_bytes run program rounds hosts table new_hosts t) (sym same_table) turns)

-- the leg of a channel, by that of its place in the table
reduce_leg : (leg : Leg) → leg_in_table leg ≡ Reduce → leg ≡ reduce
reduce_leg reduce is = refl
reduce_leg broadcast is = absurd (cc)

broadcast_leg : (leg : Leg) → leg_in_table leg ≡ Spread → leg ≡ broadcast
broadcast_leg reduce is = absurd (cc)
broadcast_leg broadcast is = refl

-- a channel by its parts
abbrev channel_by : Leg → (from to : ℕ) → Channel
channel_by leg from to = record { leg = leg; from = from; to = to }

by_parts : (a b : Leg) (f g t u : ℕ) → a ≡ b → f ≡ g → t ≡ u → channel_by a f t ≡ channel_by b g u
by_parts a b f g t u same_leg same_from same_to = ap (λ leg. channel_by leg f t) same_leg ∙ ap (λ from. channel_by b from t) same_from ∙ ap (λ to. channel_by b g to) same_to

and_true : (b : Bool) → (b && true) ≡ b
and_true true = refl
and_true false = refl

and_false : (b : Bool) → (b && false) ≡ false
and_false true = refl
and_false false = refl

module _ {Program Item State Shown : Type 0} {IsItem : Item → Type 0} {IsShown : Shown → Type 0} {IsState : State → Type 0} {item_bytes : Item → List ℕ} {shown_bytes : Shown → List ℕ} {run : Run Item State Shown} {program : Program} {rounds : ℕ} {hosts : List (HostState Program Item State Shown)} {table : Table}
    (underway : Underway IsItem IsShown IsState item_bytes shown_bytes run program rounds hosts table)
    (id : ℕ) (known : id < length table.specs) (flies : IsMember table.flying id) where
  within : id < packets_of run.division
  within = let count = as_many_specs underway in omega arith

  abbrev channel : Channel
  channel = channel_at run.division id

  flies_there : (spare : HostView Program Item State Shown) → (seen_as run.division spare hosts table).flies channel ≡ true
  flies_there spare = ap (λ n. slice_index_or table.flying n false) (number_at run.division id within) ∙ flies

  carries_packet : HostView Program Item State Shown → payload_of table id ≡ payload item_bytes shown_bytes run rounds channel
  carries_packet spare =
      sym (ap (λ n. slice_index_or (map (payload_of table) (range_with_len 0 (length table.specs))) n []) (number_at run.division id within) ∙ payload_at table id known)
      ∙ flight_is_packet run rounds (seen_as run.division spare hosts table) (underway.stands spare) channel (flies_there spare)

  -- the receiver takes it
  module _ (host : HostState Program Item State Shown) (at : slice_get hosts channel.to ≡ Some host) (new : HostState Program Item State Shown) where
    flights : (n : ℕ) → n < packets_of run.division → slice_index_or (taken table id).flying n false
        ≡ (same_event (posting (channel_at run.division n)) (deliver channel) || (slice_index_or table.flying n false && not (same_event (deliver (channel_at run.division n)) (deliver channel))))
    flights n below =
        lands n (n == id) refl
        ∙ ap (λ b. has_member table.flying n && not b) (sym ((events_by_number run.division n).taking id below within))
        ∙ ap (λ b. b || (has_member table.flying n && not (same_event (deliver (channel_at run.division n)) (deliver channel)))) (sym (posting_is_no_delivery (channel_at run.division n).leg (channel_at run.division n).from channel))
      where
        lands : (k : ℕ) (b : Bool) → (k == id) ≡ b → has_member (taken table id).flying k ≡ (has_member table.flying k && not b)
        lands k true is =
            ap (has_member (taken table id).flying) (eqb-true k id is)
            ∙ has_member-without_same table.flying id (let long = underway.is_table.flights in omega arith)
            ∙ sym (and_false (has_member table.flying k))
        lands k false is = has_member-without_other table.flying id k (λ same. both_ways (k == id) is (eq-eqb k id same)) ∙ sym (and_true (has_member table.flying k))

    table_step : BecomesBy run rounds (deliver channel) host.view new.view → (spare : HostView Program Item State Shown)
        → TableStep item_bytes shown_bytes run rounds spare (deliver channel) (table_of hosts table) (table_of (slice_set hosts channel.to new) (taken table id))
    table_step becomes spare = record {
      may = flies_there spare;
      view = new.view;
      here = subst (λ (view : HostView Program Item State Shown). BecomesBy run rounds (deliver channel) view new.view) (sym (view_at underway channel.to host at spare)) becomes;
      hosts_change = map-set (λ (h : HostState Program Item State Shown). h.view) hosts channel.to new;
      flights_change = flights;
      payloads_change = λ n below. sym (ap (λ b. cond b (payload item_bytes shown_bytes run rounds (channel_at run.division n)) (slice_index_or (map (payload_of table) (range_with_len 0 (length table.specs))) n []))
          (posting_is_no_delivery (channel_at run.division n).leg (channel_at run.division n).from channel));
      lengths_stay = record {
        hosts_fit = length-map (slice_set hosts channel.to new) (λ (h : HostState Program Item State Shown). h.view) ∙ length-set hosts channel.to new ∙ underway.servers.as_many;
        flights_fit = length-set table.flying id false ∙ underway.is_table.flights ∙ as_many_specs underway;
        payloads_fit = (fits_run underway).payloads_fit;
      };
    }

    pub deliver_turns : BecomesBy run rounds (deliver channel) host.view new.view → StaysItself host new → IsHost new → new.view.host ≡ host.view.host → new.view.program ≡ host.view.program
        → Turns IsItem IsShown IsState item_bytes shown_bytes run program rounds hosts table (slice_set hosts channel.to new) (taken table id)
    deliver_turns becomes stays is_host same_number same_program =
        turns_by underway (slice_set hosts channel.to new) (taken table id) (deliver channel)
        (servers_on program run.division hosts channel.to new underway.servers (server_on program run.division channel.to host new stays is_host same_number same_program (server underway channel.to host at)))
        refl (taken_is_table table id underway.is_table) (all_lasting_on hosts channel.to host new at (lasting_on host new stays same_program))
        (table_step becomes)

  -- a channel by what the table says of it
  module _ (from to : ℕ) where
    joins : (leg : TableLeg) → IsChannelAt table.specs id leg from to → Joins leg from to (spec_of run.item_size run.shown_size run.division channel)
    joins leg is = some_and (Joins leg from to) (slice_get table.specs id) (spec_of run.item_size run.shown_size run.division channel) (spec_at underway id within) is

    pub receiver_within : (leg : TableLeg) → IsChannelAt table.specs id leg from to → to < length hosts
    receiver_within leg is =
        let joined = joins leg is in
        let here = (channel_parts run channel (is_channel_at run.division id within)).here in
        let many = underway.servers.as_many in
        let receiver = joined.of_receiver in
        omega arith

    pub is_reduce : IsChannelAt table.specs id Reduce from to → channel ≡ record { leg = reduce; from = from; to = to }
    is_reduce is =
        let joined = joins Reduce is in
        by_parts channel.leg reduce channel.from from channel.to to (reduce_leg channel.leg joined.of_leg) joined.of_sender joined.of_receiver

    pub is_broadcast : IsChannelAt table.specs id Spread from to → channel ≡ record { leg = broadcast; from = from; to = to }
    is_broadcast is =
        let joined = joins Spread is in
        by_parts channel.leg broadcast channel.from from channel.to to (broadcast_leg channel.leg joined.of_leg) joined.of_sender joined.of_receiver

module _ {Program Item State Shown : Type 0} {IsItem : Item → Type 0} {IsShown : Shown → Type 0} {IsState : State → Type 0} {item_bytes : Item → List ℕ} {shown_bytes : Shown → List ℕ}
    (reducer : Reducer Item) (steps : Program → Steps Item State Shown) (item_size shown_size : ℕ) (program : Program) (division : Division) (rounds : ℕ) {hosts : List (HostState Program Item State Shown)} {table : Table}
    (underway : Underway IsItem IsShown IsState item_bytes shown_bytes (run_of reducer (steps program) item_size shown_size division) program rounds hosts table)
    (id : ℕ) (known : id < length table.specs) (flies : IsMember table.flying id) (from to : ℕ)
    (host : HostState Program Item State Shown) (at : slice_get hosts to ≡ Some host) where
  abbrev run_by : Program → Run Item State Shown
  run_by p = run_of reducer (steps p) item_size shown_size division

  abbrev run : Run Item State Shown
  run = run_by program

  of_number : host.view.host ≡ to
  of_number = (server underway to host at).of_number

  -- a reduce packet
  module _ (is : IsChannelAt table.specs id Reduce from to) where
    abbrev reduces : Channel
    reduces = record { leg = reduce; from = from; to = to }

    is_this : channel_at division id ≡ reduces
    is_this = is_reduce underway id known flies from to is

    in_flight : (seen_as division host.view hosts table).flies reduces ≡ true
    in_flight = ap (λ (c : Channel). (seen_as division host.view hosts table).flies c) (sym is_this) ∙ flies_there underway id known flies host.view

    parts : ChannelParts run reduces
    parts = channel_parts run reduces ((underway.stands host.view).needed reduces in_flight)

    pub reduce_from_host : from < host.graph.hosts
    reduce_from_host = let there = parts.there in let hosts_are = (server underway to host at).serves.hosts in omega arith

    ids : (list_at host.memo.reduce_from from).globals ≡ reduce_list division from to
    ids = (knows underway to host at).reduce_from from reduce_from_host ∙ ap (reduce_list division from) of_number

    pub reduce_expected : is_needed (list_at host.memo.reduce_from from).globals ≡ true
    reduce_expected = ap is_needed ids ∙ parts.listed

    pub reduce_first : slice_index_or host.view.took_reduce from false ≡ false
    reduce_first =
        ap (λ (view : HostView Program Item State Shown). slice_index_or view.took_reduce from false) (sym (view_at underway to host at host.view))
        ∙ (underway.stands host.view).once reduces in_flight

    pub reduce_comes_in_time : host.view.has_spread ≡ false
    reduce_comes_in_time =
        ap (λ (view : HostView Program Item State Shown). view.has_spread) (sym (view_at underway to host at host.view))
        ∙ reduce_in_time run rounds (seen_as division host.view hosts table) (underway.stands host.view) from to in_flight

    reduce_bytes : payload_of table id ≡ bytes_of_packet item_size item_bytes (reduce_packet run rounds from to)
    reduce_bytes = carries_packet underway id known flies host.view ∙ ap (payload item_bytes shown_bytes run rounds) is_this

    pub reduce_has_entries : HasEntries IsItem item_bytes (list_at host.memo.reduce_from from).globals (payload_of table id)
    reduce_has_entries =
        let packet = reduce_packet run rounds from to in
        subst (λ (l : List ℕ). HasEntries IsItem item_bytes l (payload_of table id)) (sym ids)
        (subst (λ (bytes : List ℕ). HasEntries IsItem item_bytes (reduce_list division from to) bytes) (sym reduce_bytes) (
          entries (tag_of item_size packet) (marks_of packet) (map packet.value packet.ids),
          (tag_of item_size packet, marks_of packet, map packet.value packet.ids, reduces_are_forms item_bytes run rounds from to underway.is_run, refl),
        ))

    pub reduce_turns : (new : HostState Program Item State Shown) → IsHost new → StaysItself host new → new.view ≡ after_reduce from host.view new.view.items
        → ((d : Division) (r : ℕ) → Serves d host → IsRun IsItem IsShown IsState (run_of reducer (steps host.view.program) item_size shown_size d) → StandsFor (run_of reducer (steps host.view.program) item_size shown_size d) r host.view
        → payload_of table id ≡ bytes_of_packet item_size item_bytes (reduce_packet (run_of reducer (steps host.view.program) item_size shown_size d) r from host.view.host)
        → TakesReduceIn reducer (steps host.view.program) item_size shown_size d r host new from)
        → Turns IsItem IsShown IsState item_bytes shown_bytes run program rounds hosts table (slice_set hosts to new) (taken table id)
    reduce_turns new is_host stays becomes serves =
        let here = server underway to host at in
        let does : TakesReduceIn reducer (steps program) item_size shown_size division rounds host new from
        = subst (λ p. IsRun IsItem IsShown IsState (run_by p) → StandsFor (run_by p) rounds host.view → payload_of table id ≡ bytes_of_packet item_size item_bytes (reduce_packet (run_by p) rounds from host.view.host)
        → TakesReduceIn reducer (steps p) item_size shown_size division rounds host new from)
        here.runs (serves division rounds here.serves) underway.is_run (host_stands underway to host at)
        (reduce_bytes ∙ ap (λ h. bytes_of_packet item_size item_bytes (reduce_packet run rounds from h)) (sym of_number)) in
        let same_to = ap (λ (c : Channel). c.to) is_this in
        subst (λ n. Turns IsItem IsShown IsState item_bytes shown_bytes run program rounds hosts table (slice_set hosts n new) (taken table id)) same_to
        (deliver_turns underway id known flies host (ap (slice_get hosts) same_to ∙ at) new
        (subst (λ (c : Channel). BecomesBy run rounds (deliver c) host.view new.view) (sym is_this) does.becomes)
        stays is_host (ap (λ (view : HostView Program Item State Shown). view.host) becomes) (ap (λ (view : HostView Program Item State Shown). view.program) becomes))

  -- a broadcast packet
  module _ (is : IsChannelAt table.specs id Spread from to) where
    abbrev broadcasts : Channel
    broadcasts = record { leg = broadcast; from = from; to = to }

    is_that : channel_at division id ≡ broadcasts
    is_that = is_broadcast underway id known flies from to is

    flies_so : (seen_as division host.view hosts table).flies broadcasts ≡ true
    flies_so = ap (λ (c : Channel). (seen_as division host.view hosts table).flies c) (sym is_that) ∙ flies_there underway id known flies host.view

    parts_so : ChannelParts run broadcasts
    parts_so = channel_parts run broadcasts ((underway.stands host.view).needed broadcasts flies_so)

    pub broadcast_from_host : from < host.graph.hosts
    broadcast_from_host = let there = parts_so.there in let hosts_are = (server underway to host at).serves.hosts in omega arith

    ids_so : (list_at host.memo.spread_from from).globals ≡ broadcast_list division from to
    ids_so = (knows underway to host at).spread_from from broadcast_from_host ∙ ap (broadcast_list division from) of_number

    pub broadcast_expected : is_needed (list_at host.memo.spread_from from).globals ≡ true
    broadcast_expected = ap is_needed ids_so ∙ parts_so.listed

    pub broadcast_first : slice_index_or host.view.took_broadcast from false ≡ false
    broadcast_first =
        ap (λ (view : HostView Program Item State Shown). slice_index_or view.took_broadcast from false) (sym (view_at underway to host at host.view))
        ∙ (underway.stands host.view).once broadcasts flies_so

    pub broadcast_comes_in_time : (host.view.has_computed ≡ true) ⊎ NoneIsSent host from
    broadcast_comes_in_time =
        in_time (subst (λ (view : HostView Program Item State Shown). (view.has_computed ≡ true) ⊎ NoneIsWritten division from view) (view_at underway to host at host.view)
        (broadcast_in_time run underway.is_run rounds (seen_as division host.view hosts table) (underway.stands host.view) from to flies_so))
      where
        in_time : (host.view.has_computed ≡ true) ⊎ NoneIsWritten division from host.view → (host.view.has_computed ≡ true) ⊎ NoneIsSent host from
        in_time (inl computed) = inl computed
        in_time (inr none) = inr (((knows underway to host at).none_is_sent from broadcast_from_host).1 none)

    broadcast_bytes : payload_of table id ≡ bytes_of_packet shown_size shown_bytes (broadcast_packet run rounds from to)
    broadcast_bytes = carries_packet underway id known flies host.view ∙ ap (payload item_bytes shown_bytes run rounds) is_that

    pub broadcast_has_entries : HasEntries IsShown shown_bytes (list_at host.memo.spread_from from).globals (payload_of table id)
    broadcast_has_entries =
        let packet = broadcast_packet run rounds from to in
        subst (λ (l : List ℕ). HasEntries IsShown shown_bytes l (payload_of table id)) (sym ids_so)
        (subst (λ (bytes : List ℕ). HasEntries IsShown shown_bytes (broadcast_list division from to) bytes) (sym broadcast_bytes) (
          entries (tag_of shown_size packet) (marks_of packet) (map packet.value packet.ids),
          (tag_of shown_size packet, marks_of packet, map packet.value packet.ids, broadcasts_are_forms shown_bytes run rounds from to underway.is_run, refl),
        ))

    pub broadcast_turns : (new : HostState Program Item State Shown) → IsHost new → StaysItself host new → new.view ≡ after_broadcast from host.view new.view.next new.view.items new.view.awake_next
        → ((d : Division) (r : ℕ) → Serves d host → IsRun IsItem IsShown IsState (run_of reducer (steps host.view.program) item_size shown_size d) → StandsFor (run_of reducer (steps host.view.program) item_size shown_size d) r host.view
        → payload_of table id ≡ bytes_of_packet shown_size shown_bytes (broadcast_packet (run_of reducer (steps host.view.program) item_size shown_size d) r from host.view.host)
        → TakesBroadcastIn reducer (steps host.view.program) item_size shown_size d r host new from)
        → Turns IsItem IsShown IsState item_bytes shown_bytes run program rounds hosts table (slice_set hosts to new) (taken table id)
    broadcast_turns new is_host stays becomes serves =
        let here = server underway to host at in
        let does : TakesBroadcastIn reducer (steps program) item_size shown_size division rounds host new from
        = subst (λ p. IsRun IsItem IsShown IsState (run_by p) → StandsFor (run_by p) rounds host.view → payload_of table id ≡ bytes_of_packet shown_size shown_bytes (broadcast_packet (run_by p) rounds from host.view.host)
        → TakesBroadcastIn reducer (steps p) item_size shown_size division rounds host new from)
        here.runs (serves division rounds here.serves) underway.is_run (host_stands underway to host at)
        (broadcast_bytes ∙ ap (λ h. bytes_of_packet shown_size shown_bytes (broadcast_packet run rounds from h)) (sym of_number)) in
        let same_to = ap (λ (c : Channel). c.to) is_that in
        subst (λ n. Turns IsItem IsShown IsState item_bytes shown_bytes run program rounds hosts table (slice_set hosts n new) (taken table id)) same_to
        (deliver_turns underway id known flies host (ap (slice_get hosts) same_to ∙ at) new
        (subst (λ (c : Channel). BecomesBy run rounds (deliver c) host.view new.view) (sym is_that) does.becomes)
        stays is_host (ap (λ (view : HostView Program Item State Shown). view.host) becomes) (ap (λ (view : HostView Program Item State Shown). view.program) becomes))
