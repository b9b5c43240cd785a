-- A host that posts what it has for a leg takes a step of the round.
use Rattle.std.proofs.Common.{◌≡◌, ℕ, ◌<◌, Bool, true, false, cond, not, ◌&&◌, ◌||◌, ◌==◌, List, [], length, map, slice_get, slice_set, slice_index, take, Some, refl, sym, ap, subst, ◌∙◌, arith}
use Rattle.std.specs.List.{range_with_len, slice_index_or}
use Rattle.std.proofs.lemmas.Bool.{and_parts, eqb-true}
use Rattle.std.proofs.lemmas.List.{length-map, length-set, map-set}
use Rattle.std.proofs.lemmas.List.FromFn.{length-range_with_len}
use Rattle.list_laws.specs.Members.{has_member}
use Rattle.address_memo.specs.Memos.{Proxies, list_at}
use Rattle.packet_table.specs.declared.channel_spec.ChannelSpec.{ChannelSpec}
use Rattle.packet_table.specs.Order.{leg_place}
use Rattle.packet_table.specs.Table.{Table, IsTable, payload_of, buffer_of}
use Rattle.round_packets.specs.Runs.{Run}
use Rattle.host_laws.specs.HostView.{HostView}
use Rattle.host_state.specs.HostState.{HostState, IsHost}
use Rattle.host_state.specs.Posting.{Posts, posts_on}
use Rattle.host_core.specs.Calls.{StaysItself}
use Rattle.cluster_laws.specs.Channels.{Leg, Channel, same_leg, is_needed, list_of, payload}
use Rattle.cluster_laws.specs.Channels.Leg.{reduce, broadcast}
use Rattle.cluster_laws.specs.Channels as cluster_channels
use Rattle.cluster_laws.specs.Cluster.{may_come}
use Rattle.cluster_laws.specs.Events.{Event, same_event, host_of, posts_leg, posting}
use Rattle.cluster_laws.specs.Events.Event.{deliver}
use Rattle.cluster_laws.specs.Steps.{Step, BecomesBy}
use Rattle.cluster_laws.specs.Numbers.{channel_at, TableStep}
use Rattle.cluster_laws.specs.Tally.{packets_of}
use Rattle.cluster_laws.proofs.InTime.{channel_parts}
use Rattle.cluster_laws.proofs.Keeping.{step_keeps}
use Rattle.cluster_laws.proofs.Numbering.{is_channel_at}
use Rattle.cluster_laws.proofs.Sameness.{same_leg_is}
use Rattle.cluster_laws.proofs.Tables.{table_steps}
use Rattle.round_driver.specs.ClusterState.{leg_in_table, spec_of}
use Rattle.round_driver.specs.Underway.{AreServers, Underway, Turns, lasting, table_of, seen_as}
use Rattle.round_driver.proofs.Servers.{server_on, servers_on, lasting_on, all_lasting_on}
use Rattle.round_driver.proofs.Moving.{payload_at, as_many_specs, fits_run, spec_at, server, view_at}

-- the legs by their places
same_place : (leg other : Leg) → (leg_place (leg_in_table leg) == leg_place (leg_in_table other)) ≡ same_leg leg other
same_place reduce reduce = refl
same_place reduce broadcast = refl
same_place broadcast reduce = refl
same_place broadcast broadcast = refl

posted_by : (leg other : Leg) (from h : ℕ) → same_event (posts_leg leg from) (posts_leg other h) ≡ (same_leg leg other && from == h)
posted_by reduce reduce from h = refl
posted_by reduce broadcast from h = refl
posted_by broadcast reduce from h = refl
posted_by broadcast broadcast from h = refl

posts_take_nothing : (channel : Channel) (leg : Leg) (h : ℕ) → same_event (deliver channel) (posts_leg leg h) ≡ false
posts_take_nothing channel reduce h = refl
posts_take_nothing channel broadcast h = refl

host_of_posts : (leg : Leg) (h : ℕ) → host_of (posts_leg leg h) ≡ h
host_of_posts reduce h = refl
host_of_posts broadcast h = refl

-- the last of three holds where the others do
last_holds : (a b c : Bool) → (a ≡ true → b ≡ true → c ≡ true) → (a && (b && c)) ≡ (a && b)
last_holds true true c holds = holds refl refl
last_holds true false c holds = refl
last_holds false b c holds = refl

and_true : (b : Bool) → (b && true) ≡ b
and_true true = refl
and_true false = refl

module _ {Program Item State Shown : Type 0} {IsItem : Item → Type 0} {IsShown : Shown → Type 0} {IsState : State → Type 0} {item_bytes : Item → List ℕ} {shown_bytes : Shown → List ℕ} {run : Run Item State Shown} {program : Program} {rounds : ℕ} {hosts : List (HostState Program Item State Shown)} {table : Table}
    (underway : Underway IsItem IsShown IsState item_bytes shown_bytes run program rounds hosts table) where
  -- a step of the lists that keeps hosts servers turns them
  pub turns_by : (new_hosts : List (HostState Program Item State Shown)) (new_table : Table) (event : Event)
      → (servers : AreServers program run.division new_hosts) → new_table.specs ≡ table.specs → IsTable new_table → map lasting new_hosts ≡ map lasting hosts
      → ((spare : HostView Program Item State Shown) → TableStep item_bytes shown_bytes run rounds spare event (table_of hosts table) (table_of new_hosts new_table))
      → Turns IsItem IsShown IsState item_bytes shown_bytes run program rounds hosts table new_hosts new_table
  turns_by new_hosts new_table event servers same_specs is_table same_lasting table_step =
      let step : (spare : HostView Program Item State Shown) → Step item_bytes shown_bytes run rounds event (seen_as run.division spare hosts table) (seen_as run.division spare new_hosts new_table)
      = λ spare. table_steps run rounds spare event (table_of hosts table) (table_of new_hosts new_table) (fits_run underway) (table_step spare) in
      record {
        underway = record {
          is_run = underway.is_run;
          servers = servers;
          channels_are = same_specs ∙ underway.channels_are;
          is_table = is_table;
          stands = λ spare. step_keeps run underway.is_run rounds (seen_as run.division spare hosts table) (underway.stands spare) event (seen_as run.division spare new_hosts new_table) (step spare);
        };
        same_lasting = same_lasting;
        step = λ spare. (event, step spare);
      }

  module _ (number : ℕ) (host : HostState Program Item State Shown) (at : slice_get hosts number ≡ Some host) (leg : Leg) (lists : List Proxies)
      (lists_are : (to : ℕ) → to < host.graph.hosts → (list_at lists to).globals ≡ list_of run.division leg host.view.host to)
      (new : HostState Program Item State Shown) (new_table : Table) (is_table : IsTable new_table)
      (posts : Posts (leg_in_table leg) host.view.host lists (λ to. cluster_channels.payload_of item_bytes shown_bytes run rounds leg host.view.host to) table new_table) where
    abbrev event : Event
    event = posts_leg leg number

    -- the host posts on just the channels of the event
    on_these : (id : ℕ) → id < packets_of run.division → posts_on (leg_in_table leg) host.view.host lists (spec_of run.item_size run.shown_size run.division (channel_at run.division id)) ≡ same_event (posting (channel_at run.division id)) event
    on_these id within =
        let channel = channel_at run.division id in
        let parts = channel_parts run channel (is_channel_at run.division id within) in
        last_holds (leg_place (leg_in_table channel.leg) == leg_place (leg_in_table leg)) (channel.from == host.view.host) (is_needed (list_at lists channel.to).globals)
        (λ on from.
        let hosts_are = (server underway number host at).serves.hosts in
        let here = parts.here in
        ap is_needed (lists_are channel.to (omega arith))
        ∙ ap (λ l. is_needed (list_of run.division l host.view.host channel.to)) (sym (same_leg_is channel.leg leg (sym (same_place channel.leg leg) ∙ on)))
        ∙ ap (λ f. is_needed (list_of run.division channel.leg f channel.to)) (sym (eqb-true channel.from host.view.host from))
        ∙ parts.listed)
        ∙ ap (λ b. b && (channel.from == host.view.host)) (same_place channel.leg leg)
        ∙ ap (λ h. same_leg channel.leg leg && (channel.from == h)) (server underway number host at).of_number
        ∙ sym (posted_by channel.leg leg channel.from number)

    flights : (id : ℕ) → id < packets_of run.division → slice_index_or new_table.flying id false
        ≡ (same_event (posting (channel_at run.division id)) event || (slice_index_or table.flying id false && not (same_event (deliver (channel_at run.division id)) event)))
    flights id within =
        posts.in_flight id (spec_of run.item_size run.shown_size run.division (channel_at run.division id)) (spec_at underway id within)
        ∙ ap (λ b. b || has_member table.flying id) (on_these id within)
        ∙ ap (λ b. same_event (posting (channel_at run.division id)) event || b) (sym (and_true (has_member table.flying id)))
        ∙ ap (λ b. same_event (posting (channel_at run.division id)) event || (has_member table.flying id && not b)) (sym (posts_take_nothing (channel_at run.division id) leg number))

    -- the bytes of a channel
    bytes_on : (id : ℕ) → id < packets_of run.division → (b : Bool) → same_event (posting (channel_at run.division id)) event ≡ b
        → payload_of new_table id ≡ cond b (payload item_bytes shown_bytes run rounds (channel_at run.division id)) (payload_of table id)
    bytes_on id within true is =
        let channel = channel_at run.division id in
        let parts = and_parts (same_leg channel.leg leg) (channel.from == number) (sym (posted_by channel.leg leg channel.from number) ∙ is) in
        posts.payloads id (spec_of run.item_size run.shown_size run.division channel) (spec_at underway id within) (on_these id within ∙ is)
        ∙ ap (λ l. cluster_channels.payload_of item_bytes shown_bytes run rounds l host.view.host channel.to) (sym (same_leg_is channel.leg leg parts.0))
        ∙ ap (λ f. cluster_channels.payload_of item_bytes shown_bytes run rounds channel.leg f channel.to) ((server underway number host at).of_number ∙ sym (eqb-true channel.from number parts.1))
    bytes_on id within false is =
        let same = posts.others id (spec_of run.item_size run.shown_size run.division (channel_at run.division id)) (spec_at underway id within) (on_these id within ∙ is) in
        ap (λ n. take n (buffer_of new_table id)) same.0 ∙ ap (λ (l : List ℕ). take (slice_index table.lengths id) l) same.1

    same_count : length new_table.specs ≡ packets_of run.division
    same_count = ap (λ (l : List ChannelSpec). length l) posts.same_specs ∙ as_many_specs underway

    payloads : (id : ℕ) → id < packets_of run.division → slice_index_or (map (payload_of new_table) (range_with_len 0 (length new_table.specs))) id []
        ≡ cond (same_event (posting (channel_at run.division id)) event) (payload item_bytes shown_bytes run rounds (channel_at run.division id)) (slice_index_or (map (payload_of table) (range_with_len 0 (length table.specs))) id [])
    payloads id within =
        let count = as_many_specs underway in
        let new_count = same_count in
        payload_at new_table id (omega arith)
        ∙ bytes_on id within (same_event (posting (channel_at run.division id)) event) refl
        ∙ ap (λ (l : List ℕ). cond (same_event (posting (channel_at run.division id)) event) (payload item_bytes shown_bytes run rounds (channel_at run.division id)) l) (sym (payload_at table id (omega arith)))

    table_step : BecomesBy run rounds event host.view new.view → (spare : HostView Program Item State Shown) → may_come run.division (seen_as run.division spare hosts table) event ≡ true
        → TableStep item_bytes shown_bytes run rounds spare event (table_of hosts table) (table_of (slice_set hosts number new) new_table)
    table_step becomes spare may = record {
      may = may;
      view = new.view;
      here = subst (λ (view : HostView Program Item State Shown). BecomesBy run rounds event view new.view)
          (sym (ap (λ n. slice_index_or (map (λ (h : HostState Program Item State Shown). h.view) hosts) n spare) (host_of_posts leg number) ∙ view_at underway number host at spare)) becomes;
      hosts_change = map-set (λ (h : HostState Program Item State Shown). h.view) hosts number new ∙ ap (λ n. slice_set (map (λ (h : HostState Program Item State Shown). h.view) hosts) n new.view) (sym (host_of_posts leg number));
      flights_change = flights;
      payloads_change = payloads;
      lengths_stay = record {
        hosts_fit = length-map (slice_set hosts number new) (λ (h : HostState Program Item State Shown). h.view) ∙ length-set hosts number new ∙ underway.servers.as_many;
        flights_fit = is_table.flights ∙ same_count;
        payloads_fit = length-map (range_with_len 0 (length new_table.specs)) (payload_of new_table) ∙ length-range_with_len 0 (length new_table.specs) ∙ same_count;
      };
    }

    -- the event turns all
    pub post_turns : BecomesBy run rounds event host.view new.view → ((spare : HostView Program Item State Shown) → may_come run.division (seen_as run.division spare hosts table) event ≡ true)
        → StaysItself host new → IsHost new → new.view.host ≡ host.view.host → new.view.program ≡ host.view.program
        → Turns IsItem IsShown IsState item_bytes shown_bytes run program rounds hosts table (slice_set hosts number new) new_table
    post_turns becomes may stays is_host same_number same_program =
        turns_by (slice_set hosts number new) new_table event
        (servers_on program run.division hosts number new underway.servers (server_on program run.division number host new stays is_host same_number same_program (server underway number host at)))
        posts.same_specs is_table (all_lasting_on hosts number host new at (lasting_on host new stays same_program))
        (λ spare. table_step becomes spare (may spare))
