-- A host that spreads by its own fields spreads as the round asks.
use Rattle.std.proofs.Common.{◌≡◌, ℕ, ◌<◌, Bool, true, not, ◌||◌, List, refl, sym, ◌∙◌, arith}
use Rattle.std.proofs.lemmas.Bool.{and_parts, or_parts, not-true}
use Rattle.reduce_laws.specs.ReductionLaws.{Reducer}
use Rattle.reduce_laws.specs.ProgramLaws.{Steps}
use Rattle.field_encodings.specs.Lists.{marks_at, values_at}
use Rattle.field_encodings.specs.Packets.{packet_at}
use Rattle.graph_division.specs.Division.{Division}
use Rattle.graph_division.specs.Lists.{broadcast_list}
use Rattle.graph_division.specs.Shares.{seen}
use Rattle.address_memo.specs.Memos.{list_at}
use Rattle.packet_table.specs.declared.channel_spec.Leg.TheVariants.{Spread}
use Rattle.packet_table.specs.Table.{Table}
use Rattle.round_packets.specs.Runs.{Run, IsRun}
use Rattle.round_packets.specs.Packets.{bytes_of_packet}
use Rattle.round_packets.specs.RunPackets.{broadcast_packet}
use Rattle.cluster_laws.specs.Cluster.{expects_reduce}
use Rattle.cluster_laws.specs.Posting.{AreLocals}
use Rattle.cluster_laws.proofs.InTime.{all_reduced}
use Rattle.cluster_laws.proofs.Posting.{broadcasts_are_posted}
use Rattle.field_encodings.specs.Packets as field_packets
use Rattle.host_laws.specs.HostView.{HostView}
use Rattle.host_laws.specs.Standing.{StandsFor}
use Rattle.host_laws.specs.Effects.{Spreads, after_spread}
use Rattle.host_laws.proofs.Spreading.{spread_stands}
use Rattle.host_state.specs.HostState.{HostState, IsHost}
use Rattle.host_state.specs.Serving.{run_of, Serves}
use Rattle.host_state.specs.Posting.{Posts}
use Rattle.host_state.specs.OwnEffects.{is_ready_to_spread}
use Rattle.serving_laws.proofs.Knowing.{knows}
use Rattle.serving_laws.proofs.Posting.{same_bytes, posts_alike, long_spreads, master_locals}

module _ {Program Item State Shown : Type 0} {IsItem : Item → Type 0} {IsShown : Shown → Type 0} {IsState : State → Type 0} (reducer : Reducer Item) (steps : Steps Item State Shown) (item_size shown_size : ℕ) (shown_bytes : Shown → List ℕ)
    (division : Division) (rounds : ℕ) (host : HostState Program Item State Shown) (is : IsHost host) (serves : Serves division host)
    (fact : IsRun IsItem IsShown IsState (run_of reducer steps item_size shown_size division)) (stands : StandsFor (run_of reducer steps item_size shown_size division) rounds host.view)
    (ready : is_ready_to_spread host ≡ true) (states : List State) (next : List Shown) (items : List Item) (awake_next : List Bool) (old new : Table)
    (after : IsHost (record host { view = after_spread host.view states next items awake_next }))
    (own : Spreads (run_of reducer steps item_size shown_size (seen host.way host.graph)) host.view states next items awake_next) where
  abbrev run : Run Item State Shown
  run = run_of reducer steps item_size shown_size division

  abbrev spread_view : HostView Program Item State Shown
  spread_view = after_spread host.view states next items awake_next

  -- what a spread does is asked alike of each division
  pub spread_all : Spreads (run_of reducer steps item_size shown_size division) host.view states next items awake_next
  spread_all = record {
    settles = own.settles;
    sums = own.sums;
    shows_next_state = own.shows_next_state;
    wakes = own.wakes;
    items_of_mirrors = own.items_of_mirrors;
    next_of_mirrors = own.next_of_mirrors;
    awake_of_mirrors = own.awake_of_mirrors;
  }

  stands_after : StandsFor (run_of reducer steps item_size shown_size division) rounds (after_spread host.view states next items awake_next)
  stands_after =
      let may = sym (knows division host is serves).ready_to_spread ∙ ready in
      let parts = and_parts host.view.has_computed (not (host.view.has_spread || expects_reduce division host.view)) may in
      let waits = or_parts host.view.has_spread (expects_reduce division host.view) (not-true (host.view.has_spread || expects_reduce division host.view) parts.1) in
      spread_stands run fact rounds host.view stands parts.0 (all_reduced run host.view waits.1) waits.0 states next items awake_next spread_all

  locals_after : (to : ℕ) → to < host.graph.hosts → AreLocals (after_spread host.view states next items awake_next) (broadcast_list division host.view.host to) (list_at host.memo.spread_to to).locals
  locals_after to below = let are = master_locals division host is serves to below in record { within = are.within; same_ids = are.same_ids }

  pub posted : Posts Spread host.view.host host.memo.spread_to
      (λ to. field_packets.bytes_of_packet shown_size shown_bytes (packet_at next (list_at host.memo.spread_to to).locals (list_at host.memo.spread_to to).globals awake_next)) old new
      → Posts Spread host.view.host host.memo.spread_to (λ to. bytes_of_packet shown_size shown_bytes (broadcast_packet (run_of reducer steps item_size shown_size division) rounds host.view.host to)) old new
  posted posts =
      posts_alike Spread host.view.host host.memo.spread_to
      (λ to. field_packets.bytes_of_packet shown_size shown_bytes (packet_at next (list_at host.memo.spread_to to).locals (list_at host.memo.spread_to to).globals awake_next))
      (λ to. bytes_of_packet shown_size shown_bytes (broadcast_packet run rounds host.view.host to)) old new
      (λ to listed.
      let below : to < host.graph.hosts = let long = long_spreads division host is serves in omega arith in
      let locals = (list_at host.memo.spread_to to).locals in
      same_bytes shown_size shown_bytes (broadcast_packet run rounds host.view.host to) (list_at host.memo.spread_to to).globals (marks_at awake_next locals) (values_at next locals) ((knows division host is serves).spread_to to below)
      (broadcasts_are_posted run rounds to spread_view locals fact stands_after refl after.next_fit (locals_after to below)))
      posts
