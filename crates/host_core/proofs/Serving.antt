-- A host that serves a divided graph and takes a packet of its round stands for the same round.
use Rattle.std.proofs.Common.{◌≡◌, ◌⊎◌, ℕ, ◌<◌, Bool, true, false, List, length, map, get_or, sym, ap, subst, ◌∙◌, inl, inr, arith, All}
use Rattle.std.specs.Prelude.{◌↔◌}
use Rattle.reduce_laws.specs.ReductionLaws.{Reducer}
use Rattle.reduce_laws.specs.ProgramLaws.{Steps}
use Rattle.graph_division.specs.Division.{Division}
use Rattle.address_memo.specs.Memos.{list_at}
use Rattle.field_encodings.specs.Forms.{IsForm, form, entries}
use Rattle.round_packets.specs.Runs.{Run, IsRun}
use Rattle.round_packets.specs.Packets.{Packet, bytes_of_packet, tag_of, marks_of}
use Rattle.round_packets.specs.RunPackets.{reduce_packet, broadcast_packet}
use Rattle.round_packets.proofs.PacketForms.{reduces_are_forms, broadcasts_are_forms}
use Rattle.host_laws.specs.Standing.{StandsFor, NoneIsWritten}
use Rattle.host_laws.specs.Effects.{after_reduce, after_broadcast, TakesReduce, TakesBroadcast}
use Rattle.host_laws.proofs.Taking.{took_reduce_stands}
use Rattle.host_laws.proofs.Telling.{told_stands}
use Rattle.host_state.specs.HostState.{HostState, IsHost}
use Rattle.host_state.specs.Serving.{run_of, Serves}
use Rattle.host_state.specs.OwnEffects.{NoneIsSent, TakesReduceOwn, TakesBroadcastOwn}
use Rattle.serving_laws.proofs.Knowing.{knows}
use Rattle.serving_laws.proofs.Taking.{took_reduce, took_broadcast}
use Rattle.host_core.specs.Calls.{TakesReduceIn, TakesBroadcastIn}

-- the form of a packet, with the ids of a host's list and the bytes that came
form_of : {X : Type 0} (IsValue : X → Type 0) (bytes_of : X → List ℕ) (size : ℕ) (packet : Packet X) (ids bytes : List ℕ) → ids ≡ packet.ids → bytes ≡ bytes_of_packet size bytes_of packet
    → IsForm IsValue bytes_of packet.ids (bytes_of_packet size bytes_of packet) (tag_of size packet) (marks_of packet) (map packet.value packet.ids)
    → IsForm IsValue bytes_of ids bytes (tag_of size packet) (marks_of packet) (map packet.value packet.ids)
form_of IsValue bytes_of size packet ids bytes same_ids same_bytes sent = record {
  is_tag = sent.is_tag;
  mark_for_each = sent.mark_for_each ∙ ap length (sym same_ids);
  value_for_each = sent.value_for_each ∙ ap length (sym same_ids);
  are_values = sent.are_values;
  whole = same_bytes ∙ ap (λ (l : List ℕ). form bytes_of (tag_of size packet) l (marks_of packet) (map packet.value packet.ids)) (sym same_ids);
}

module _ {Program Item State Shown : Type 0} {IsItem : Item → Type 0} {IsShown : Shown → Type 0} {IsState : State → Type 0} (reducer : Reducer Item) (steps : Steps Item State Shown) (item_size shown_size : ℕ)
    (division : Division) (rounds from : ℕ) (host new : HostState Program Item State Shown) (is : IsHost host) (serves : Serves division host)
    (fact : IsRun IsItem IsShown IsState (run_of reducer steps item_size shown_size division)) (stands : StandsFor (run_of reducer steps item_size shown_size division) rounds host.view) (there : from < host.graph.hosts) (payload : List ℕ) where
  abbrev run : Run Item State Shown
  run = run_of reducer steps item_size shown_size division

  on_hosts : from < division.hosts
  on_hosts = let hosts = serves.hosts in omega arith

  pub reduce_serves : (item_bytes : Item → List ℕ) (items : List Item) → get_or host.view.took_reduce from false ≡ false → host.view.has_spread ≡ false
      → new.view ≡ after_reduce from host.view items
      → ((tag : ℕ) (marks : List Bool) (values : List Item) → IsForm IsItem item_bytes (list_at host.memo.reduce_from from).globals payload tag marks values
      → TakesReduceOwn host reducer (list_at host.memo.reduce_from from) (entries tag marks values) items)
      → payload ≡ bytes_of_packet item_size item_bytes (reduce_packet (run_of reducer steps item_size shown_size division) rounds from host.view.host)
      → TakesReduceIn reducer steps item_size shown_size division rounds host new from
  reduce_serves item_bytes items first early becomes own came =
      let packet = reduce_packet run rounds from host.view.host in
      let effect : TakesReduce run rounds from host.view items
      = took_reduce reducer steps item_size shown_size division rounds from host is serves stands there items
      (own (tag_of item_size packet) (marks_of packet) (map packet.value packet.ids)
      (form_of IsItem item_bytes item_size packet (list_at host.memo.reduce_from from).globals payload ((knows division host is serves).reduce_from from there) came
      (reduces_are_forms {IsShown = IsShown} {IsState = IsState} item_bytes run rounds from host.view.host fact))) in
      record {
        becomes = record { items = items; effect = effect; becomes = becomes };
        stands = subst (StandsFor run rounds) (sym becomes) (took_reduce_stands run fact rounds host.view stands from items effect on_hosts first early);
      }

  pub broadcast_serves : (shown_bytes : Shown → List ℕ) (eq : Shown → Shown → Bool) → ((x y : Shown) → IsShown x → IsShown y → (eq x y ≡ true) ↔ (x ≡ y)) → All IsShown host.view.shown
      → (next : List Shown) (items : List Item) (awake_next : List Bool) → get_or host.view.took_broadcast from false ≡ false → (host.view.has_computed ≡ true) ⊎ NoneIsSent host from
      → new.view ≡ after_broadcast from host.view next items awake_next
      → ((tag : ℕ) (marks : List Bool) (values : List Shown) → IsForm IsShown shown_bytes (list_at host.memo.spread_from from).globals payload tag marks values
      → TakesBroadcastOwn host reducer steps eq (list_at host.memo.spread_from from) (entries tag marks values) next items awake_next)
      → payload ≡ bytes_of_packet shown_size shown_bytes (broadcast_packet (run_of reducer steps item_size shown_size division) rounds from host.view.host)
      → TakesBroadcastIn reducer steps item_size shown_size division rounds host new from
  broadcast_serves shown_bytes eq eq_tells values next items awake_next first in_time becomes own came =
      let packet = broadcast_packet run rounds from host.view.host in
      let effect : TakesBroadcast run rounds from host.view next items awake_next
      = took_broadcast reducer steps item_size shown_size division rounds from host is serves stands there fact eq eq_tells values next items awake_next
      (own (tag_of shown_size packet) (marks_of packet) (map packet.value packet.ids)
      (form_of IsShown shown_bytes shown_size packet (list_at host.memo.spread_from from).globals payload ((knows division host is serves).spread_from from there) came
      (broadcasts_are_forms {IsItem = IsItem} {IsState = IsState} shown_bytes run rounds from host.view.host fact))) in
      let may : (host.view.has_computed ≡ true) ⊎ NoneIsWritten run.division from host.view = elim in_time [
        | inl computed ↦ inl computed
        | inr unsent ↦ inr (((knows division host is serves).none_is_sent from there).0 unsent)
      ] in
      record {
        becomes = record { next = next; items = items; awake_next = awake_next; effect = effect; becomes = becomes };
        stands = subst (StandsFor run rounds) (sym becomes) (told_stands run fact rounds host.view stands from on_hosts first next items awake_next effect may);
      }
