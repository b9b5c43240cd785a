-- A host that computes stands for the same round.
use Rattle.std.proofs.Common.{◌≡◌, ℕ, suc, ◌<◌, ◌≤◌, true, false, Bool, cond, not, ◌&&◌, ◌||◌, List, length, get_or, refl, sym, ◌∙◌, ap, inl, inr, arith}
use Rattle.std.specs.List.{filter}
use Rattle.std.proofs.lemmas.Bool.{cases_Bool, both_ways}
use Rattle.reduce_laws.specs.ReductionLaws.{combined}
use Rattle.reduce_laws.proofs.Combining.{each, combined_is_value}
use Rattle.round_packets.specs.Runs.{Run, IsRun, contribution}
use Rattle.graph_division.specs.Division.{hosts_of}
use Rattle.graph_division.specs.Lists.{is_readable, is_writable}
use Rattle.round_packets.specs.Packets.{carries}
use Rattle.round_packets.specs.RunPackets.{reduce_packet, kept, gathered}
use Rattle.round_packets.proofs.Shares.{contribution_is_value}
use Rattle.round_packets.proofs.Absorbing.{gathered_is_value, kept_is_identity}
use Rattle.host_laws.specs.HostView.{HostView, vertex}
use Rattle.host_laws.specs.Standing.{StandsFor, was_told, sum_so_far, kept_so_far}
use Rattle.host_laws.specs.Effects.{Computes, after_compute}

module _ {Program Item State Shown : Type 0} {IsItem : Item → Type 0} {IsShown : Shown → Type 0} {IsState : State → Type 0} (run : Run Item State Shown) (fact : IsRun IsItem IsShown IsState run) (rounds : ℕ) (view : HostView Program Item State Shown) (stands : StandsFor run rounds view) (early : view.has_computed ≡ false) where
  not_spread : view.has_spread ≡ false
  not_spread = elim (cases_Bool view.has_spread) [ inl spread ↦ absurd (both_ways view.has_computed early (stands.computed_first spread)) | inr waits ↦ waits ]

  -- what came by packets
  came : ℕ → Item
  came v = combined run.reducer (λ from. gathered run rounds from v) (filter (λ from. get_or view.took_reduce from false && carries run.item_size (reduce_packet run rounds from view.host) v) (hosts_of run.division))

  came_is_value : (v : ℕ) → v < run.division.nodes → IsItem (came v)
  unfolding came
  came_is_value v below =
      combined_is_value fact.reduction (λ from. gathered run rounds from v) (filter (λ from. get_or view.took_reduce from false && carries run.item_size (reduce_packet run rounds from view.host) v) (hosts_of run.division))
      (each (λ from. IsItem (gathered run rounds from v)) (λ from. gathered_is_value run fact rounds from v below) (filter (λ from. get_or view.took_reduce from false && carries run.item_size (reduce_packet run rounds from view.host) v) (hosts_of run.division)))

  -- a sum gains what the host's arcs bring
  sum_gains : (v : ℕ) (items : List Item) → v < run.division.nodes → run.reducer.combine (sum_so_far run rounds view v) (contribution run rounds view.host v) ≡ sum_so_far run rounds (after_compute view items) v
  unfolding came
  sum_gains v items below =
      ap (λ b. run.reducer.combine (run.reducer.combine (cond b (contribution run rounds view.host v) run.reducer.identity) (came v)) (contribution run rounds view.host v)) early
      ∙ ap (λ x. run.reducer.combine x (contribution run rounds view.host v)) (fact.reduction.combine-identity (came v) (came_is_value v below))
      ∙ fact.reduction.combine_comm (came v) (contribution run rounds view.host v) (came_is_value v below) (contribution_is_value run fact rounds view.host v)

  -- a mirror that is written was not told yet, so it keeps what it gathered, or nothing
  mirror_gains : (l : ℕ) (items : List Item) → view.masters ≤ l → l < length view.vertices → is_writable run.division view.host (vertex view l) ≡ true
      → cond run.reducer.keeps (gathered run rounds view.host (vertex view l)) run.reducer.identity ≡ kept_so_far run rounds (after_compute view items) (vertex view l)
  mirror_gains l items mirror within written =
      step run.reducer.keeps refl
      ∙ ap (λ b. cond (not run.reducer.keeps || b) (kept run (suc rounds) view.host v) (gathered run rounds view.host v)) (sym untold)
    where
      v : ℕ
      v = vertex view l

      -- told and read, it would not be written
      untold : (was_told run.division view v && is_readable run.division view.host v) ≡ false
      untold = either (was_told run.division view v) refl (is_readable run.division view.host v) refl
        where
          either : (t : Bool) → was_told run.division view v ≡ t → (r : Bool) → is_readable run.division view.host v ≡ r → (t && r) ≡ false
          either false told r read = refl
          either true told false read = refl
          either true told true read = absurd (both_ways (is_writable run.division view.host v) (stands.told_early early l mirror within told read) written)

      step : (b : Bool) → run.reducer.keeps ≡ b → cond b (gathered run rounds view.host v) run.reducer.identity ≡ cond (not b || false) (kept run (suc rounds) view.host v) (gathered run rounds view.host v)
      step true keeps = refl
      step false resets = sym (kept_is_identity run fact resets (suc rounds) view.host v (stands.share.are_nodes l within))

  pub computed_stands : (items : List Item) → Computes run rounds view items → StandsFor run rounds (after_compute view items)
  computed_stands items effect = record {
    share = record {
      is_host = stands.share.is_host;
      are_nodes = stands.share.are_nodes;
      masters_first = stands.share.masters_first;
      masters_fit = stands.share.masters_fit;
      masters_are = stands.share.masters_are;
      reduce_by_host = stands.share.reduce_by_host;
      broadcast_by_host = stands.share.broadcast_by_host;
    };
    computed_first = λ _. refl;
    reduced_first = stands.reduced_first;
    states = stands.states;
    shown = stands.shown;
    awake = stands.awake;
    next = stands.next;
    awake_next = stands.awake_next;
    sums = λ l d master.
        let v = vertex view l in
        let within : l < length view.vertices = let fit = stands.share.masters_fit in omega arith in
        effect.masters l d master
        ∙ ap (λ x. run.reducer.combine x (contribution run rounds view.host v)) (stands.sums l d master ∙ ap (λ b. cond b run.reducer.identity (sum_so_far run rounds view v)) not_spread)
        ∙ sum_gains v items (stands.share.are_nodes l within)
        ∙ ap (λ b. cond b run.reducer.identity (sum_so_far run rounds (after_compute view items) v)) (sym not_spread);
    keeps = λ l d mirror within written.
        let v = vertex view l in
        effect.mirrors l d mirror within written
        ∙ ap (λ x. cond run.reducer.keeps (run.reducer.combine x (contribution run rounds view.host v)) run.reducer.identity)
        (stands.keeps l d mirror within written
        ∙ ap (λ b. cond (not b) (kept run rounds view.host v) (cond (not run.reducer.keeps || (was_told run.division view v && is_readable run.division view.host v)) (kept run (suc rounds) view.host v) (gathered run rounds view.host v))) early)
        ∙ mirror_gains l items mirror within written;
    told_early = λ h. absurd (both_ways true h refl);
  }
