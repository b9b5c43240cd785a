-- A host that takes a reduce packet stands for the same round.
use Rattle.std.proofs.Common.{◌≡◌, ℕ, ◌<◌, true, false, Bool, cond, ◌&&◌, Some, None, List, length, set, get_or, refl, sym, ◌∙◌, ap, subst, inl, inr, arith}
use Rattle.std.specs.List.{filter}
use Rattle.std.proofs.lemmas.Bool.{both_ways}
use Rattle.std.proofs.lemmas.Bool.Decides.{eqb_tells}
use Rattle.std.proofs.lemmas.List.{length-set, get_or-set_same, get_or-set_other}
use Rattle.reduce_laws.specs.ReductionLaws.{combined}
use Rattle.reduce_laws.proofs.Combining.{each, value_or_identity, combined-filter, combined_same, combined_is_value, combine_identity}
use Rattle.round_packets.proofs.Turns.{at_turn, takes_turn}
use Rattle.round_packets.specs.Runs.{Run, IsRun, contribution}
use Rattle.graph_division.specs.Division.{hosts_of}
use Rattle.round_packets.specs.Packets.{carries, carried_value}
use Rattle.round_packets.specs.RunPackets.{reduce_packet, gathered}
use Rattle.round_packets.proofs.Shares.{contribution_is_value}
use Rattle.round_packets.proofs.Absorbing.{gathered_is_value}
use Rattle.host_laws.specs.HostView.{HostView, vertex}
use Rattle.host_laws.specs.Standing.{StandsFor, sum_so_far}
use Rattle.host_laws.specs.Effects.{and_maybe, TakesReduce, after_reduce}

module _ {Program Item State Shown : Type 0} {IsItem : Item → Type 0} {IsShown : Shown → Type 0} {IsState : State → Type 0} (run : Run Item State Shown) (fact : IsRun IsItem IsShown IsState run) (rounds : ℕ) (view : HostView Program Item State Shown) where
  -- whether a host's reduce packet carries a vertex to this host
  sends : ℕ → ℕ → Bool
  sends v from = carries run.item_size (reduce_packet run rounds from view.host) v

  -- what it has for the vertex, or nothing
  sent : ℕ → ℕ → Item
  sent v from = cond (sends v from) (gathered run rounds from v) run.reducer.identity

  sent_is_value : (v from : ℕ) → v < run.division.nodes → IsItem (sent v from)
  unfolding sent
  sent_is_value v from below = value_or_identity fact.reduction (sends v from) (gathered run rounds from v) (gathered_is_value run fact rounds from v below)

  -- the same if its packet was taken, by this list
  taken : List Bool → ℕ → ℕ → Item
  taken took v from = cond (get_or took from false && sends v from) (gathered run rounds from v) run.reducer.identity

  taken_is_value : (took : List Bool) (v from : ℕ) → v < run.division.nodes → IsItem (taken took v from)
  unfolding taken
  taken_is_value took v from below = value_or_identity fact.reduction (get_or took from false && sends v from) (gathered run rounds from v) (gathered_is_value run fact rounds from v below)

  -- what all packets that were taken come to
  by_taken : (took : List Bool) (v : ℕ) → v < run.division.nodes → combined run.reducer (λ from. gathered run rounds from v) (filter (λ from. get_or took from false && sends v from) (hosts_of run.division)) ≡ combined run.reducer (taken took v) (hosts_of run.division)
  unfolding taken
  by_taken took v below =
      combined-filter fact.reduction (λ from. gathered run rounds from v) (λ from. get_or took from false && sends v from) (hosts_of run.division)
      (each (λ from. IsItem (gathered run rounds from v)) (λ from. gathered_is_value run fact rounds from v below) (hosts_of run.division))

  -- one packet more
  one_more : (took : List Bool) (v from : ℕ) (below : v < run.division.nodes) → from < run.division.hosts → from < length took → get_or took from false ≡ false → combined run.reducer (taken (set took from true) v) (hosts_of run.division) ≡ run.reducer.combine (sent v from) (combined run.reducer (taken took v) (hosts_of run.division))
  unfolding taken sent at_turn
  one_more took v from below there within fresh =
      combined_same fact.reduction (taken (set took from true) v) turned (hosts_of run.division) (each (λ h. taken (set took from true) v h ≡ turned h) same_at (hosts_of run.division))
      ∙ sym (takes_turn fact.reduction (sent v) (λ h. sent_is_value v h below) (taken took v) (λ h. taken_is_value took v h below) from free 0 run.division.hosts (omega arith) (omega arith))
    where
      free : taken took v from ≡ run.reducer.identity
      free = ap (λ b. cond (b && sends v from) (gathered run rounds from v) run.reducer.identity) fresh

      turned : ℕ → Item
      turned = at_turn fact.reduction (sent v) (λ h. sent_is_value v h below) (taken took v) (λ h. taken_is_value took v h below) from free

      same_at : (h : ℕ) → taken (set took from true) v h ≡ turned h
      same_at h = elim (eqb_tells h from) [
        | inl same ↦ ap (λ b. cond (b && sends v h) (gathered run rounds h v) run.reducer.identity) (ap (λ n. get_or (set took from true) n false) same.1 ∙ get_or-set_same took from true false within)
            ∙ ap (λ n. sent v n) same.1
            ∙ ap (λ b. cond b (sent v from) (taken took v h)) (sym same.0)
        | inr other ↦ ap (λ b. cond (b && sends v h) (gathered run rounds h v) run.reducer.identity) (get_or-set_other took from h true false other.1)
            ∙ ap (λ b. cond b (sent v from) (taken took v h)) (sym other.0)
      ]

  -- what the host's own arcs brought so far
  own : ℕ → Item
  own v = cond view.has_computed (contribution run rounds view.host v) run.reducer.identity

  own_is_value : (v : ℕ) → IsItem (own v)
  unfolding own
  own_is_value v = value_or_identity fact.reduction view.has_computed (contribution run rounds view.host v) (contribution_is_value run fact rounds view.host v)

  -- so a sum gains what the packet carries
  sum_gains : (v from : ℕ) (items : List Item) (below : v < run.division.nodes) → from < run.division.hosts → from < length view.took_reduce → get_or view.took_reduce from false ≡ false
      → sum_so_far run rounds (after_reduce from view items) v ≡ and_maybe run.reducer (sum_so_far run rounds view v) (carried_value run.item_size (reduce_packet run rounds from view.host) v)
  unfolding own sends sent
  sum_gains v from items below there within fresh =
      ap (run.reducer.combine (own v)) (by_taken (set view.took_reduce from true) v below ∙ one_more view.took_reduce v from below there within fresh)
      ∙ to_front
      ∙ ap (λ x. run.reducer.combine x (sent v from)) (ap (run.reducer.combine (own v)) (sym (by_taken view.took_reduce v below)))
      ∙ maybe (sends v from) refl
    where
      rest : Item
      rest = combined run.reducer (taken view.took_reduce v) (hosts_of run.division)

      rest_is_value : IsItem rest
      rest_is_value = combined_is_value fact.reduction (taken view.took_reduce v) (hosts_of run.division) (each (λ h. IsItem (taken view.took_reduce v h)) (λ h. taken_is_value view.took_reduce v h below) (hosts_of run.division))

      to_front : run.reducer.combine (own v) (run.reducer.combine (sent v from) rest) ≡ run.reducer.combine (run.reducer.combine (own v) rest) (sent v from)
      to_front = ap (run.reducer.combine (own v)) (fact.reduction.combine_comm (sent v from) rest (sent_is_value v from below) rest_is_value)
          ∙ sym (fact.reduction.combine_assoc (own v) rest (sent v from) (own_is_value v) rest_is_value (sent_is_value v from below))

      sum_is_value : IsItem (sum_so_far run rounds view v)
      sum_is_value = fact.reduction.combine_is_value (own v) (combined run.reducer (λ h. gathered run rounds h v) (filter (λ h. get_or view.took_reduce h false && sends v h) (hosts_of run.division))) (own_is_value v)
          (subst IsItem (sym (by_taken view.took_reduce v below)) rest_is_value)

      maybe : (b : Bool) → sends v from ≡ b → run.reducer.combine (sum_so_far run rounds view v) (sent v from) ≡ and_maybe run.reducer (sum_so_far run rounds view v) (carried_value run.item_size (reduce_packet run rounds from view.host) v)
      maybe true goes = ap (λ b. run.reducer.combine (sum_so_far run rounds view v) (cond b (gathered run rounds from v) run.reducer.identity)) goes
          ∙ ap (λ b. and_maybe run.reducer (sum_so_far run rounds view v) (cond b (Some (gathered run rounds from v)) None)) (sym goes)
      maybe false stays = ap (λ b. run.reducer.combine (sum_so_far run rounds view v) (cond b (gathered run rounds from v) run.reducer.identity)) stays
          ∙ combine_identity fact.reduction (sum_so_far run rounds view v) sum_is_value
          ∙ ap (λ b. and_maybe run.reducer (sum_so_far run rounds view v) (cond b (Some (gathered run rounds from v)) None)) (sym stays)

  pub took_reduce_stands : StandsFor run rounds view → (from : ℕ) (items : List Item) → TakesReduce run rounds from view items → from < run.division.hosts → get_or view.took_reduce from false ≡ false → view.has_spread ≡ false → StandsFor run rounds (after_reduce from view items)
  took_reduce_stands stands from items effect there fresh early = record {
    share = record {
      is_host = stands.share.is_host;
      are_nodes = stands.share.are_nodes;
      masters_first = stands.share.masters_first;
      masters_fit = stands.share.masters_fit;
      masters_are = stands.share.masters_are;
      reduce_by_host = length-set view.took_reduce from true ∙ stands.share.reduce_by_host;
      broadcast_by_host = stands.share.broadcast_by_host;
    };
    computed_first = stands.computed_first;
    reduced_first = λ h. absurd (both_ways view.has_spread early h);
    states = stands.states;
    shown = stands.shown;
    awake = stands.awake;
    next = stands.next;
    awake_next = stands.awake_next;
    sums = λ l d master.
        let v = vertex view l in
        let within : l < length view.vertices = let fit = stands.share.masters_fit in omega arith in
        let long = stands.share.reduce_by_host in
        effect.masters l d master
        ∙ ap (λ x. and_maybe run.reducer x (carried_value run.item_size (reduce_packet run rounds from view.host) v))
        (stands.sums l d master ∙ ap (λ b. cond b run.reducer.identity (sum_so_far run rounds view v)) early)
        ∙ sym (sum_gains v from items (stands.share.are_nodes l within) there (omega arith) fresh)
        ∙ ap (λ b. cond b run.reducer.identity (sum_so_far run rounds (after_reduce from view items) v)) (sym early);
    keeps = λ l d mirror within written. effect.mirrors l d mirror ∙ stands.keeps l d mirror within written;
    told_early = stands.told_early;
  }
