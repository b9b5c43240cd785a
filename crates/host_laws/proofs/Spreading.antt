-- A host that spreads stands for the same round: its masters settle as in the round of the whole graph.
use Rattle.std.proofs.Common.{◌≡◌, ℕ, zero, suc, ◌+◌, ◌<◌, ◌≤◌, true, false, Bool, cond, not, ◌&&◌, ◌==◌, List, ◌∷◌, length, get_or, refl, sym, ◌∙◌, ap, inl, inr, arith}
use Rattle.std.specs.List.{list_any, filter, range_with_len}
use Rattle.std.proofs.lemmas.Bool.{and_parts, eqb-true, cases_lt}
use Rattle.std.proofs.lemmas.Bool.Decides.{nat_tests}
use Rattle.reduce_laws.specs.ReductionLaws.{combined}
use Rattle.round_packets.specs.Runs.{Run, IsRun, state_of, shows, contribution}
use Rattle.graph_division.specs.Division.{hosts_of}
use Rattle.graph_division.specs.Lists.{reduce_list}
use Rattle.round_packets.specs.Packets.{carries}
use Rattle.round_packets.specs.RunPackets.{reduce_packet, gathered, given}
use Rattle.round_packets.proofs.Given.{settles_as_whole}
use Rattle.host_laws.specs.HostView.{HostView, vertex}
use Rattle.host_laws.specs.Standing.{StandsFor, was_told, sum_so_far, shows_next, HasAllReduced}
use Rattle.host_laws.specs.Effects.{Spreads, after_spread}

-- tests that agree on a range pick the same
filter_range : (p q : ℕ → Bool) (first count : ℕ) → ((k : ℕ) → k < first + count → p k ≡ q k) → filter p (range_with_len first count) ≡ filter q (range_with_len first count)
filter_range p q first zero agree = refl
filter_range p q first (suc count) agree =
    ap (λ b. cond b (first ∷ filter p (range_with_len (first + 1) count)) (filter p (range_with_len (first + 1) count))) (agree first (omega arith))
    ∙ ap (λ xs. cond (q first) (first ∷ xs) xs) (filter_range p q (first + 1) count (λ k h. agree k (omega arith)))

module _ {Program Item State Shown : Type 0} {IsItem : Item → Type 0} {IsShown : Shown → Type 0} {IsState : State → Type 0} (run : Run Item State Shown) (fact : IsRun IsItem IsShown IsState run) (rounds : ℕ) (view : HostView Program Item State Shown) (stands : StandsFor run rounds view) (computed : view.has_computed ≡ true) (complete : HasAllReduced run.division view) (waits : view.has_spread ≡ false) where
  -- a packet that carries a vertex was taken
  all_taken : (v from : ℕ) → from < run.division.hosts → (get_or view.took_reduce from false && carries run.item_size (reduce_packet run rounds from view.host) v) ≡ carries run.item_size (reduce_packet run rounds from view.host) v
  all_taken v from there = either (carries run.item_size (reduce_packet run rounds from view.host) v) refl
    where
      with_false : (b : Bool) → (b && false) ≡ false
      with_false true = refl
      with_false false = refl

      either : (b : Bool) → carries run.item_size (reduce_packet run rounds from view.host) v ≡ b → (get_or view.took_reduce from false && b) ≡ b
      either true goes = ap (λ b. b && true) (complete from v there (and_parts (list_any (λ id. id == v) (reduce_list run.division from view.host)) _ goes).0)
      either false stays = with_false (get_or view.took_reduce from false)

  -- a master of this host has been given all
  sum_is_given : (l : ℕ) → l < view.masters → sum_so_far run rounds view (vertex view l) ≡ given run rounds (vertex view l)
  sum_is_given l master =
      ap (λ b. run.reducer.combine (cond b (contribution run rounds view.host v) run.reducer.identity) (combined run.reducer (λ from. gathered run rounds from v) (filter (λ from. get_or view.took_reduce from false && carries run.item_size (reduce_packet run rounds from view.host) v) (hosts_of run.division)))) computed
      ∙ ap (λ xs. run.reducer.combine (contribution run rounds view.host v) (combined run.reducer (λ from. gathered run rounds from v) xs))
      (filter_range (λ from. get_or view.took_reduce from false && carries run.item_size (reduce_packet run rounds from view.host) v) (λ from. carries run.item_size (reduce_packet run rounds from view.host) v) 0 run.division.hosts (λ from h. all_taken v from (omega arith)))
      ∙ ap (λ host. run.reducer.combine (contribution run rounds host v) (combined run.reducer (λ from. gathered run rounds from v) (filter (λ from. carries run.item_size (reduce_packet run rounds from host) v) (hosts_of run.division)))) (sym home)
    where
      v : ℕ
      v = vertex view l

      within : l < length view.vertices
      within = let fit = stands.share.masters_fit in omega arith

      home : run.division.master v ≡ view.host
      home = eqb-true (run.division.master v) view.host (stands.share.masters_first l within ∙ grind (arith, nat_tests))

  within_of : (l : ℕ) → l < view.masters → l < length view.vertices
  within_of l master = let fit = stands.share.masters_fit in omega arith

  at_home : (l : ℕ) → l < view.masters → (run.division.master (vertex view l) == view.host) ≡ true
  at_home l master = stands.share.masters_first l (within_of l master) ∙ grind (arith, nat_tests)

  module _ (states : List State) (next : List Shown) (items : List Item) (awake_next : List Bool) (effect : Spreads run view states next items awake_next) where
    settled : (l : ℕ) (s : State) → l < view.masters → get_or states l s ≡ state_of run (suc rounds) (vertex view l)
    settled l s master =
        let v = vertex view l in
        effect.settles l s run.reducer.identity master
        ∙ ap (λ x. run.steps.settle x (get_or view.items l run.reducer.identity)) (stands.states l s master ∙ ap (λ b. state_of run (cond b (suc rounds) rounds) v) waits)
        ∙ ap (run.steps.settle (state_of run rounds v)) (stands.sums l run.reducer.identity master ∙ ap (λ b. cond b run.reducer.identity (sum_so_far run rounds view v)) waits ∙ sum_is_given l master)
        ∙ settles_as_whole run fact rounds v (stands.share.are_nodes l (within_of l master))

    shown_next : (l : ℕ) (y : Shown) → l < view.masters → get_or next l y ≡ shows run (suc rounds) (vertex view l)
    shown_next l y master = let s = state_of run rounds (vertex view l) in effect.shows_next_state l s y master ∙ ap run.steps.shown (settled l s master)

    -- masters show their new state next, and mirrors what they did
    next_of : (l : ℕ) → l < view.masters → shows_next run rounds (after_spread view states next items awake_next) (vertex view l) ≡ shows run (suc rounds) (vertex view l)
    next_of l master = ap (λ b. cond (cond b true (was_told run.division view (vertex view l))) (shows run (suc rounds) (vertex view l)) (shows run rounds (vertex view l))) (at_home l master)

    same_next : (l : ℕ) → view.masters ≤ l → l < length view.vertices → shows_next run rounds view (vertex view l) ≡ shows_next run rounds (after_spread view states next items awake_next) (vertex view l)
    same_next l mirror within =
        ap (λ b. cond (cond b view.has_spread (was_told run.division view v)) (shows run (suc rounds) v) (shows run rounds v)) away
        ∙ sym (ap (λ b. cond (cond b true (was_told run.division view v)) (shows run (suc rounds) v) (shows run rounds v)) away)
      where
        v : ℕ
        v = vertex view l

        away : (run.division.master v == view.host) ≡ false
        away = stands.share.masters_first l within ∙ grind (arith, nat_tests)

    pub spread_stands : StandsFor run rounds (after_spread view states next items awake_next)
    spread_stands = record {
      share = record {
        is_host = stands.share.is_host;
        are_nodes = stands.share.are_nodes;
        masters_first = stands.share.masters_first;
        masters_fit = stands.share.masters_fit;
        masters_are = stands.share.masters_are;
        reduce_by_host = stands.share.reduce_by_host;
        broadcast_by_host = stands.share.broadcast_by_host;
      };
      computed_first = λ _. computed;
      reduced_first = λ _. complete;
      states = settled;
      shown = stands.shown;
      awake = stands.awake;
      next = λ l d within lit. elim (cases_lt l view.masters) [
        | inl master ↦ shown_next l d master ∙ sym (next_of l master)
        | inr mirror ↦ effect.next_of_mirrors l d mirror ∙ stands.next l d within lit ∙ same_next l mirror within
      ];
      awake_next = λ l within lit. elim (cases_lt l view.masters) [
        | inl master ↦ let y = shows run rounds (vertex view l) in
            effect.wakes l y master
            ∙ ap (λ x. not (run.steps.same x (get_or next l y))) (stands.shown l y within lit)
            ∙ ap (λ x. not (run.steps.same (shows run rounds (vertex view l)) x)) (shown_next l y master ∙ sym (next_of l master))
        | inr mirror ↦ effect.awake_of_mirrors l mirror ∙ stands.awake_next l within lit
            ∙ ap (λ x. not (run.steps.same (shows run rounds (vertex view l)) x)) (same_next l mirror within)
      ];
      sums = λ l d master. effect.sums l d master;
      keeps = λ l d mirror within written. effect.items_of_mirrors l d mirror ∙ stands.keeps l d mirror within written;
      told_early = stands.told_early;
    }
