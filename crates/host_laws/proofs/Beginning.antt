-- A fresh host stands for the moment before the first round.
use Rattle.std.proofs.Common.{◌≡◌, ℕ, true, false, Bool, cond, not, ◌&&◌, ◌||◌, ◌==◌, get_or, refl, sym, ◌∙◌, ap}
use Rattle.std.specs.List.{filter}
use Rattle.std.proofs.lemmas.Bool.{both_ways}
use Rattle.reduce_laws.specs.ReductionLaws.{combined}
use Rattle.round_packets.specs.Runs.{Run, IsRun, state_of, shows, contribution}
use Rattle.graph_division.specs.Division.{hosts_of}
use Rattle.graph_division.specs.Lists.{is_readable}
use Rattle.round_packets.specs.Packets.{carries}
use Rattle.round_packets.specs.RunPackets.{reduce_packet, kept, gathered}
use Rattle.round_packets.proofs.Shares.{shows_value}
use Rattle.host_laws.specs.HostView.{HostView, vertex}
use Rattle.host_laws.specs.Standing.{StandsFor, IsFresh, was_told, sum_so_far, shows_next}
use Rattle.host_laws.proofs.Closing.{filter_all, not_both}

module _ {Program Item State Shown : Type 0} {IsItem : Item → Type 0} {IsShown : Shown → Type 0} {IsState : State → Type 0} (run : Run Item State Shown) (fact : IsRun IsItem IsShown IsState run) (view : HostView Program Item State Shown) (fresh : IsFresh run view) where
  -- nobody knows more than the start
  shows_start : (v : ℕ) → shows_next run 0 view v ≡ shows run 0 v
  shows_start v =
      ap (λ b. cond (cond (run.division.master v == view.host) b (was_told run.division view v)) (shows run 1 v) (shows run 0 v)) fresh.not_spread
      ∙ ap (λ b. cond (cond (run.division.master v == view.host) false b) (shows run 1 v) (shows run 0 v)) (fresh.no_broadcast (run.division.master v))
      ∙ either (run.division.master v == view.host)
    where
      either : (b : Bool) → cond (cond b false false) (shows run 1 v) (shows run 0 v) ≡ shows run 0 v
      either true = refl
      either false = refl

  nothing_yet : (v : ℕ) → sum_so_far run 0 view v ≡ run.reducer.identity
  nothing_yet v =
      ap (λ b. run.reducer.combine (cond b (contribution run 0 view.host v) run.reducer.identity) (combined run.reducer (λ from. gathered run 0 from v) (filter (λ from. get_or view.took_reduce from false && carries run.item_size (reduce_packet run 0 from view.host) v) (hosts_of run.division)))) fresh.not_computed
      ∙ ap (λ xs. run.reducer.combine run.reducer.identity (combined run.reducer (λ from. gathered run 0 from v) xs))
      (filter_all (λ from. get_or view.took_reduce from false && carries run.item_size (reduce_packet run 0 from view.host) v)
      (λ from. not_both (get_or view.took_reduce from false) _ (fresh.no_reduce from)) (hosts_of run.division))
      ∙ fact.reduction.combine-identity run.reducer.identity fact.reduction.identity_is_value

  pub fresh_stands : StandsFor run 0 view
  unfolding kept
  fresh_stands = record {
    share = fresh.share;
    computed_first = λ h. absurd (both_ways view.has_spread fresh.not_spread h);
    reduced_first = λ h. absurd (both_ways view.has_spread fresh.not_spread h);
    states = λ l d master. fresh.start l d master ∙ ap (λ b. state_of run (cond b 1 0) (vertex view l)) (sym fresh.not_spread);
    shown = λ l d within lit. fresh.shown l d within;
    awake = λ l within lit. fresh.awake l within;
    next = λ l d within lit. fresh.next l d within ∙ sym (shows_start (vertex view l));
    awake_next = λ l within lit.
        let below = fresh.share.are_nodes l within in
        fresh.asleep_next l within
        ∙ sym (ap (λ y. not (run.steps.same (shows run 0 (vertex view l)) y)) (shows_start (vertex view l))
        ∙ ap not ((fact.program.same_tells (shows run 0 (vertex view l)) (shows run 0 (vertex view l)) (shows_value run fact 0 (vertex view l) below) (shows_value run fact 0 (vertex view l) below)).1 refl));
    sums = λ l d master. fresh.sums l d master ∙ sym (ap (λ b. cond b run.reducer.identity (sum_so_far run 0 view (vertex view l))) fresh.not_spread ∙ nothing_yet (vertex view l));
    keeps = λ l d mirror within written. fresh.keeps l d mirror within
        ∙ sym (ap (λ b. cond (not b) (kept run 0 view.host (vertex view l)) (cond (not run.reducer.keeps || (was_told run.division view (vertex view l) && is_readable run.division view.host (vertex view l))) (kept run 1 view.host (vertex view l)) (gathered run 0 view.host (vertex view l)))) fresh.not_computed);
    told_early = λ _ l mirror within told. absurd (both_ways (was_told run.division view (vertex view l)) (fresh.no_broadcast (run.division.master (vertex view l))) told);
  }
