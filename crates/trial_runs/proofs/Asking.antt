-- The picks of four runs, one after the other.
use Rattle.std.proofs.Common.{◌≡◌, ℕ, ◌+◌, Bool, Option, ap, ◌∙◌}
use Rattle.std.specs.Prelude.{option_map}
use Rattle.graph_model.specs.Graph.{Graph}
use Rattle.graph_model.specs.declared.edge.Way.TheVariants.{Outward, Both}
use Rattle.graph_model.specs.Least.{bfs_fares, sssp_fares, cc_fares}
use Rattle.edge_owner.specs.declared.rules.Rules.{Rules}
use Rattle.memo_exchange.specs.Asks.{asked_after}
use Rattle.run_engine.proofs.Asking.{asked_both}
use Rattle.trial_runs.specs.Trials.{picks_of, AsksForTrial}
use Rattle.trial_runs.specs.Runs.{TellsLeast, TellsCore}

-- four in a row
in_a_row : (a b c d : ℕ) (first second third fourth last : Option ℕ)
    → second ≡ option_map (asked_after a) first → third ≡ option_map (asked_after b) second → fourth ≡ option_map (asked_after c) third → last ≡ option_map (asked_after d) fourth
    → last ≡ option_map (asked_after (a + b + c + d)) first
in_a_row a b c d first second third fourth last by_a by_b by_c by_d =
    let two : third ≡ option_map (asked_after (a + b)) first = by_b ∙ ap (option_map (asked_after b)) by_a ∙ asked_both a b first in
    let three : fourth ≡ option_map (asked_after (a + b + c)) first = by_c ∙ ap (option_map (asked_after c)) two ∙ asked_both (a + b) c first in
    by_d ∙ ap (option_map (asked_after d)) three ∙ asked_both (a + b + c) d first

module _ (rules : Rules) (hosts : ℕ) (graph : Graph) {OfBfs OfSssp OfCc : (ℕ → Option ℕ) → Type 0} {OfCore : (ℕ → Bool) → Type 0} where
  pub asks_for_trial : (first second third fourth last : Option ℕ)
      → TellsLeast (bfs_fares 0) Outward rules hosts graph OfBfs first second
      → TellsLeast (sssp_fares 0) Outward rules hosts graph OfSssp second third
      → TellsLeast cc_fares Both rules hosts graph OfCc third fourth
      → TellsCore 8 Both rules hosts graph OfCore fourth last
      → AsksForTrial rules hosts graph first last
  asks_for_trial first second third fourth last bfs sssp cc_run kcore = record {
    bfs = bfs.rounds;
    sssp = sssp.rounds;
    cc = cc_run.rounds;
    kcore = kcore.rounds;
    takes_bfs = bfs.takes;
    takes_sssp = sssp.takes;
    takes_cc = cc_run.takes;
    takes_kcore = kcore.takes;
    asked =
        in_a_row (picks_of rules hosts graph Outward bfs.rounds) (picks_of rules hosts graph Outward sssp.rounds) (picks_of rules hosts graph Both cc_run.rounds) (picks_of rules hosts graph Both kcore.rounds)
        first second third fourth last bfs.asked sssp.asked cc_run.asked kcore.asked;
  }
