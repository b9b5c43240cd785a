use Rattle.cluster_laws.proofs.Ending.{steps_keep, nothing_left, closes, packets_stay, lengths_stay}
use Rattle.cluster_laws.proofs.Tallying.{woken_are_changed}
use Rattle.cluster_laws.proofs.laws.one_round.Goals as goal
use Rattle.std.proofs.Common.{arith, ◌≡◌, ◌+◌, ℕ}
use Rattle.cluster_laws.specs.Cluster.{yet_to_come}

pub returns-clause-steps : goal.returns-clause-steps
returns-clause-steps g c run rounds count first cluster fact between steps = steps_keep run fact rounds first between count cluster steps

pub returns-clause-round : goal.returns-clause-round
returns-clause-round g c run rounds count first cluster new fact between steps over close =
    let kept = steps_keep run fact rounds first between count cluster steps in
    record {
      stands = closes run fact rounds cluster kept.0 over new close;
      events = all_come count (yet_to_come run.division cluster) _ kept.1 (nothing_left run fact rounds cluster kept.0 over);
      packets = packets_stay run fact rounds cluster kept.0 over new close;
      lengths = lengths_stay run fact rounds cluster kept.0 over new close;
      new_shown = woken_are_changed run fact rounds cluster kept.0 over;
    }
  where
    all_come : (n left total : ℕ) → n + left ≡ total → left ≡ 0 → n ≡ total
    all_come n left total e none = omega (arith, e, none)
