use Rattle.std.proofs.Common.{◌≡◌, ◌≤◌, None}
use Rattle.std.specs.List.{slice_index_or}
use Rattle.trial_runs.specs.Trials.{own_labels}
use Rattle.trial_runs.proofs.measures.count_own.Given as goal

abbrev pub invariant-loop-v : goal.invariant-loop-v
invariant-loop-v l = record {
  so_far : l.count ≡ own_labels l.v (λ v. slice_index_or l.labels v None);
  few : l.count ≤ l.v;
}
