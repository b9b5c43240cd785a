use Rattle.std.proofs.Common.{◌≡◌, ◌≤◌, ◌*◌, ◌^◌, take}
use Rattle.graph_maker.specs.Summary.{summary_of}
use Rattle.trial_runs.proofs.measures.summarize.Given as goal

abbrev pub invariant-loop-answer : goal.invariant-loop-answer
invariant-loop-answer l = record {
  so_far : l.summary ≡ summary_of (take l.answer-index l.answers);
  few : l.summary.reached ≤ l.answer-index;
  small : l.summary.sum ≤ l.answer-index * 2 ^ 32;
}
