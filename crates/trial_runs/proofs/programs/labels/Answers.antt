use Rattle.std.proofs.Common.{◌≡◌, ◌∙◌}
use Rattle.graph_model.specs.declared.edge.Way.TheVariants.{Both}
use Rattle.graph_model.specs.Least.{cc_fares}
use Rattle.trial_runs.specs.Trials.{own_labels}
use Rattle.trial_runs.proofs.Counts.{own_labels_told}
use Rattle.trial_runs.proofs.FromRuns.{cc_here, labels_end, tells_least}
use Rattle.trial_runs.proofs.programs.labels.Goals as goal

pub answers_at_last-requires-clause-ends : goal.answers_at_last-requires-clause-ends
answers_at_last-requires-clause-ends g c =
    labels_end 4 cc_fares c.args.rules c.args.hosts c.args.list.now Both (cc_here c.args.rules c.args.hosts c.args.list.now c.requires.hosts c.requires.graph)

pub returns-clause-tells : goal.returns-clause-tells
returns-clause-tells g c =
    tells_least 4 cc_fares c.args.rules c.args.hosts c.args.list.now Both (cc_here c.args.rules c.args.hosts c.args.list.now c.requires.hosts c.requires.graph)
    c.in_ok-answers.answers.items _ _ c.in_ok-answers.ensures.last (λ least. c.count_own.result ≡ own_labels c.args.list.now.nodes least)
    (c.count_own.ensures ∙ own_labels_told c.deref.result.now c.in_ok-answers.answers.items _ c.args.list.now.nodes c.deref.ensures.value c.in_ok-answers.ensures.last.told)
