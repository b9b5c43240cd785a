use Rattle.std.proofs.Common.{◌≤◌, ap, subst}
use Rattle.std.proofs.lemmas.List.Elements.{All-same}
use Rattle.graph_model.specs.Graph.{Graph}
use Rattle.graph_model.specs.declared.edge.Edge.{Edge}
use Rattle.trial_runs.specs.Trials.{AsksForTrial}
use Rattle.trial_runs.proofs.Asking.{asks_for_trial}
use Rattle.trial_runs.proofs.Light.{made_light}
use Rattle.trial_runs.proofs.trying.run_trial.Goals as goal

pub costs-requires-clause-light : goal.costs-requires-clause-light
costs-requires-clause-light g c =
    All-same (λ (edge : Edge). edge.weight ≤ 1000) _ _ (ap (λ (graph : Graph). graph.edges) c.in_ok-list.ensures.made) (made_light c.args.size c.args.number)

pub returns-clause-asked : goal.returns-clause-asked
returns-clause-asked g c =
    subst (λ (graph : Graph). AsksForTrial c.args.rules c.args.hosts graph (g.K.Picker.asked c.args.picker.now) (g.K.Picker.asked c.members.new.picker)) c.in_ok-list.ensures.made
    (asks_for_trial c.args.rules c.args.hosts c.in_ok-list.list _ _ _ _ _ c.in_ok-distances.ensures.tells c.in_ok-costs.ensures.tells c.in_ok-labels.ensures.tells c.in_ok-members.ensures.tells)
