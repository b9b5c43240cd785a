use Rattle.std.proofs.Common.{◌≡◌, ◌<◌, ◌^◌, ◌∙◌, ℕ, Option, map, ap, arith}
use Rattle.std.specs.List.{range_with_len}
use Rattle.std.specs.Option.{ForSome}
use Rattle.std.proofs.lemmas.List.Elements.{All-same}
use Rattle.graph_model.specs.declared.edge.Way.TheVariants.{Outward}
use Rattle.graph_model.specs.Least.{bfs_fares}
use Rattle.graph_maker.specs.Summary.{summary_of}
use Rattle.trial_runs.proofs.FromRuns.{bfs_here, labels_end, tells_least, small_answers, length_told, root_starts}
use Rattle.trial_runs.proofs.programs.distances.Goals as goal

pub answers_at_last-requires-clause-ends : goal.answers_at_last-requires-clause-ends
answers_at_last-requires-clause-ends g c =
    labels_end 4 (bfs_fares 0) c.args.rules c.args.hosts c.args.list.now Outward (bfs_here c.args.rules c.args.hosts c.args.list.now c.requires.hosts c.requires.graph)

pub summarize-requires-clause-few : goal.summarize-requires-clause-few
summarize-requires-clause-few g c =
    let long = length_told c.deref.result.now c.in_ok-answers.answers.items _ c.args.list.now.nodes c.deref.ensures.value c.in_ok-answers.ensures.last.told in
    omega arith

pub summarize-requires-clause-small : goal.summarize-requires-clause-small
summarize-requires-clause-small g c =
    All-same (λ (answer : Option ℕ). ForSome answer (λ x. x < 2 ^ 32)) _ _ c.deref.ensures.value
    (small_answers 4 (bfs_fares 0) c.args.rules c.args.hosts c.args.list.now Outward (bfs_here c.args.rules c.args.hosts c.args.list.now c.requires.hosts c.requires.graph)
    c.in_ok-answers.answers.items _ _ c.in_ok-answers.ensures.last (root_starts 0) (λ k d within. omega arith) c.requires.few)

pub returns-clause-tells : goal.returns-clause-tells
returns-clause-tells g c =
    tells_least 4 (bfs_fares 0) c.args.rules c.args.hosts c.args.list.now Outward (bfs_here c.args.rules c.args.hosts c.args.list.now c.requires.hosts c.requires.graph)
    c.in_ok-answers.answers.items _ _ c.in_ok-answers.ensures.last (λ least. c.summarize.result ≡ summary_of (map least (range_with_len 0 c.args.list.now.nodes)))
    (c.summarize.ensures ∙ ap summary_of (c.deref.ensures.value ∙ c.in_ok-answers.ensures.last.told))
