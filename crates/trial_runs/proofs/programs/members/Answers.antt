use Rattle.std.proofs.Common.{◌≡◌, ◌<◌, ◌^◌, ◌∙◌, ℕ, List, length, Option, ap, arith}
use Rattle.std.specs.Prelude.{sum}
use Rattle.std.specs.List.{filter, range_with_len}
use Rattle.std.specs.Option.{ForSome}
use Rattle.std.proofs.lemmas.List.Elements.{All-same}
use Rattle.graph_model.specs.declared.edge.Way.TheVariants.{Both}
use Rattle.graph_maker.specs.Summary.{present}
use Rattle.graph_maker.specs.declared.summary.Summary.{Summary}
use Rattle.trial_runs.proofs.Counts.{sum_of_members}
use Rattle.trial_runs.proofs.FromRuns.{kcore_here, core_ends, in_core, member_answers, tells_core, small_bits, length_told}
use Rattle.trial_runs.proofs.programs.members.Goals as goal

pub answers_at_last-requires-clause-ends : goal.answers_at_last-requires-clause-ends
answers_at_last-requires-clause-ends g c =
    core_ends 8 c.args.rules c.args.hosts c.args.list.now Both (kcore_here c.args.rules c.args.hosts c.args.list.now c.requires.hosts c.requires.graph)

pub summarize-requires-clause-few : goal.summarize-requires-clause-few
summarize-requires-clause-few g c =
    let long = length_told c.deref.result.now c.in_ok-answers.answers.items _ c.args.list.now.nodes c.deref.ensures.value c.in_ok-answers.ensures.last.told in
    omega arith

pub summarize-requires-clause-small : goal.summarize-requires-clause-small
summarize-requires-clause-small g c =
    All-same (λ (answer : Option ℕ). ForSome answer (λ x. x < 2 ^ 32)) _ _ c.deref.ensures.value
    (small_bits 8 c.args.rules c.args.hosts c.args.list.now Both (kcore_here c.args.rules c.args.hosts c.args.list.now c.requires.hosts c.requires.graph) c.in_ok-answers.answers.items _ _ c.in_ok-answers.ensures.last)

pub returns-clause-tells : goal.returns-clause-tells
returns-clause-tells g c =
    let finds = kcore_here c.args.rules c.args.hosts c.args.list.now c.requires.hosts c.requires.graph in
    tells_core 8 c.args.rules c.args.hosts c.args.list.now Both finds c.in_ok-answers.answers.items _ _ c.in_ok-answers.ensures.last
    (λ core. c.summarize.result.sum ≡ length (filter core (range_with_len 0 c.args.list.now.nodes)))
    (ap (λ (summary : Summary). summary.sum) c.summarize.ensures
    ∙ ap (λ (list : List (Option ℕ)). sum (present list)) (c.deref.ensures.value ∙ member_answers 8 c.args.rules c.args.hosts c.args.list.now Both finds c.in_ok-answers.answers.items _ _ c.in_ok-answers.ensures.last)
    ∙ sum_of_members (in_core 8 c.args.rules c.args.hosts c.args.list.now Both finds) c.args.list.now.nodes 0)
