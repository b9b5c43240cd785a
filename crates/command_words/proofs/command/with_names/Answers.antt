use Rattle.std.proofs.Common.{◌∙◌, ◌<◌, ap, map, fold, length, arith}
use Rattle.std.proofs.lemmas.List.{take_all}
use Rattle.clap.specs.Simple.{app_of, with_rule}
use Rattle.clap.specs.Walk.{rule_of}
use Rattle.command_words.specs.Found.{named_rule}
use Rattle.command_words.proofs.Growing.{one_name_more}
use Rattle.command_words.proofs.command.with_names.Goals as goal

pub loop-name-preserved : goal.loop-name-preserved
loop-name-preserved c =
    let inside : c.loop-name.name-index < length c.args.names.now = omega arith in
    let shape = c.in_ok-command.ensures.shape c.named.ensures.own in
    shape ∙ ap (λ app. with_rule app (rule_of c.named.result)) c.loop-name.invariant
    ∙ one_name_more (app_of c.args.command) (λ name. named_rule c.args.action name.now) c.args.names.now c.loop-name.name-index _ (rule_of c.named.result) inside c.named.ensures.rule

pub returns : goal.returns
returns c =
    c.loop-name.invariant
    ∙ ap (λ names. fold with_rule (app_of c.args.command) (map (λ name. named_rule c.args.action name.now) names)) (take_all c.loop-name.name-index c.args.names.now (omega arith))
