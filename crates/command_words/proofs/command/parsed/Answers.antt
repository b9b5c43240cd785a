use Rattle.std.proofs.Common.{◌≡◌, ◌∙◌, ap, map, fold}
use Rattle.clap.specs.Simple.{app_of, with_rule}
use Rattle.clap.specs.declared.builder.action.ArgAction.TheVariants.{Set, SetTrue}
use Rattle.command_words.specs.Items.{option_names, flag_names}
use Rattle.command_words.specs.Found.{words_app, named_rule}
use Rattle.command_words.proofs.Reading.{refused_by, finds_by, fault_told}
use Rattle.command_words.proofs.command.parsed.Goals as goal

pub returns-in_err-try_get_matches_from-clause-refused : goal.returns-in_err-try_get_matches_from-clause-refused
returns-in_err-try_get_matches_from-clause-refused c = λ refused.
    let made : app_of c.in_ok-command-3.command ≡ words_app =
    c.in_ok-command-3.ensures
    ∙ ap (λ app. fold with_rule app (map (named_rule SetTrue) flag_names))
    (c.in_ok-command-2.ensures ∙ ap (λ app. fold with_rule app (map (named_rule Set) option_names)) c.in_ok-command.ensures) in
    refused_by c.args.words.now (app_of c.in_ok-command-3.command) made c.in_err-try_get_matches_from.field-0.0
    c.in_err-try_get_matches_from.ensures.kinds (fault_told c.from_residual-in_err-try_get_matches_from.result _ c.from_residual-in_err-try_get_matches_from.ensures.1 refused)

pub returns-clause-finds : goal.returns-clause-finds
returns-clause-finds c =
    let made : app_of c.in_ok-command-3.command ≡ words_app =
    c.in_ok-command-3.ensures
    ∙ ap (λ app. fold with_rule app (map (named_rule SetTrue) flag_names))
    (c.in_ok-command-2.ensures ∙ ap (λ app. fold with_rule app (map (named_rule Set) option_names)) c.in_ok-command.ensures) in
    finds_by c.args.words.now (app_of c.in_ok-command-3.command) made c.in_ok-try_get_matches_from.field-0
    c.in_ok-try_get_matches_from.ensures.kinds c.in_ok-try_get_matches_from.ensures.matches
