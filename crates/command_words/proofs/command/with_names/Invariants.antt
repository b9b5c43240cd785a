use Rattle.std.proofs.Common.{◌≡◌, map, take, fold}
use Rattle.clap.specs.Simple.{app_of, with_rule}
use Rattle.command_words.specs.Found.{named_rule}
use Rattle.command_words.proofs.command.with_names.Given as goal

abbrev pub invariant-loop-name : goal.invariant-loop-name
invariant-loop-name l =
    app_of l.command ≡ fold with_rule (app_of l.fn.command) (map (λ name. named_rule l.action name.now) (take l.name-index l.names))
