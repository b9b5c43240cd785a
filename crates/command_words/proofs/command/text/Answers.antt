use Rattle.std.proofs.Common.{rules, ◌∙◌}
use Rattle.command_words.proofs.Rows.{said_first, said_none}
use Rattle.clap.specs.Matches.{found_of}
use Rattle.command_words.proofs.command.text.Goals as goal
use Rattle.command_words.proofs.command.text.Goals.{in_default-via-in-Some+in_default, in_default-via-in_default}

pub returns-in-Some-CommandLine : goal.returns-in-Some-CommandLine
returns-in-Some-CommandLine c =
    c.get_str.ensures ∙ said_first (found_of c.args.matches.now) c.args.label.now (search rules)

pub returns-in_default : goal.returns-in_default
returns-in_default c =
    said_none (found_of c.args.matches.now) c.args.label.now (search rules)
