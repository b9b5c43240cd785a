use Rattle.std.proofs.Common.{rules, ◌∙◌, sym}
use Rattle.command_words.proofs.Numbers.{number_unread}
use Rattle.command_words.proofs.values.number.Goals as goal

pub returns-in_err-value : goal.returns-in_err-value
returns-in_err-value c =
    c.from_residual.ensures ∙ sym (number_unread c.args.least c.args.most c.args.text.now (search rules) (search rules) (search rules))
