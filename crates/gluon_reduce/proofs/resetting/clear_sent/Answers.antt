use Rattle.std.proofs.Common.{sym, ◌∙◌, arith}
use Rattle.list_laws.proofs.Members.{count_of-count_by}
use Rattle.field_encodings.specs.Lists.{marks_at}
use Rattle.gluon_reduce.proofs.Clearing.{without_none}
use Rattle.gluon_reduce.proofs.resetting.clear_sent.Goals as goal

pub returns-else-len-gt1 : goal.returns-else-len-gt1
returns-else-len-gt1 c =
    sym (without_none c.args.bits.now c.args.locals.now (sym (count_of-count_by (marks_at c.args.bits.now c.args.locals.now)) ∙ c.requires.none (omega arith)))
