use Rattle.gluon_top.proofs.Outcomes.{told_written}
use Rattle.gluon_top.proofs.top.write_told.Goals as goal

pub returns : goal.returns
returns g c = λ answer is.
    told_written c.write_answers.result c.args.answers.now answer is c.write_answers.ensures.whole c.write_answers.ensures.quiet c.write_answers.ensures.rose c.write_answers.ensures.prefix c.status_after.ensures.ok c.status_after.ensures.failed
