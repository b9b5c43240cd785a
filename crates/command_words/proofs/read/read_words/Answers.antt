use Rattle.std.proofs.Common.{◌≡◌, ◌∙◌, sym, subst}
use Rattle.std.specs.Prelude.{IfOk, Some}
use Rattle.command_words.specs.Items.{texts_of}
use Rattle.command_words.specs.Found.{said_by}
use Rattle.command_words.specs.Jobs.{job_of}
use Rattle.command_words.proofs.Reading.{job_of_is, means_from, refused_from}
use Rattle.command_words.proofs.read.read_words.Goals as goal

pub returns-clause-means : goal.returns-clause-means
returns-clause-means c =
    let words = texts_of c.args.words.now in
    let job = job_of_is words (said_by c.in_ok-matches.matches) c.in_ok-matches.ensures.finds ∙ sym c.job.ensures in
    subst (λ r. IfOk r (λ job. job_of words ≡ Some job)) (sym c.ok_or.ensures.value) (means_from words c.job.result job)

pub returns-clause-refused : goal.returns-clause-refused
returns-clause-refused c = λ refused.
    let words = texts_of c.args.words.now in
    let job = job_of_is words (said_by c.in_ok-matches.matches) c.in_ok-matches.ensures.finds ∙ sym c.job.ensures in
    refused_from words c.job.result job (sym c.ok_or.ensures.value ∙ refused)
