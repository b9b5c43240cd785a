use Rattle.std.proofs.Common.{rules, ◌≡◌, ◌∙◌, ap, refl, sym, true, false, None}
use Rattle.std.specs.Prelude.{if◌then◌else◌}
use Rattle.command_words.specs.Found.{said_by}
use Rattle.command_words.specs.Jobs.{has_only, options_of, job_named as job_of_name}
use Rattle.command_words.proofs.Reading.{only_is, job_said_is}
use Rattle.command_words.proofs.read.job.Goals as goal

pub returns-then-has_only : goal.returns-then-has_only
returns-then-has_only c =
    let say = said_by c.args.matches.now in
    let only : has_only (options_of c.in_ok-name.name) say ≡ true =
    sym (only_is c.has_only.result _ c.options.result.now (options_of c.in_ok-name.name) say c.has_only.ensures refl c.options.ensures) ∙ c.if-has_only.true in
    c.job_named.ensures
    ∙ sym (job_said_is say c.in_ok-text.field-0.now c.in_ok-name.name (search rules) (search rules)
    ∙ ap (λ b. if b then job_of_name c.in_ok-name.name say else None) only)

pub returns-else-has_only : goal.returns-else-has_only
returns-else-has_only c =
    let say = said_by c.args.matches.now in
    let only : has_only (options_of c.in_ok-name.name) say ≡ false =
    sym (only_is c.has_only.result _ c.options.result.now (options_of c.in_ok-name.name) say c.has_only.ensures refl c.options.ensures) ∙ c.if-has_only.false in
    sym (job_said_is say c.in_ok-text.field-0.now c.in_ok-name.name (search rules) (search rules)
    ∙ ap (λ b. if b then job_of_name c.in_ok-name.name say else None) only)
