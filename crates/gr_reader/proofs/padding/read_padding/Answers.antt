use Rattle.std.proofs.Common.{ℕ, inl, refl, subst}
use Rattle.std.proofs.lemmas.Result.{err_from_is_err_and}
use Rattle.gr_reader.specs.declared.section.Section.TheVariants as section
use Rattle.gr_reader.specs.File.{section_at, no_fault}
use Rattle.gr_reader.specs.Sections.{Came}
use Rattle.gr_reader.proofs.padding.read_padding.Goals as goal

pub read_section-requires-clause-size : goal.read_section-requires-clause-size
read_section-requires-clause-size g c = inl refl

pub read_section-requires-clause-first : goal.read_section-requires-clause-first
read_section-requires-clause-first g c = λ xs ys fault is. is

pub returns-in_err-read_section-clause-broke : goal.returns-in_err-read_section-clause-broke
returns-in_err-read_section-clause-broke g c =
    let p = err_from_is_err_and c.from_residual.result c.from_residual.ensures.1 in
    rw (p.1, p.2, ← c.padding_length-want.ensures.bytes) c.in_err-read_section.ensures.broke

pub returns-clause-came : goal.returns-clause-came
returns-clause-came g c =
    let came = c.in_ok-read_section.ensures.came in
    subst (λ (n : ℕ). Came (g.S.Source.left c.args.source.now) (g.S.Source.left c.read_section.new.source) (section_at section.Padding 4 n no_fault) (λ numbers. Unit {0}))
    c.padding_length-want.ensures.bytes (record { numbers = came.numbers; taken = tt; means = came.means })
