use Rattle.std.proofs.Common.{◌≡◌, ℕ, ◌<◌, ◌^◌, List, All, ap, subst, ◌∙◌, inl, refl}
use Rattle.std.proofs.lemmas.Result.{err_from_is_err_and}
use Rattle.graph_model.specs.declared.edge.Edge.{Edge}
use Rattle.gr_reader.specs.declared.section.Section.TheVariants as section
use Rattle.edge_columns.specs.Columns.{weighed}
use Rattle.gr_reader.specs.File.{section_at, no_fault}
use Rattle.gr_reader.specs.Sections.{Fixed, Came}
use Rattle.gr_reader.proofs.WeightLaws.{TookWeights-none}
use Rattle.gr_reader.proofs.weights.read_weights.Goals as goal

pub read_section-requires-clause-size : goal.read_section-requires-clause-size
read_section-requires-clause-size g c = inl refl

pub read_section-requires-clause-start : goal.read_section-requires-clause-start
read_section-requires-clause-start g c = TookWeights-none c.args.edges.items c.requires.ones

pub read_section-requires-clause-first : goal.read_section-requires-clause-first
read_section-requires-clause-first g c = λ xs ys fault is. is

pub returns-in_err-read_section-clause-broke : goal.returns-in_err-read_section-clause-broke
returns-in_err-read_section-clause-broke g c =
    let p = err_from_is_err_and c.from_residual.result c.from_residual.ensures.1 in
    rw (p.1, p.2, ← c.weight_length-want.ensures.bytes) c.in_err-read_section.ensures.broke

pub returns-clause-came : goal.returns-clause-came
returns-clause-came g c =
    let came = c.in_ok-read_section.ensures.came in
    let same = ap (λ (f : Fixed). f.edges) c.read_section.ensures.fixed ∙ c.requires.ones in
    let found = c.read_section.new.intake.edges.items in
    subst (λ (n : ℕ). Came (g.S.Source.left c.args.source.now) (g.S.Source.left c.read_section.new.source) (section_at section.Weights 4 n no_fault)
    (λ numbers. (found ≡ weighed c.args.edges.items numbers) × All (λ weight. weight < 2 ^ 32) numbers))
    c.weight_length-want.ensures.bytes
    (record { numbers = came.numbers; taken = (came.taken.1.edges_are ∙ ap (λ (l : List Edge). weighed l came.numbers) same, came.taken.1.light); means = came.means })
