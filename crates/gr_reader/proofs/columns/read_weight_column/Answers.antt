use Rattle.std.proofs.Common.{ℕ, ◌≤◌, length, subst, arith}
use Rattle.gr_reader.specs.declared.section.Section.TheVariants as section
use Rattle.gr_reader.specs.File.{section_at, no_fault}
use Rattle.gr_reader.specs.Sections.{Came}
use Rattle.gr_reader.specs.ColumnLists.{AreWeights}
use Rattle.gr_reader.proofs.ColumnLaws.{TookWeightColumn-none, AreWeights-filled}
use Rattle.gr_reader.proofs.columns.read_weight_column.Goals as goal

pub read_section-requires-clause-start : goal.read_section-requires-clause-start
read_section-requires-clause-start g c = rw c.new.ensures.items TookWeightColumn-none

pub returns-clause-came : goal.returns-clause-came
returns-clause-came g c =
    let head = c.args.head in
    let came = c.in_ok-read_section.ensures.came in
    let some = c.read_section.new.intake.weights in
    let weights = c.resize.new.self.items in
    let enough : length came.numbers ≤ head.edges = omega (arith, came.taken.0, c.weight_length-want.ensures.most) in
    subst (λ (n : ℕ). Came (g.S.Source.left c.args.source.now) (g.S.Source.left c.read_section.new.source) (section_at section.Weights 4 n no_fault) (λ numbers. AreWeights head.edges weights numbers))
    c.weight_length-want.ensures.bytes
    (record {
      numbers = came.numbers;
      taken = AreWeights-filled head.edges _ some.items weights came.numbers came.taken.1 (omega (arith, some.ok.0)) enough c.in_ok-resize.ensures.items;
      means = came.means;
    })
