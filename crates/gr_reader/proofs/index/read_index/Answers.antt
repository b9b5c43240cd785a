use Rattle.std.proofs.Common.{ap, ◌∙◌, arith, inr, refl, length}
use Rattle.std.proofs.lemmas.Result.{err_from_is_err_and}
use Rattle.edge_columns.specs.Columns.{last_entry}
use Rattle.gr_reader.proofs.Falls.{entry_fault-front, NeverFalls-clear}
use Rattle.gr_reader.proofs.IndexLaws.{index_broke, index_ends, index_came}
use Rattle.gr_reader.proofs.index.read_index.Goals as goal

pub read_section-requires-clause-size : goal.read_section-requires-clause-size
read_section-requires-clause-size g c = inr refl

pub read_section-requires-clause-first : goal.read_section-requires-clause-first
read_section-requires-clause-first g c = entry_fault-front 0 0

pub returns-in_err-read_section-clause-broke : goal.returns-in_err-read_section-clause-broke
returns-in_err-read_section-clause-broke g c =
    let p = err_from_is_err_and c.from_residual.result c.from_residual.ensures.1 in
    rw (p.1, p.2) (index_broke c.args.head _ c.in_err-read_section.field-0.0 c.in_err-read_section.ensures.broke)

pub returns-then-index-head-clause-broke : goal.returns-then-index-head-clause-broke
returns-then-index-head-clause-broke g c =
    index_ends c.args.head _ _ c.read_section.new.intake.entries.items c.read_section.new.intake.before c.in_ok-read_section.ensures.came c.if-index-head.true

pub returns-clause-came : goal.returns-clause-came
returns-clause-came g c =
    index_came c.args.head _ _ c.read_section.new.intake.entries.items c.read_section.new.intake.before c.in_ok-read_section.ensures.came c.if-index-head.false

pub returns-clause-nodes : goal.returns-clause-nodes
returns-clause-nodes g c =
    let came = c.in_ok-read_section.ensures.came in
    omega (arith, came.taken.0, ap length came.taken.1.entries_are)

pub returns-clause-rising : goal.returns-clause-rising
returns-clause-rising g c =
    let took = c.in_ok-read_section.ensures.came.taken.1 in
    NeverFalls-clear 0 0 c.read_section.new.intake.entries.items (rw took.entries_are took.clear)

pub returns-clause-edges : goal.returns-clause-edges
returns-clause-edges g c =
    let took = c.in_ok-read_section.ensures.came.taken.1 in
    ap (last_entry 0) took.entries_are ∙ took.last ∙ c.if-index-head.false
