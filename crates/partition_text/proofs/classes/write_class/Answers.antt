use Rattle.std.proofs.Common.{ap, sym}
use Rattle.io_edge.proofs.Writings.{WroteBy-++}
use Rattle.answer_writer.specs.Report.{class_line}
use Rattle.io_edge.proofs.Texts.{by_as}
use Rattle.partition_text.proofs.classes.write_class.Goals as goal

pub returns-then-holds : goal.returns-then-holds
returns-then-holds g c =
    let name = rw c.as_bytes.ensures.value at c.in_ok-write_whole.ensures.written.all in
    record { written = by_as (ap (class_line c.args.name.now) (sym c.if-holds.true)) (WroteBy-++ name c.write_whole-then-holds.ensures.written) }

pub returns-else-holds : goal.returns-else-holds
returns-else-holds g c =
    let name = rw c.as_bytes.ensures.value at c.in_ok-write_whole.ensures.written.all in
    record { written = by_as (ap (class_line c.args.name.now) (sym c.if-holds.false)) (WroteBy-++ name c.write_whole-else-holds.ensures.written) }
