use Rattle.std.proofs.Common.{◌++◌, codes}
use Rattle.io_edge.proofs.Writings.{WroteFront-++, WroteFront-more, WroteBy-++, WroteBy-err}
use Rattle.answer_writer.specs.Report.{count_line}
use Rattle.answer_writer.proofs.report.write_counts.Goals as goal

pub returns-in_err-write_count : goal.returns-in_err-write_count
returns-in_err-write_count g c =
    let report = c.args.report.now in
    let rest = count_line (codes "packets") report.packets ++ (count_line (codes "bytes") report.bytes ++ count_line (codes "mirrors") report.mirrors) in
    let first = rw c.from.ensures at c.in_err-write_count.ensures.written.front in
    record { written = WroteBy-err c.from_residual.ensures.0 (WroteFront-more rest first) }

pub returns-in_err-write_count-2 : goal.returns-in_err-write_count-2
returns-in_err-write_count-2 g c =
    let report = c.args.report.now in
    let rest = count_line (codes "bytes") report.bytes ++ count_line (codes "mirrors") report.mirrors in
    let first = rw c.from.ensures at c.in_ok-write_count.ensures.written.all in
    let second = rw c.from-2.ensures at c.in_err-write_count-2.ensures.written.front in
    record { written = WroteBy-err c.from_residual-in_err-write_count-2.ensures.0 (WroteFront-++ first (WroteFront-more rest second)) }

pub returns-in_err-write_count-3 : goal.returns-in_err-write_count-3
returns-in_err-write_count-3 g c =
    let rest = count_line (codes "mirrors") c.args.report.now.mirrors in
    let first = rw c.from.ensures at c.in_ok-write_count.ensures.written.all in
    let second = rw c.from-2.ensures at c.in_ok-write_count-2.ensures.written.all in
    record { written = WroteBy-err c.from_residual-in_err-write_count-3.ensures.0 (WroteFront-++ first (WroteFront-++ second (WroteFront-more rest c.in_err-write_count-3.ensures.written.front))) }

pub returns : goal.returns
returns g c =
    let first = rw c.from.ensures at c.in_ok-write_count.ensures.written.all in
    let second = rw c.from-2.ensures at c.in_ok-write_count-2.ensures.written.all in
    let last = rw c.from-3.ensures at c.write_count-4.ensures.written in
    record { written = WroteBy-++ first (WroteBy-++ second (WroteBy-++ c.in_ok-write_count-3.ensures.written.all last)) }
