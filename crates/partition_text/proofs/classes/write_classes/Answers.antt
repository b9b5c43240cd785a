use Rattle.std.proofs.Common.{◌++◌, ap, codes}
use Rattle.io_edge.proofs.Writings.{WroteFront-++, WroteFront-more, WroteBy-++, WroteBy-err}
use Rattle.answer_writer.specs.Report.{class_line}
use Rattle.graph_division.specs.Classes.{has_in, has_both, no_mirror}
use Rattle.io_edge.proofs.Texts.{all_as, front_as, by_as}
use Rattle.partition_text.proofs.classes.write_classes.Goals as goal

pub returns-in_err-write_class : goal.returns-in_err-write_class
returns-in_err-write_class g c =
    let graphs = c.args.graphs.now in
    let rest = class_line (codes "no-in") (no_mirror has_in graphs) ++ class_line (codes "no-both") (no_mirror has_both graphs) in
    let first = front_as (ap (class_line (codes "no-out")) c.classes-classes.ensures.no_out) c.in_err-write_class.ensures.written.front in
    record { written = WroteBy-err c.from_residual.ensures.0 (WroteFront-more rest first) }

pub returns-in_err-write_class-2 : goal.returns-in_err-write_class-2
returns-in_err-write_class-2 g c =
    let rest = class_line (codes "no-both") (no_mirror has_both c.args.graphs.now) in
    let first = all_as (ap (class_line (codes "no-out")) c.classes-classes.ensures.no_out) c.in_ok-write_class.ensures.written.all in
    let second = front_as (ap (class_line (codes "no-in")) c.classes-classes.ensures.no_in) c.in_err-write_class-2.ensures.written.front in
    record { written = WroteBy-err c.from_residual-in_err-write_class-2.ensures.0 (WroteFront-++ first (WroteFront-more rest second)) }

pub returns : goal.returns
returns g c =
    let first = all_as (ap (class_line (codes "no-out")) c.classes-classes.ensures.no_out) c.in_ok-write_class.ensures.written.all in
    let second = all_as (ap (class_line (codes "no-in")) c.classes-classes.ensures.no_in) c.in_ok-write_class-2.ensures.written.all in
    let last = by_as (ap (class_line (codes "no-both")) c.classes-classes.ensures.no_both) c.write_class-3.ensures.written in
    record { written = WroteBy-++ first (WroteBy-++ second last) }
