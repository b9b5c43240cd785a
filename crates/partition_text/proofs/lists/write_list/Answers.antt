use Rattle.std.proofs.Common.{◌∷◌, [], codes, length, ap, sym, ◌∙◌}
use Rattle.std.proofs.lemmas.Bool.{eqb-false}
use Rattle.io_edge.proofs.Writings.{WroteFront-++, WroteFront-more, WroteBy-++, WroteBy-err}
use Rattle.partition_text.specs.Hosts.{number_after}
use Rattle.partition_text.proofs.ListLines.{vertices_text, to_text, full_line}
use Rattle.io_edge.proofs.Texts.{all_as, front_as, by_as}
use Rattle.partition_text.proofs.lists.write_list.Goals as goal

pub returns-in_err-write_number_after : goal.returns-in_err-write_number_after
returns-in_err-write_number_after g c =
    let vertices = c.args.vertices.now in
    let full = full_line c.args.before.now c.args.from c.args.to vertices (eqb-false (length vertices) 0 (sym c.is_empty.ensures ∙ c.if-is_empty.false)) in
    let first = front_as (ap (number_after c.args.before.now) c.from.ensures) c.in_err-write_number_after.ensures.written.front in
    record { written = WroteBy-err c.from_residual.ensures.0 (front_as full (WroteFront-more (to_text c.args.to vertices) first)) }

pub returns-in_err-write_number_after-2 : goal.returns-in_err-write_number_after-2
returns-in_err-write_number_after-2 g c =
    let vertices = c.args.vertices.now in
    let full = full_line c.args.before.now c.args.from c.args.to vertices (eqb-false (length vertices) 0 (sym c.is_empty.ensures ∙ c.if-is_empty.false)) in
    let first = all_as (ap (number_after c.args.before.now) c.from.ensures) c.in_ok-write_number_after.ensures.written.all in
    let second = front_as (ap (number_after (codes " ")) c.from-2.ensures) c.in_err-write_number_after-2.ensures.written.front in
    record { written = WroteBy-err c.from_residual-in_err-write_number_after-2.ensures.0 (front_as full (WroteFront-++ first (WroteFront-more (vertices_text vertices) second))) }

pub returns-in_err-write_vertices : goal.returns-in_err-write_vertices
returns-in_err-write_vertices g c =
    let vertices = c.args.vertices.now in
    let full = full_line c.args.before.now c.args.from c.args.to vertices (eqb-false (length vertices) 0 (sym c.is_empty.ensures ∙ c.if-is_empty.false)) in
    let first = all_as (ap (number_after c.args.before.now) c.from.ensures) c.in_ok-write_number_after.ensures.written.all in
    let second = all_as (ap (number_after (codes " ")) c.from-2.ensures) c.in_ok-write_number_after-2.ensures.written.all in
    let third = WroteFront-more (10 ∷ []) c.in_err-write_vertices.ensures.written.front in
    record { written = WroteBy-err c.from_residual-in_err-write_vertices.ensures.0 (front_as full (WroteFront-++ first (WroteFront-++ second third))) }

pub returns : goal.returns
returns g c =
    let vertices = c.args.vertices.now in
    let full = full_line c.args.before.now c.args.from c.args.to vertices (eqb-false (length vertices) 0 (sym c.is_empty.ensures ∙ c.if-is_empty.false)) in
    let first = all_as (ap (number_after c.args.before.now) c.from.ensures) c.in_ok-write_number_after.ensures.written.all in
    let second = all_as (ap (number_after (codes " ")) c.from-2.ensures) c.in_ok-write_number_after-2.ensures.written.all in
    let last = WroteBy-++ c.in_ok-write_vertices.ensures.written.all c.write_whole.ensures.written in
    record { written = by_as full (WroteBy-++ first (WroteBy-++ second last)) }
