use Rattle.std.proofs.Common.{ℕ, List, ◌++◌, codes, slice_index_or, ap, sym, ◌∙◌}
use Rattle.std.proofs.lemmas.Option.{get_or_from_slice_get}
use Rattle.io_edge.proofs.Writings.{WroteFront-++, WroteFront-more, WroteBy-++, WroteBy-err}
use Rattle.graph_model.specs.declared.edge.Way.{Way}
use Rattle.graph_division.specs.Shares.{Share, proxies_here}
use Rattle.proxy_graph.specs.Heads.{vertex_at}
use Rattle.partition_text.specs.Hosts.{number_after, flags_end}
use Rattle.io_edge.proofs.Texts.{all_as, front_as, by_as}
use Rattle.partition_text.proofs.hosts.write_proxy.Goals as goal

-- what follows the vertex, and the host
abbrev master_text : Way → Share → (v : ℕ) → List ℕ
master_text way share v = number_after (codes " ") (slice_index_or share.masters v 0) ++ flags_end way share v

abbrev vertex_text : Way → Share → (v : ℕ) → List ℕ
vertex_text way share v = number_after (codes " ") v ++ master_text way share v

pub returns-in_err-write_number_after : goal.returns-in_err-write_number_after
returns-in_err-write_number_after g c =
    let share = c.args.graph.now in
    let first = front_as (ap (number_after (codes "proxy ")) (c.from.ensures ∙ c.host.ensures.host)) c.in_err-write_number_after.ensures.written.front in
    record { written = WroteBy-err c.from_residual.ensures.0 (WroteFront-more (vertex_text c.args.way share (vertex_at share c.args.lid)) first) }

pub returns-in_err-write_number_after-2 : goal.returns-in_err-write_number_after-2
returns-in_err-write_number_after-2 g c =
    let share = c.args.graph.now in
    let vertex = c.from-2.ensures ∙ sym (get_or_from_slice_get (proxies_here share) c.args.lid c.global.result 0 c.global.ensures.vertex) in
    let first = all_as (ap (number_after (codes "proxy ")) (c.from.ensures ∙ c.host.ensures.host)) c.in_ok-write_number_after.ensures.written.all in
    let second = front_as (ap (number_after (codes " ")) vertex) c.in_err-write_number_after-2.ensures.written.front in
    record { written = WroteBy-err c.from_residual-in_err-write_number_after-2.ensures.0 (WroteFront-++ first (WroteFront-more (master_text c.args.way share (vertex_at share c.args.lid)) second)) }

pub returns-in_err-write_number_after-3 : goal.returns-in_err-write_number_after-3
returns-in_err-write_number_after-3 g c =
    let share = c.args.graph.now in
    let vertex = c.from-2.ensures ∙ sym (get_or_from_slice_get (proxies_here share) c.args.lid c.global.result 0 c.global.ensures.vertex) in
    let first = all_as (ap (number_after (codes "proxy ")) (c.from.ensures ∙ c.host.ensures.host)) c.in_ok-write_number_after.ensures.written.all in
    let second = all_as (ap (number_after (codes " ")) vertex) c.in_ok-write_number_after-2.ensures.written.all in
    let third = front_as (ap (number_after (codes " ")) (c.from-3.ensures ∙ c.master_of.ensures.master)) c.in_err-write_number_after-3.ensures.written.front in
    record { written = WroteBy-err c.from_residual-in_err-write_number_after-3.ensures.0 (WroteFront-++ first (WroteFront-++ second (WroteFront-more (flags_end c.args.way share (vertex_at share c.args.lid)) third))) }

pub returns : goal.returns
returns g c =
    let share = c.args.graph.now in
    let vertex = c.from-2.ensures ∙ sym (get_or_from_slice_get (proxies_here share) c.args.lid c.global.result 0 c.global.ensures.vertex) in
    let first = all_as (ap (number_after (codes "proxy ")) (c.from.ensures ∙ c.host.ensures.host)) c.in_ok-write_number_after.ensures.written.all in
    let second = all_as (ap (number_after (codes " ")) vertex) c.in_ok-write_number_after-2.ensures.written.all in
    let third = all_as (ap (number_after (codes " ")) (c.from-3.ensures ∙ c.master_of.ensures.master)) c.in_ok-write_number_after-3.ensures.written.all in
    let last = by_as c.flags.ensures c.write_whole.ensures.written in
    record { written = WroteBy-++ first (WroteBy-++ second (WroteBy-++ third last)) }
