use Rattle.std.proofs.Common.{◌≡◌, ℕ, List, codes, slice_get, get_or, ◌<◌, Some, length, sym, ap, ◌∙◌, arith}
use Rattle.std.proofs.lemmas.Option.{slice_get-get_or}
use Rattle.packet_table.specs.declared.channel_spec.Leg.{Leg}
use Rattle.graph_division.specs.Partition.{division_of}
use Rattle.address_memo.specs.Memos.{Memos, Proxies}
use Rattle.partition_text.specs.Lists.{list_line, line_between}
use Rattle.partition_text.proofs.FewHosts.{lists_with_each}
use Rattle.io_edge.proofs.Texts.{by_as}
use Rattle.partition_text.proofs.lists.write_list_between.Goals as goal

-- a memo stands at its place
memo_at : (memos : List Memos) (i : ℕ) (memo : Memos) → i < length memos → memo ≡ get_or memos i memo → slice_get memos i ≡ Some memo
memo_at memos i memo within is = slice_get-get_or memos i memo within ∙ ap (λ (m : Memos). Some m) (sym is)

pub list-list-requires : goal.list-list-requires
list-list-requires g c =
    let agreed = c.requires.agreed in
    let each = agreed.agree.each in
    let memo = c.index-memos-to.result in
    let at = memo_at c.args.agreed.memos.now c.args.to memo (omega arith) c.index-memos-to.is in
    let hosts = lists_with_each c.args.agreed.way c.args.agreed.graphs.now c.args.agreed.memos.now c.args.to memo agreed.partition agreed.agree at c.requires.to in
    omega arith

pub list-list-requires-in-Spread : goal.list-list-requires-in-Spread
list-list-requires-in-Spread g c =
    let agreed = c.requires.agreed in
    let each = agreed.agree.each in
    let memo = c.index-memos-from.result in
    let at = memo_at c.args.agreed.memos.now c.args.from memo (omega arith) c.index-memos-from.is in
    let hosts = lists_with_each c.args.agreed.way c.args.agreed.graphs.now c.args.agreed.memos.now c.args.from memo agreed.partition agreed.agree at c.requires.from in
    omega arith

pub returns-in-Reduce : goal.returns-in-Reduce
returns-in-Reduce g c =
    let agree = c.requires.agreed.agree in
    let each = agree.each in
    let memo = c.index-memos-to.result in
    let at = memo_at c.args.agreed.memos.now c.args.to memo (omega arith) c.index-memos-to.is in
    let held = c.globals.ensures.globals ∙ ap (λ (list : Proxies). list.globals) c.list-list.ensures.list ∙ agree.reduce_from c.args.to c.args.from memo at c.requires.from in
    let division = division_of c.args.agreed.way c.args.agreed.graphs.now in
    record {
      written = by_as (ap (list_line (codes "reduce ") c.args.from c.args.to) held ∙ ap (λ (leg : Leg). line_between leg division c.args.from c.args.to) (sym c.in-Reduce.is)) c.write_list.ensures.written;
    }

pub returns-in-Spread : goal.returns-in-Spread
returns-in-Spread g c =
    let agree = c.requires.agreed.agree in
    let each = agree.each in
    let memo = c.index-memos-from.result in
    let at = memo_at c.args.agreed.memos.now c.args.from memo (omega arith) c.index-memos-from.is in
    let held = c.globals-in-Spread.ensures.globals ∙ ap (λ (list : Proxies). list.globals) c.list-list-in-Spread.ensures.list ∙ agree.spread_to c.args.from c.args.to memo at c.requires.to in
    let division = division_of c.args.agreed.way c.args.agreed.graphs.now in
    record {
      written = by_as (ap (list_line (codes "spread ") c.args.from c.args.to) held ∙ ap (λ (leg : Leg). line_between leg division c.args.from c.args.to) (sym c.in-Spread.is)) c.write_list-in-Spread.ensures.written;
    }
