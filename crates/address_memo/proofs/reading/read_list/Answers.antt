use Rattle.std.proofs.Common.{◌≤◌, ◌/◌, ◌∙◌, length, sym, ap, subst, arith}
use Rattle.list_laws.specs.LittleEndian.{whole_numbers}
use Rattle.list_laws.proofs.WholeNumbers.{length-numbers}
use Rattle.graph_division.specs.Shares.{nodes_of}
use Rattle.address_memo.specs.Memos.{Proxies, AreMasters}
use Rattle.address_memo.proofs.Turns.{read_in_turn}
use Rattle.address_memo.proofs.Masters.{fault_falls, fault_unknown, id_known, one_more, read_whole, are_proxies, are_masters, few_read}
use Rattle.address_memo.proofs.reading.read_list.Goals as goal

pub returns-then-id-low-clause-fault : goal.returns-then-id-low-clause-fault
returns-then-id-low-clause-fault c = λ other.
    let turn = read_in_turn 4 (length c.args.text.now / 4) c.args.text.now c.loop-i.i c.number_at-id.result c.loop-i-test.true c.number_at-id.ensures in
    fault_falls c.args.graph.now (whole_numbers 4 c.args.text.now) c.loop-i.locals.items c.loop-i.globals.items c.loop-i.i c.loop-i.low c.number_at-id.result 0 c.loop-i.invariant turn.0 turn.1 c.args.first c.if-id-low.true

pub returns-in_default-clause-fault : goal.returns-in_default-clause-fault
returns-in_default-clause-fault c = λ other.
    let turn = read_in_turn 4 (length c.args.text.now / 4) c.args.text.now c.loop-i.i c.number_at-id.result c.loop-i-test.true c.number_at-id.ensures in
    fault_unknown c.args.graph.now (whole_numbers 4 c.args.text.now) c.loop-i.locals.items c.loop-i.globals.items c.loop-i.i c.loop-i.low c.number_at-id.result 0 c.loop-i.invariant turn.0 turn.1 c.args.first c.if-id-low.false c.in_default.ensures

pub overflow_add-low : goal.overflow_add-low
overflow_add-low c =
    let turn = read_in_turn 4 (length c.args.text.now / 4) c.args.text.now c.loop-i.i c.number_at-id.result c.loop-i-test.true c.number_at-id.ensures in
    let known = id_known c.args.graph.now (whole_numbers 4 c.args.text.now) c.loop-i.locals.items c.loop-i.globals.items c.loop-i.i c.loop-i.low c.number_at-id.result c.in-Some.lid c.loop-i.invariant turn.0 turn.1 c.in-Some.ensures in
    let fit = c.nodes.ensures.facts.nodes_fit in
    omega arith

pub loop-i-preserved : goal.loop-i-preserved
loop-i-preserved c =
    let turn = read_in_turn 4 (length c.args.text.now / 4) c.args.text.now c.loop-i.i c.number_at-id.result c.loop-i-test.true c.number_at-id.ensures in
    let more = one_more c.args.graph.now (whole_numbers 4 c.args.text.now) c.loop-i.locals.items c.loop-i.globals.items c.loop-i.i c.loop-i.low c.number_at-id.result c.in-Some.lid c.loop-i.invariant turn.0 turn.1 c.if-id-low.false c.in-Some.ensures in
    rw (c.in_ok-push.ensures.items, c.in_ok-push-2.ensures.items) more

pub new-requires : goal.new-requires
new-requires c =
    let long = length-numbers 4 (length c.args.text.now / 4) c.args.text.now in
    let done = c.loop-i-test.false in
    let last = c.loop-i.auto.i-end in
    are_proxies c.args.graph.now (whole_numbers 4 c.args.text.now) c.loop-i.locals.items c.loop-i.globals.items c.loop-i.i c.loop-i.low c.loop-i.invariant (omega arith) (omega arith)

pub returns-clause-list : goal.returns-clause-list
returns-clause-list c =
    let long = length-numbers 4 (length c.args.text.now / 4) c.args.text.now in
    let done = c.loop-i-test.false in
    let last = c.loop-i.auto.i-end in
    subst (AreMasters c.args.graph.now) (sym c.new.ensures) (are_masters c.args.graph.now (whole_numbers 4 c.args.text.now) c.loop-i.locals.items c.loop-i.globals.items c.loop-i.i c.loop-i.low c.loop-i.invariant (omega arith) (omega arith))

pub returns-clause-ids : goal.returns-clause-ids
returns-clause-ids c =
    let long = length-numbers 4 (length c.args.text.now / 4) c.args.text.now in
    let done = c.loop-i-test.false in
    let last = c.loop-i.auto.i-end in
    ap (λ (list : Proxies). list.globals) c.new.ensures ∙ read_whole c.args.graph.now (whole_numbers 4 c.args.text.now) c.loop-i.locals.items c.loop-i.globals.items c.loop-i.i c.loop-i.low c.loop-i.invariant (omega arith) (omega arith)

pub returns-clause-few : goal.returns-clause-few
returns-clause-few c =
    let long = length-numbers 4 (length c.args.text.now / 4) c.args.text.now in
    let done = c.loop-i-test.false in
    let last = c.loop-i.auto.i-end in
    subst (λ (list : Proxies). length list.globals ≤ nodes_of c.args.graph.now) (sym c.new.ensures)
    (few_read c.args.graph.now (whole_numbers 4 c.args.text.now) c.loop-i.locals.items c.loop-i.globals.items c.loop-i.i c.loop-i.low c.loop-i.invariant (omega arith) (omega arith))
