use Rattle.std.proofs.Common.{◌*◌, ◌∙◌, take, drop, length, sym, ap, arith}
use Rattle.std.proofs.lemmas.List.{take_rest}
use Rattle.std.proofs.lemmas.Result.{err_from_is_err_and}
use Rattle.list_laws.specs.LittleEndian.{AreBytes, whole_numbers}
use Rattle.list_laws.proofs.WholeNumbers.{AreBytes-from_get_or}
use Rattle.graph_division.specs.Shares.{masters_here}
use Rattle.address_memo.specs.Payload.{payload}
use Rattle.address_memo.specs.Checks.{reduce_count, spread_ids, ids_fault}
use Rattle.address_memo.proofs.Masters.{ids_of_masters, no_fault}
use Rattle.address_memo.proofs.Payloads.{payload_is, fault_of_length, fault_of_reduce, fault_of_spread, only_memory, reduce_many}
use Rattle.address_memo.proofs.reading.read_memo.Goals as goal

pub returns-in_default-clause-accepts : goal.returns-in_default-clause-accepts
returns-in_default-clause-accepts c =
    only_memory c.args.graph.now c.args.bytes.now _ c.nodes.ensures.facts (λ other. fault_of_length c.args.graph.now c.args.bytes.now c.in_default.ensures)

pub returns-in_default-clause-fault : goal.returns-in_default-clause-fault
returns-in_default-clause-fault c = λ other. fault_of_length c.args.graph.now c.args.bytes.now c.in_default.ensures

pub returns-in_err-reduce-clause-fault : goal.returns-in_err-reduce-clause-fault
returns-in_err-reduce-clause-fault c =
    let front = ap (whole_numbers 4) (c.split_at.ensures.front ∙ ap (take (c.in-Some.count * 4)) (take_rest c.args.bytes.now 8) ∙ ap (λ n. take (n * 4) (drop 8 c.args.bytes.now)) c.in-Some.ensures.1) in
    let p = err_from_is_err_and c.from_residual.result c.from_residual.ensures.1 in
    rw (p.1, p.2) (λ other. fault_of_reduce c.args.graph.now c.args.bytes.now c.in_err-reduce.field-0.0 c.in-Some.ensures.0 (ap (ids_fault (masters_here c.args.graph.now) 0) (sym front) ∙ c.in_err-reduce.ensures.fault other))

pub returns-in_err-reduce-clause-accepts : goal.returns-in_err-reduce-clause-accepts
returns-in_err-reduce-clause-accepts c = λ reduce spread told wanted e.
    let front = ap (whole_numbers 4) (c.split_at.ensures.front ∙ ap (take (c.in-Some.count * 4)) (take_rest c.args.bytes.now 8) ∙ ap (λ n. take (n * 4) (drop 8 c.args.bytes.now)) c.in-Some.ensures.1) in
    let p = err_from_is_err_and c.from_residual.result c.from_residual.ensures.1 in
    rw (p.1, p.2)
    (only_memory c.args.graph.now c.args.bytes.now c.in_err-reduce.field-0.0 c.nodes.ensures.facts
    (λ other. fault_of_reduce c.args.graph.now c.args.bytes.now c.in_err-reduce.field-0.0 c.in-Some.ensures.0 (ap (ids_fault (masters_here c.args.graph.now) 0) (sym front) ∙ c.in_err-reduce.ensures.fault other))
    reduce spread told wanted e)

pub read_list-requires-2 : goal.read_list-requires-2
read_list-requires-2 c =
    let front = ap (whole_numbers 4) (c.split_at.ensures.front ∙ ap (take (c.in-Some.count * 4)) (take_rest c.args.bytes.now 8) ∙ ap (λ n. take (n * 4) (drop 8 c.args.bytes.now)) c.in-Some.ensures.1) in
    let fit : AreBytes c.args.bytes.now = AreBytes-from_get_or c.args.bytes.now (λ k. omega (arith, c.type_inv.bytes k)) in
    let many = ap length (c.in_ok-reduce.ensures.ids ∙ front) ∙ reduce_many c.args.bytes.now fit c.in-Some.ensures.0 in
    let few = c.in_ok-reduce.ensures.few in
    let count = c.in-Some.ensures.1 in
    omega arith

pub returns-in_err-spread-clause-fault : goal.returns-in_err-spread-clause-fault
returns-in_err-spread-clause-fault c =
    let front = ap (whole_numbers 4) (c.split_at.ensures.front ∙ ap (take (c.in-Some.count * 4)) (take_rest c.args.bytes.now 8) ∙ ap (λ n. take (n * 4) (drop 8 c.args.bytes.now)) c.in-Some.ensures.1) in
    let back = ap (whole_numbers 4) (c.split_at.ensures.back ∙ ap (drop (c.in-Some.count * 4)) (take_rest c.args.bytes.now 8) ∙ ap (λ n. drop (n * 4) (drop 8 c.args.bytes.now)) c.in-Some.ensures.1) in
    let sound = ap (ids_fault (masters_here c.args.graph.now) 0) (sym (c.in_ok-reduce.ensures.ids ∙ front)) ∙ no_fault c.args.graph.now 0 c.in_ok-reduce.reduce.globals (ids_of_masters c.args.graph.now c.in_ok-reduce.reduce c.in_ok-reduce.ensures.list) in
    let p = err_from_is_err_and c.from_residual-in_err-spread.result c.from_residual-in_err-spread.ensures.1 in
    rw (p.1, p.2)
    (λ other. fault_of_spread c.args.graph.now c.args.bytes.now c.in_err-spread.field-0.0 c.in-Some.ensures.0 sound
    (ap (ids_fault (masters_here c.args.graph.now) (reduce_count c.args.bytes.now)) (sym back)
    ∙ ap (λ n. ids_fault (masters_here c.args.graph.now) n (whole_numbers 4 c.split_at.result.1.now)) (sym c.in-Some.ensures.1)
    ∙ c.in_err-spread.ensures.fault other))

pub returns-in_err-spread-clause-accepts : goal.returns-in_err-spread-clause-accepts
returns-in_err-spread-clause-accepts c = λ reduce spread told wanted e.
    let front = ap (whole_numbers 4) (c.split_at.ensures.front ∙ ap (take (c.in-Some.count * 4)) (take_rest c.args.bytes.now 8) ∙ ap (λ n. take (n * 4) (drop 8 c.args.bytes.now)) c.in-Some.ensures.1) in
    let back = ap (whole_numbers 4) (c.split_at.ensures.back ∙ ap (drop (c.in-Some.count * 4)) (take_rest c.args.bytes.now 8) ∙ ap (λ n. drop (n * 4) (drop 8 c.args.bytes.now)) c.in-Some.ensures.1) in
    let sound = ap (ids_fault (masters_here c.args.graph.now) 0) (sym (c.in_ok-reduce.ensures.ids ∙ front)) ∙ no_fault c.args.graph.now 0 c.in_ok-reduce.reduce.globals (ids_of_masters c.args.graph.now c.in_ok-reduce.reduce c.in_ok-reduce.ensures.list) in
    let p = err_from_is_err_and c.from_residual-in_err-spread.result c.from_residual-in_err-spread.ensures.1 in
    rw (p.1, p.2)
    (only_memory c.args.graph.now c.args.bytes.now c.in_err-spread.field-0.0 c.nodes.ensures.facts
    (λ other. fault_of_spread c.args.graph.now c.args.bytes.now c.in_err-spread.field-0.0 c.in-Some.ensures.0 sound
    (ap (ids_fault (masters_here c.args.graph.now) (reduce_count c.args.bytes.now)) (sym back)
    ∙ ap (λ n. ids_fault (masters_here c.args.graph.now) n (whole_numbers 4 c.split_at.result.1.now)) (sym c.in-Some.ensures.1)
    ∙ c.in_err-spread.ensures.fault other))
    reduce spread told wanted e)

pub returns-clause-payload : goal.returns-clause-payload
returns-clause-payload c =
    let front = ap (whole_numbers 4) (c.split_at.ensures.front ∙ ap (take (c.in-Some.count * 4)) (take_rest c.args.bytes.now 8) ∙ ap (λ n. take (n * 4) (drop 8 c.args.bytes.now)) c.in-Some.ensures.1) in
    let back = ap (whole_numbers 4) (c.split_at.ensures.back ∙ ap (drop (c.in-Some.count * 4)) (take_rest c.args.bytes.now 8) ∙ ap (λ n. drop (n * 4) (drop 8 c.args.bytes.now)) c.in-Some.ensures.1) in
    let fit : AreBytes c.args.bytes.now = AreBytes-from_get_or c.args.bytes.now (λ k. omega (arith, c.type_inv.bytes k)) in
    payload_is c.args.bytes.now fit c.in-Some.ensures.0
    ∙ ap (λ l. payload l (spread_ids c.args.bytes.now)) (sym (c.in_ok-reduce.ensures.ids ∙ front))
    ∙ ap (payload c.in_ok-reduce.reduce.globals) (sym (c.in_ok-spread.ensures.ids ∙ back))
