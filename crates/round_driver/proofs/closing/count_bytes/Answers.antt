use Rattle.std.proofs.Common.{List, ℕ, length, map, take, sym, ap, ◌∙◌, ◌+◌, arith}
use Rattle.std.specs.List.{sum_by, range_with_len}
use Rattle.std.proofs.lemmas.List.{length-map, take_all}
use Rattle.std.proofs.lemmas.List.FromFn.{length-range_with_len}
use Rattle.packet_table.specs.Table.{payload_of}
use Rattle.round_driver.proofs.Closed.{bytes_more, bytes_fit_more}
use Rattle.round_driver.proofs.closing.count_bytes.Goals as goal

pub overflow_add-bytes : goal.overflow_add-bytes
overflow_add-bytes c =
    let table = c.args.channels.now in
    let count = c.count-id-end.ensures.count in
    let early = c.loop-id-test.true in
    let fits = bytes_fit_more table c.count-id-end.ensures.facts c.loop-id.id (omega arith) in
    let so_far = c.loop-id.invariant in
    let same = ap (λ (l : List ℕ). length l) c.payload.ensures.payload in
    omega arith

pub loop-id-preserved : goal.loop-id-preserved
loop-id-preserved c =
    let table = c.args.channels.now in
    let count = c.count-id-end.ensures.count in
    let early = c.loop-id-test.true in
    let more = bytes_more table c.count-id-end.ensures.facts c.loop-id.id (omega arith) in
    ap (λ n. n + length c.payload.result.now) c.loop-id.invariant
    ∙ ap (λ (l : List ℕ). sum_by length (take c.loop-id.id (map (payload_of table) (range_with_len 0 (length table.specs)))) + length l) c.payload.ensures.payload
    ∙ sym more

pub returns : goal.returns
returns c =
    let table = c.args.channels.now in
    let count = c.count-id-end.ensures.count in
    let late = c.loop-id-test.false in
    let long = length-map (range_with_len 0 (length table.specs)) (payload_of table) in
    let many = length-range_with_len 0 (length table.specs) in
    c.loop-id.invariant ∙ ap (sum_by length) (take_all c.loop-id.id (map (payload_of table) (range_with_len 0 (length table.specs))) (omega arith))
