use Rattle.std.proofs.Common.{◌≡◌, ◌<◌, ◌+◌, ◌-◌, ℕ, List, length, get_or, arith}
use Rattle.std.specs.List.{range_with_len}
use Rattle.field_encodings.proofs.Runs.{first_last, row_last}
use Rattle.gluon_reduce.proofs.Runs.{cleared_row}
use Rattle.gluon_reduce.proofs.resetting.clear_listed.Goals as goal

pub clear_between-requires-clause-order : goal.clear_between-requires-clause-order
clear_between-requires-clause-order c =
    let some : 0 < length c.args.locals.now = c.is_run.ensures.some c.if-is_run.true in
    omega (arith, first_last c.args.locals.now c.requires.rise some)

pub returns-then-is_run : goal.returns-then-is_run
returns-then-is_run c =
    let locals : List ℕ = c.args.locals.now in
    let first : ℕ = get_or locals 0 0 in
    let count : ℕ = length locals in
    let some : 0 < count = c.is_run.ensures.some c.if-is_run.true in
    let row : locals ≡ range_with_len first count = c.is_run.ensures.row c.if-is_run.true in
    let last : get_or locals (count - 1) 0 ≡ first + (count - 1) = row_last locals first row some in
    cleared_row c.args.bits.now c.clear_between.new.self locals first count (get_or locals (count - 1) 0 + 1) row (omega (arith, last)) (omega (arith, c.if-prove.false, c.len-proxies.ensures)) c.clear_between.ensures.length c.clear_between.ensures.members
