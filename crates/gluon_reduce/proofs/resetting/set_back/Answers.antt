use Rattle.std.proofs.Common.{◌≡◌, ◌<◌, ◌+◌, ◌-◌, ◌∙◌, ℕ, List, cond, sym, ap, length, get_or, arith}
use Rattle.std.specs.List.{range_with_len}
use Rattle.list_laws.specs.Among.{is_among}
use Rattle.field_encodings.proofs.Runs.{first_last, row_last}
use Rattle.gluon_reduce.proofs.Runs.{row_has}
use Rattle.gluon_reduce.proofs.resetting.set_back.Goals as goal

pub set_back_row-requires-clause-order : goal.set_back_row-requires-clause-order
set_back_row-requires-clause-order g c = first_last c.args.locals.now c.requires.rise (c.is_run.ensures.some c.if-not-is_run.false)

pub returns : goal.returns
returns g c l d =
    let locals : List ℕ = c.args.locals.now in
    let first : ℕ = get_or locals 0 0 in
    let count : ℕ = length locals in
    let some : 0 < count = c.is_run.ensures.some c.if-not-is_run.false in
    let row : locals ≡ range_with_len first count = c.is_run.ensures.row c.if-not-is_run.false in
    let last : get_or locals (count - 1) 0 ≡ first + (count - 1) = row_last locals first row some in
    c.set_back_row.ensures l d
    ∙ sym (ap (λ b. cond b g.R.Reduction.reducer.identity (get_or c.args.kept.now l d))
    (ap (λ ls. is_among ls l) row ∙ row_has first count (get_or locals (count - 1) 0) l (omega (arith, last))))
