use Rattle.std.proofs.Common.{arith, get_or, ◌+◌, ◌-◌}
use Rattle.field_encodings.proofs.NextUpdated.{jump_none, jump_found}
use Rattle.field_encodings.proofs.next_updated.next_updated.Goals as goal

pub returns-in_err-member : goal.returns-in_err-member
returns-in_err-member c =
    rw c.from_residual.ensures
    (jump_none c.args.bits.now c.args.locals.now c.requires.rise c.args.place c.in_err-member.ensures.next)

pub returns-then-locals-ahead : goal.returns-then-locals-ahead
returns-then-locals-ahead c =
    jump_found c.args.bits.now c.args.locals.now c.requires.rise c.args.place (c.args.place + (c.in_ok-member.member - get_or c.args.locals.now c.args.place 0)) c.in_ok-member.member (omega arith) c.if-ahead-locals.true c.if-locals-ahead.true c.in_ok-member.ensures.next
