use Rattle.std.proofs.Common.{None, Some, arith, inl, inr}
use Rattle.std.proofs.lemmas.Bool.{cases_lt}
use Rattle.list_laws.proofs.Since.{next_member-later}
use Rattle.field_encodings.specs.Lists.{marks_at}
use Rattle.field_encodings.proofs.NextUpdated.{jump_none, jump_past, jump_found, jump_none_before}
use Rattle.field_encodings.proofs.next_updated.next_by_jumps.Goals as goal

pub returns-in_err-member : goal.returns-in_err-member
returns-in_err-member c =
    rw c.from_residual.ensures
    (next_member-later (marks_at c.args.bits.now c.args.locals.now) c.args.place c.loop-from.from None c.loop-from.invariant.since c.loop-from.invariant.none
    (jump_none c.args.bits.now c.args.locals.now c.requires.rise c.loop-from.from c.in_err-member.ensures.next))

pub returns-in-Ok : goal.returns-in-Ok
returns-in-Ok c =
    next_member-later (marks_at c.args.bits.now c.args.locals.now) c.args.place c.loop-from.from (Some c.in-Ok.found) c.loop-from.invariant.since c.loop-from.invariant.none
    (jump_found c.args.bits.now c.args.locals.now c.requires.rise c.loop-from.from c.in-Ok.found _ c.in-Ok.ensures.0 c.in-Ok.ensures.1 c.in-Ok.ensures.2 c.in_ok-member.ensures.next)

pub loop-from-preserved : goal.loop-from-preserved
loop-from-preserved c = record {
  since = omega (arith, c.loop-from.invariant.since, c.in-Err.ensures.0);
  within = c.in-Err.ensures.1;
  none = λ k a b. elim (cases_lt k c.loop-from.from) [
    | inl low ↦ c.loop-from.invariant.none k a low
    | inr high ↦ jump_none_before c.args.bits.now c.args.locals.now c.requires.rise c.loop-from.from c.in-Err.behind _ c.in-Err.ensures.1 c.in-Err.ensures.2 c.in_ok-member.ensures.next k high b
  ];
}

pub returns-then-member-locals : goal.returns-then-member-locals
returns-then-member-locals c =
    next_member-later (marks_at c.args.bits.now c.args.locals.now) c.args.place c.loop-from.from None c.loop-from.invariant.since c.loop-from.invariant.none
    (jump_past c.args.bits.now c.args.locals.now c.requires.rise c.loop-from.from _ (omega arith) c.in_ok-member.ensures.next)
