use Rattle.std.proofs.Common.{◌≡◌, ◌<◌, length, arith, inl, inr, sym, ◌∙◌, ap}
use Rattle.std.proofs.lemmas.Bool.{cases_lt}
use Rattle.list_laws.specs.Members.{has_member}
use Rattle.field_encodings.specs.Lists.{marks_at}
use Rattle.field_encodings.proofs.NextUpdated.{mark_here}
use Rattle.field_encodings.proofs.next_updated.next_by_steps.Goals as goal

pub loop-position-preserved : goal.loop-position-preserved
loop-position-preserved c =
    λ k a b. elim (cases_lt k c.loop-position.position) [
      | inl low ↦ c.loop-position.invariant k a low
      | inr high ↦
          let same : k ≡ c.loop-position.position = omega arith in
          let inside : c.loop-position.position < length c.args.locals.now = omega (arith, c.loop-position-test.true, c.min-near.ensures) in
          ap (has_member (marks_at c.args.bits.now c.args.locals.now)) same
          ∙ mark_here c.args.bits.now c.args.locals.now c.loop-position.position inside ∙ sym c.test.ensures ∙ c.if-test.false
    ]
