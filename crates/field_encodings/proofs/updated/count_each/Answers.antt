use Rattle.std.proofs.Common.{◌≡◌, ◌∙◌, [], sym, arith}
use Rattle.std.proofs.lemmas.Bool.{true≢false}
use Rattle.std.proofs.lemmas.List.{length-map}
use Rattle.list_laws.specs.Members.{has_member}
use Rattle.list_laws.proofs.Members.{members_since, members_since-end}
use Rattle.field_encodings.specs.Lists.{marks_at}
use Rattle.field_encodings.proofs.Counted.{IsCountedTo-start, IsCountedTo-step, IsCountedTo-count, IsCountedTo-greatest}
use Rattle.field_encodings.proofs.updated.count_each.Goals as goal
use Rattle.field_encodings.proofs.updated.count_each.Goals.{then-updated, else-updated}

pub loop-position-init : goal.loop-position-init
loop-position-init c = IsCountedTo-start c.args.bits.now c.args.locals.now

pub loop-position-preserved : goal.loop-position-preserved
loop-position-preserved c =
    IsCountedTo-step c.args.bits.now c.args.locals.now c.loop-position.position c.loop-position.count c.loop-position.greatest c.if-updated.greatest c.test-updated.result
    c.loop-position-test.true c.test-updated.ensures
    (λ yes. elim c.if-updated.branch [ then-updated w ↦ w.greatest-is | else-updated w ↦ absurd (true≢false (sym yes ∙ w.if-updated.false)) ])
    (λ no. elim c.if-updated.branch [ then-updated w ↦ absurd (true≢false (sym w.if-updated.true ∙ no)) | else-updated w ↦ w.greatest-is ])
    c.loop-position.invariant

pub returns-clause-count : goal.returns-clause-count
returns-clause-count c =
    let none : members_since (marks_at c.args.bits.now c.args.locals.now) c.loop-position.position ≡ []
    = members_since-end (marks_at c.args.bits.now c.args.locals.now) c.loop-position.position (omega (arith, length-map c.args.locals.now (has_member c.args.bits.now))) in
    IsCountedTo-count c.args.bits.now c.args.locals.now c.loop-position.position c.loop-position.count c.loop-position.greatest none c.loop-position.invariant

pub returns-clause-greatest : goal.returns-clause-greatest
returns-clause-greatest c =
    let none : members_since (marks_at c.args.bits.now c.args.locals.now) c.loop-position.position ≡ []
    = members_since-end (marks_at c.args.bits.now c.args.locals.now) c.loop-position.position (omega (arith, length-map c.args.locals.now (has_member c.args.bits.now))) in
    IsCountedTo-greatest c.args.bits.now c.args.locals.now c.loop-position.position c.loop-position.count c.loop-position.greatest none c.loop-position.invariant
