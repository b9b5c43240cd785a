use Rattle.std.proofs.Common.{◌≡◌, []}
use Rattle.list_laws.proofs.Members.{members_since, members_since-none}
use Rattle.field_encodings.specs.Lists.{marks_at}
use Rattle.field_encodings.proofs.Counted.{IsCountedTo-start, IsCountedTo-next, IsCountedTo-count, IsCountedTo-greatest}
use Rattle.field_encodings.proofs.updated.count_from.Goals as goal

pub loop-position-init : goal.loop-position-init
loop-position-init c =
    IsCountedTo-next c.args.bits.now c.args.locals.now 0 0 0 c.args.first c.requires.first (IsCountedTo-start c.args.bits.now c.args.locals.now)

pub loop-position-preserved : goal.loop-position-preserved
loop-position-preserved c =
    IsCountedTo-next c.args.bits.now c.args.locals.now c.loop-position.place c.loop-position.count c.loop-position.greatest c.in-Some.position c.in-Some.ensures c.loop-position.invariant

pub returns-clause-count : goal.returns-clause-count
returns-clause-count c =
    let none : members_since (marks_at c.args.bits.now c.args.locals.now) c.loop-position.place ≡ []
    = members_since-none (marks_at c.args.bits.now c.args.locals.now) c.loop-position.place c.in_default.ensures in
    IsCountedTo-count c.args.bits.now c.args.locals.now c.loop-position.place c.loop-position.count c.loop-position.greatest none c.loop-position.invariant

pub returns-clause-greatest : goal.returns-clause-greatest
returns-clause-greatest c =
    let none : members_since (marks_at c.args.bits.now c.args.locals.now) c.loop-position.place ≡ []
    = members_since-none (marks_at c.args.bits.now c.args.locals.now) c.loop-position.place c.in_default.ensures in
    IsCountedTo-greatest c.args.bits.now c.args.locals.now c.loop-position.place c.loop-position.count c.loop-position.greatest none c.loop-position.invariant
