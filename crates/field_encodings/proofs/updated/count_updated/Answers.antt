use Rattle.std.proofs.Common.{length, arith, ap, sym}
use Rattle.std.proofs.lemmas.List.{length-map}
use Rattle.list_laws.specs.Members.{has_member}
use Rattle.list_laws.proofs.Members.{members_since-none, IsMember-lt-length}
use Rattle.field_encodings.specs.Lengths.{greatest_of}
use Rattle.field_encodings.specs.Lists.{marks_at}
use Rattle.field_encodings.proofs.updated.count_updated.Goals as goal

pub returns-in_default-clause-count : goal.returns-in_default-clause-count
returns-in_default-clause-count c = ap length (sym (members_since-none (marks_at c.args.bits.now c.args.locals.now) 0 c.in_default.ensures))

pub returns-in_default-clause-greatest : goal.returns-in_default-clause-greatest
returns-in_default-clause-greatest c = ap greatest_of (sym (members_since-none (marks_at c.args.bits.now c.args.locals.now) 0 c.in_default.ensures))

pub are_many-requires-clause-some : goal.are_many-requires-clause-some
are_many-requires-clause-some c =
    omega (arith, IsMember-lt-length (marks_at c.args.bits.now c.args.locals.now) c.in-Some.first c.in-Some.ensures.member, length-map c.args.locals.now (has_member c.args.bits.now))
