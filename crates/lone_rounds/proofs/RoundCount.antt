-- A program takes one number of rounds.
use Rattle.std.proofs.Common.{arith}
use Rattle.reduce_laws.specs.ReductionLaws.{Reducer}
use Rattle.reduce_laws.specs.ProgramLaws.{Steps}
use Rattle.lone_rounds.specs.Laws.{RoundCountIsUnique}

pub round_count_is_unique : {Item State Shown : Type 0} (reducer : Reducer Item) (steps : Steps Item State Shown) → RoundCountIsUnique reducer steps
round_count_is_unique reducer steps nodes arcs rounds others one two =
    let below = one.first two.before two.quiet in
    let above = two.first one.before one.quiet in
    let last = one.last in
    let other = two.last in omega arith
