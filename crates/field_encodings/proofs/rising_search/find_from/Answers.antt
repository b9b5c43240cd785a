use Rattle.std.proofs.Common.{arith, inl, inr}
use Rattle.std.proofs.lemmas.Bool.{cases_lt}
use Rattle.field_encodings.proofs.RisingSearch.{found_between, missing_between}
use Rattle.field_encodings.proofs.rising_search.find_from.Goals as goal

pub returns-in-Ok : goal.returns-in-Ok
returns-in-Ok c =
    let h = found_between c.args.xs.now c.narrow_from-start.result.0 c.narrow_from-start.result.1 c.args.x c.requires.rising c.narrow_from-start.ensures.order c.narrow_from-start.ensures.inside c.in-Ok.place c.in-Ok.ensures.position in
    (omega (arith, c.narrow_from-start.ensures.since), omega (arith, h.0, c.narrow_from-start.ensures.inside), h.1)

pub returns-in-Err : goal.returns-in-Err
returns-in-Err c =
    let h = missing_between c.args.xs.now c.narrow_from-start.result.0 c.narrow_from-start.result.1 c.args.x c.requires.rising c.narrow_from-start.ensures.order c.narrow_from-start.ensures.inside c.in-Err.place c.in-Err.ensures.position in (
      omega (arith, c.narrow_from-start.ensures.since),
      omega (arith, h.0, c.narrow_from-start.ensures.inside),
      λ k a b. elim (cases_lt k c.narrow_from-start.result.0) [ inl low ↦ c.narrow_from-start.ensures.lower k a low | inr high ↦ h.1 k high b ],
      λ k a b. elim (cases_lt k c.narrow_from-start.result.1) [ inl low ↦ h.2 k a low | inr high ↦ c.narrow_from-start.ensures.higher k high b ],
    )
