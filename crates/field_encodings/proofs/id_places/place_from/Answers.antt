use Rattle.std.proofs.Common.{arith, inl, inr}
use Rattle.std.proofs.lemmas.Bool.{cases_lt}
use Rattle.field_encodings.proofs.Lookups.{among_nowhere}
use Rattle.field_encodings.proofs.id_places.place_from.Goals as goal

pub returns-in-Err : goal.returns-in-Err
returns-in-Err c =
    among_nowhere c.args.ids.now c.args.from c.args.id
    (λ k a b e. elim (cases_lt k c.in-Err.field-0) [
      | inl low ↦ omega (arith, c.in-Err.ensures.2 k a low)
      | inr high ↦ omega (arith, c.in-Err.ensures.3 k high b)
    ])
