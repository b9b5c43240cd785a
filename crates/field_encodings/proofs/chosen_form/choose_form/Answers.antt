use Rattle.std.proofs.Common.{arith, refl}
use Rattle.field_encodings.specs.Lengths.{form_length}
use Rattle.field_encodings.proofs.Shortest.{IsShortest-first_least}
use Rattle.field_encodings.proofs.chosen_form.choose_form.Goals as goal
use Rattle.field_encodings.proofs.chosen_form.choose_form.Goals.{then-n-eq0, else-n-eq0}

pub returns-clause-sent : goal.returns-clause-sent
returns-clause-sent c =
    elim c.if-n-eq0.branch [
      | then-n-eq0 w ↦ rw w.tag-is (record { shortest = λ some. absurd (omega arith); empty = λ _. refl })
      | else-n-eq0 w ↦ rw w.tag-is (record {
        shortest = λ _. IsShortest-first_least (form_length c.args.n c.args.u c.args.greatest c.args.width) c.lengths-lengths.result w.first_least-tag.result
            c.lengths-lengths.ensures w.first_least-tag.ensures.within w.first_least-tag.ensures.least w.first_least-tag.ensures.first;
        empty = λ none. absurd (omega arith);
      })
    ]
