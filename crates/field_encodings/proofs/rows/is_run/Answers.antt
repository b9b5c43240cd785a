use Rattle.std.proofs.Common.{◌<◌, length, arith, slice_index}
use Rattle.std.proofs.lemmas.Bool.{eqb-true, eq-eqb}
use Rattle.field_encodings.proofs.Runs.{first_last, row_of, row_last}
use Rattle.field_encodings.proofs.rows.is_run.Goals as goal

pub overflow_sub-result : goal.overflow_sub-result
overflow_sub-result c = omega arith

pub overflow_sub-result-2 : goal.overflow_sub-result-2
overflow_sub-result-2 c = first_last c.args.locals.now c.requires (omega arith)

pub returns : goal.returns
returns c =
    let some : 0 < length c.args.locals.now = omega arith in record {
      some = λ _. some;
      row = λ told. row_of c.args.locals.now c.requires some (eqb-true _ _ told);
      told = λ _ row. eq-eqb _ _ (omega (arith, row_last c.args.locals.now (slice_index c.args.locals.now 0) row some));
    }
