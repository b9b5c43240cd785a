use Rattle.std.proofs.Common.{rules}
use Rattle.std.proofs.lemmas.Result.{err_from_is_err_and}
use Rattle.gluon_top.proofs.Running.{passes_stop, passes_broken_flush}
use Rattle.gluon_top.proofs.runs.run_in_pages.Goals as goal

pub returns-in_err-last-clause-written : goal.returns-in_err-last-clause-written
returns-in_err-last-clause-written g c = λ graph fact shared.
    let p = err_from_is_err_and c.from_residual.result c.from_residual.ensures.1 in
    rw (p.1, p.2) (passes_stop c.args.program c.args.run graph g.K.Sink _ _ c.new-page.result c.write_run.new.sink c.new-page.ensures.same_sink c.new-page.ensures.empty (search rules) c.in_err-last.field-0.0 (c.in_err-last.ensures.written graph fact shared))

pub returns-in_err-flush-clause-written : goal.returns-in_err-flush-clause-written
returns-in_err-flush-clause-written g c = λ graph fact shared.
    let p = err_from_is_err_and c.from_residual-in_err-flush.result c.from_residual-in_err-flush.ensures.1 in
    rw (p.1, p.2) (passes_broken_flush c.args.program c.args.run graph g.K.Sink _ _ c.new-page.result c.write_run.new.sink c.flush.new.self c.in_err-flush.field-0.0 c.in_ok-last.last c.new-page.ensures.same_sink c.new-page.ensures.empty (search rules)
    (c.in_ok-last.ensures.written graph fact shared) c.in_err-flush.ensures.same_reference c.in_err-flush.ensures.below c.in_err-flush.ensures.kept)
