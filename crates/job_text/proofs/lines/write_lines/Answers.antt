use Rattle.std.proofs.Common.{rules, OnErr, Result, Ok, Err}
use Rattle.io_edge.proofs.Flushes.{flush-writes, flush-whole, flush-front, WroteFront-below}
use Rattle.job_text.proofs.lines.write_lines.Goals as goal

OnErr-any : {T E P : Type 0} (r : Result T E) → P → OnErr r P
OnErr-any (Ok x) fact = tt
OnErr-any (Err e) fact = fact

pub returns-in_err-write_each_line-clause-prefix : goal.returns-in_err-write_each_line-clause-prefix
returns-in_err-write_each_line-clause-prefix g c =
    OnErr-any _ (WroteFront-below g.K.Sink _ _ c.new-page.result c.write_each_line.new.sink _ c.new-page.ensures.same_sink c.new-page.ensures.empty (search rules) c.in_err-write_each_line.ensures.written.front)

pub returns-clause-whole : goal.returns-clause-whole
returns-clause-whole g c =
    flush-whole c.flush.result g.K.Sink _ _ c.new-page.result c.write_each_line.new.sink c.flush.new.self _ c.new-page.ensures.same_sink c.new-page.ensures.empty c.in_ok-write_each_line.ensures.written.all c.flush.ensures.kept c.flush.ensures.empty (search rules)

pub returns-clause-prefix : goal.returns-clause-prefix
returns-clause-prefix g c =
    flush-front c.flush.result g.K.Sink _ _ c.new-page.result c.write_each_line.new.sink c.flush.new.self _ c.new-page.ensures.same_sink c.new-page.ensures.empty c.in_ok-write_each_line.ensures.written.all
    (flush-writes c.flush.result g.K.Sink c.write_each_line.new.sink c.flush.new.self c.flush.ensures.same_reference c.flush.ensures.below c.flush.ensures.kept) (search rules)
