use Rattle.std.proofs.Common.{rules, OnErr, Result, Ok, Err}
use Rattle.io_edge.proofs.Writings.{WroteAll-++, WroteFront-more, WroteFront-++}
use Rattle.io_edge.proofs.Flushes.{flush-writes, flush-whole, flush-front, WroteFront-below}
use Rattle.io_edge.proofs.page_caller.write_twice.Goals as goal

OnErr-any : {T E P : Type 0} (r : Result T E) → P → OnErr r P
OnErr-any (Ok x) fact = tt
OnErr-any (Err e) fact = fact

pub returns-in_err-write_whole-clause-prefix : goal.returns-in_err-write_whole-clause-prefix
returns-in_err-write_whole-clause-prefix g c =
    OnErr-any _ (WroteFront-below g.K.Sink _ _ c.new-page.result c.write_whole.new.sink _ c.new-page.ensures.same_sink c.new-page.ensures.empty (search rules) (WroteFront-more c.args.second.now c.in_err-write_whole.ensures.written.front))

pub returns-in_err-write_whole-2-clause-prefix : goal.returns-in_err-write_whole-2-clause-prefix
returns-in_err-write_whole-2-clause-prefix g c =
    OnErr-any _ (WroteFront-below g.K.Sink _ _ c.new-page.result c.write_whole-2.new.sink _ c.new-page.ensures.same_sink c.new-page.ensures.empty (search rules) (WroteFront-++ c.in_ok-write_whole.ensures.written.all c.in_err-write_whole-2.ensures.written.front))

pub returns-clause-whole : goal.returns-clause-whole
returns-clause-whole g c =
    flush-whole c.flush.result g.K.Sink _ _ c.new-page.result c.write_whole-2.new.sink c.flush.new.self _ c.new-page.ensures.same_sink c.new-page.ensures.empty (WroteAll-++ c.in_ok-write_whole.ensures.written.all c.in_ok-write_whole-2.ensures.written.all) c.flush.ensures.kept c.flush.ensures.empty (search rules)

pub returns-clause-prefix : goal.returns-clause-prefix
returns-clause-prefix g c =
    flush-front c.flush.result g.K.Sink _ _ c.new-page.result c.write_whole-2.new.sink c.flush.new.self _ c.new-page.ensures.same_sink c.new-page.ensures.empty (WroteAll-++ c.in_ok-write_whole.ensures.written.all c.in_ok-write_whole-2.ensures.written.all) (flush-writes c.flush.result g.K.Sink c.write_whole-2.new.sink c.flush.new.self c.flush.ensures.same_reference c.flush.ensures.below c.flush.ensures.kept) (search rules)
