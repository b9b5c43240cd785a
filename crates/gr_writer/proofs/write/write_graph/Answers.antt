use Rattle.std.proofs.Common.{rules}
use Rattle.std.proofs.lemmas.Result.{err_from_is_err_and}
use Rattle.io_edge.proofs.Flushes.{flush-writes, flush-whole, flush-front, WroteFront-below}
use Rattle.gr_writer.proofs.write.write_graph.Goals as goal

pub returns-in_err-write_sections-clause-prefix : goal.returns-in_err-write_sections-clause-prefix
returns-in_err-write_sections-clause-prefix g c =
    let p = err_from_is_err_and c.from_residual.result c.from_residual.ensures.1 in
    rw p.1 (WroteFront-below g.K.Sink _ _ c.new-page.result c.write_sections.new.sink _ c.new-page.ensures.same_sink c.new-page.ensures.empty (search rules) c.in_err-write_sections.ensures.front)

pub returns-clause-whole : goal.returns-clause-whole
returns-clause-whole g c =
    flush-whole c.flush.result g.K.Sink _ _ c.new-page.result c.write_sections.new.sink c.flush.new.self _ c.new-page.ensures.same_sink c.new-page.ensures.empty
    c.in_ok-write_sections.ensures.all c.flush.ensures.kept c.flush.ensures.empty (search rules)

pub returns-clause-prefix : goal.returns-clause-prefix
returns-clause-prefix g c =
    flush-front c.flush.result g.K.Sink _ _ c.new-page.result c.write_sections.new.sink c.flush.new.self _ c.new-page.ensures.same_sink c.new-page.ensures.empty
    c.in_ok-write_sections.ensures.all (flush-writes c.flush.result g.K.Sink c.write_sections.new.sink c.flush.new.self c.flush.ensures.same_reference c.flush.ensures.below c.flush.ensures.kept) (search rules)
