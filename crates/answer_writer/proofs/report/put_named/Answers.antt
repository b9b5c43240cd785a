use Rattle.std.proofs.Common.{◌≡◌, [], drop, arith}
use Rattle.std.proofs.lemmas.List.{drop_all}
use Rattle.answer_writer.proofs.report.put_named.Goals as goal

pub returns-clause-written : goal.returns-clause-written
returns-clause-written c =
    let none : drop 50 c.args.line.now ≡ [] = drop_all 50 c.args.line.now (omega arith) in
    cc (c.put_bytes.ensures.written, c.put_byte-space.ensures.written, c.put_bytes-told_start.ensures.written, c.put_byte-newline.ensures.written)
