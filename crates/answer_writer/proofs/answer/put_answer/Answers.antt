use Rattle.std.proofs.Common.{◌≡◌, ◌^◌, ◌<◌, ◌≤◌, [], drop, length, decimal, arith, lit<}
use Rattle.std.proofs.lemmas.List.{drop_all}
use Rattle.std.proofs.lemmas.Fmt.{length-decimal-le}
use Rattle.answer_writer.proofs.answer.put_answer.Goals as goal

pub write_digits-requires : goal.write_digits-requires
write_digits-requires c =
    let fits : c.from.result < 2 ^ 32 = omega (arith, c.ranges.v.fits) in
    let short : length (decimal c.from.result) ≤ 10 = length-decimal-le 10 c.from.result (lit< tt) (omega arith) (omega arith) in
    (omega arith, omega arith)

pub returns-clause-written : goal.returns-clause-written
returns-clause-written c =
    let none : drop 32 c.args.line.now ≡ [] = drop_all 32 c.args.line.now (omega arith) in
    cc (c.write_digits.ensures.written, c.from.ensures, c.put_byte-space.ensures.written, c.put_value-value_start.ensures.written, c.put_byte-newline.ensures.written)
