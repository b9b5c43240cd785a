use Rattle.std.proofs.Common.{arith, lit<, rules}
use Rattle.std.proofs.lemmas.Fmt.{length-decimal-le}
use Rattle.answer_writer.proofs.digits.put_number.Goals as goal

pub write_digits-requires : goal.write_digits-requires
write_digits-requires c = search (rules, length-decimal-le 20)

pub returns-clause-start : goal.returns-clause-start
returns-clause-start c = omega (arith, length-decimal-le 20 c.args.n (lit< tt) (omega arith) c.ranges.n.fits, c.write_digits.ensures.start)
