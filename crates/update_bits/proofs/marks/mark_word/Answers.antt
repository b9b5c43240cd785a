use Rattle.std.proofs.Common.{arith}
use Rattle.update_bits.proofs.Marked.{has_mark}
use Rattle.update_bits.proofs.marks.mark_word.Goals as goal

-- the mark of a word with a bit that is set is there
pub returns-else-words-place-eq0-clause-set : goal.returns-else-words-place-eq0-clause-set
returns-else-words-place-eq0-clause-set c =
    has_mark c.args.words.now c.args.marks.now c.args.place c.requires.marks (omega (arith, c.type_inv.words c.args.place)) (omega (arith, c.if-words-place-eq0.false))
