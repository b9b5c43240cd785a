use Rattle.std.proofs.Common.{◌≡◌, ◌+◌, take, sum_by, count_ones}
use Rattle.update_bits.proofs.words.word_of_nth.Given as goal

-- the bits of the words that were passed, and what is left
abbrev pub invariant-loop-number : goal.invariant-loop-number
invariant-loop-number l = sum_by count_ones (take l.number l.words) + l.left ≡ l.place
