use Rattle.std.proofs.Common.{◌≡◌, ℕ, ◌<◌, take, length, slice_index_or, sum_by, count_ones}
use Rattle.update_bits.proofs.words.ones_before.Given as goal

-- the bits of the words that were passed, and those before each of them
abbrev pub invariant-loop-word : goal.invariant-loop-word
invariant-loop-word l =
    (l.passed ≡ sum_by count_ones (take l.word-index l.words)) × (length l.before.items ≡ l.word-index)
    × ((w : ℕ) → w < l.word-index → slice_index_or l.before.items w 0 ≡ sum_by count_ones (take w l.words))
