use Rattle.std.proofs.Common.{◌≡◌, ℕ, ◌<◌, get_or}
use Rattle.update_bits.specs.Words.{AreMarks}
use Rattle.update_bits.proofs.marks.clear_marked.Given as goal

-- the mark words that were passed are 0
abbrev pub invariant-loop-place : goal.invariant-loop-place
invariant-loop-place l = ((k : ℕ) → k < l.place → get_or l.marks k 0 ≡ 0) × AreMarks l.words l.marks
