use Rattle.std.proofs.Common.{◌≡◌, ℕ, ◌-◌, ◌*◌, ◌<◌, ◌≤◌, false, length}
use Rattle.list_laws.specs.Bits.{bit_in}
use Rattle.update_bits.proofs.marks.next_from_word.Given as goal

-- no bit of the words that were passed is set
abbrev pub invariant-loop-place : goal.invariant-loop-place
invariant-loop-place l = (l.start ≤ l.from) × ((k : ℕ) → l.start * 64 ≤ k → k < l.from * 64 → bit_in l.words k ≡ false)

abbrev pub decreases-loop-place : goal.decreases-loop-place
decreases-loop-place l = length l.words - l.from
